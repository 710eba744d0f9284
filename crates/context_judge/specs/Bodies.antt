-- Functions with a body.
use Rattle.std.specs.Prelude.{ℕ, ◌<◌, ◌^◌}
use Rattle.sparse_model.specs.declared.ids.NameId.{NameId}
use Rattle.meaning_tree.specs.Nodes.{NodeList, end_of}
use Rattle.meaning_control.specs.Functions.{closing_brace, statement_of}
use Rattle.linear_code.specs.Known.{KnownFacts, judged_unit}

-- it is a node of the unit, and its closing brace stands at a token
pub record HasBody (list : NodeList NameId) (known : KnownFacts) (function : ℕ) : Type 0 where
  pub stands : statement_of (judged_unit list known) function < end_of list
  pub brace : closing_brace (judged_unit list known) function < 2 ^ 32
