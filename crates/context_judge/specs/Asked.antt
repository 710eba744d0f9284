-- What is asked of a unit before its functions are looked at.
use Rattle.std.specs.Prelude.{◌≡◌}
use Rattle.sparse_model.specs.declared.ids.NameId.{NameId}
use Rattle.meaning_tree.specs.Nodes.{NodeList}
use Rattle.meaning_tree.specs.Laid.{IsLaid}
use Rattle.decl_judge.specs.Units.{nodes_of}
use Rattle.linear_code.specs.Cells.{KnowsTokens}
use Rattle.linear_code.specs.Known.{KnownFacts}
use Rattle.linear_code.specs.Passed.{KnowsLists}

-- its nodes are laid from handle 0 on, no list of attributes declares an object, and the `while` of each `do` stands at a token
pub record IsReady (list : NodeList NameId) (known : KnownFacts) : Type 0 where
  pub whole : list.first ≡ 0
  pub laid : IsLaid list
  pub lists : KnowsLists (nodes_of list) known.facts
  pub tokens : KnowsTokens (nodes_of list)
