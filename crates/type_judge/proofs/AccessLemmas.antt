-- An access asks of what is known nothing but an expression.
use Rattle.std.proofs.Common.{◌≡◌, ℕ, refl}
use Rattle.meaning_typing.specs.Surroundings.{Surrounding}
use Rattle.meaning_typing.specs.Typing.{access_failures}
use Rattle.c_types.specs.Table.{TypeTable}
use Rattle.node_facts.specs.declared.fact.NodeFact.{NodeFact}
use Rattle.node_facts.specs.declared.fact.NodeFact.TheVariants as facts
use Rattle.node_facts.specs.Facts.{node_seen}
use Rattle.expression_rows.specs.Facts.{part_seen}
use Rattle.expr_judge.specs.Parts.{expression_in}

pub access_is : (table : TypeTable) (token : ℕ) (surrounding : Surrounding) (fact : NodeFact)
    → access_failures token surrounding (part_seen table (expression_in fact)) ≡ access_failures token surrounding (node_seen table fact)
access_is table token surrounding facts.Unknown = refl
access_is table token surrounding (facts.Expression expression) = refl
access_is table token surrounding (facts.Specified specifiers) = refl
access_is table token surrounding (facts.Declared declaration) = refl
access_is table token surrounding (facts.NamedType of) = refl
