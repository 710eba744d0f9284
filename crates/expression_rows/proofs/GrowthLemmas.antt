-- What was known over a table is known over one that types joined.
use Rattle.std.proofs.Common.{◌≡◌, Option, Some, None, IfSome, refl, sym, ap, ◌∙◌}
use Rattle.sparse_model.specs.declared.ids.TypeId.{TypeId}
use Rattle.meaning_typing.specs.Facts as meaning
use Rattle.c_types.specs.Table.{TypeTable}
use Rattle.node_facts.specs.declared.expression.ExpressionFact.{ExpressionFact}
use Rattle.expression_rows.specs.declared.value.Valued.{Valued}
use Rattle.node_facts.specs.Growing.{TypesJoin}
use Rattle.node_facts.specs.Facts.{IsKnownFact}
use Rattle.expression_rows.specs.Facts.{IsValueOf, IsValued, valued_part}
pub use Rattle.node_facts.proofs.GrowthLemmas.{joins_on, joins_none, id_later, type_later, fact_later, made_type, made_known}

module _ (old new : TypeTable) (join : TypesJoin old new) where
  pub value_later : (fact : ExpressionFact) (of : TypeId) → IsKnownFact old fact → IsValueOf old fact of → IsValueOf new fact of
  value_later fact of known value =
      record {
        known = id_later old new join of value.known;
        value = type_later old new join of value.known ∙ value.value ∙ sym (ap meaning.type_of_value (fact_later old new join fact known));
      }

  pub part_known : (part : Option Valued) → IfSome part (IsValued old) → IfSome part (IsValued new)
  part_known None known = known
  part_known (Some valued) known = (id_later old new join valued.fact.node.of known.0, value_later valued.fact valued.value known.0 known.1)

  pub part_later : (part : Option Valued) → IfSome part (IsValued old) → valued_part new part ≡ valued_part old part
  part_later None known = refl
  part_later (Some valued) known = ap meaning.Expression (fact_later old new join valued.fact known.0)
