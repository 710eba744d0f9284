-- How what is known of an expression is seen, over a table of types.
use Rattle.std.specs.Prelude.{◌≡◌, Option, Some, None}
use Rattle.sparse_model.specs.declared.ids.TypeId.{TypeId}
use Rattle.meaning_typing.specs.Facts as meaning
use Rattle.c_types.specs.Table.{TypeTable, IsTypeId, type_at}
use Rattle.node_facts.specs.declared.expression.ExpressionFact.{ExpressionFact}
use Rattle.expression_rows.specs.declared.value.Valued.{Valued}
use Rattle.node_facts.specs.Facts.{IsKnownFact, fact_seen}

-- of a part of which something may be known
abbrev pub part_seen : TypeTable → Option ExpressionFact → meaning.Fact
part_seen table None = meaning.Unknown
part_seen table (Some fact) = meaning.Expression (fact_seen table fact)

abbrev pub IsKnownPart : TypeTable → Option ExpressionFact → Type 0
IsKnownPart table None = Unit {0}
IsKnownPart table (Some fact) = IsKnownFact table fact

-- With the type of its value

-- this is the type of its value
pub record IsValueOf (table : TypeTable) (fact : ExpressionFact) (of : TypeId) : Type 0 where
  pub known : IsTypeId table of
  pub value : type_at table of ≡ meaning.type_of_value (fact_seen table fact)

abbrev pub IsValued : TypeTable → Valued → Type 0
IsValued table valued = IsKnownFact table valued.fact × IsValueOf table valued.fact valued.value

abbrev pub valued_seen : TypeTable → Valued → meaning.ExpressionFact
valued_seen table valued = fact_seen table valued.fact

abbrev pub valued_part : TypeTable → Option Valued → meaning.Fact
valued_part table None = meaning.Unknown
valued_part table (Some valued) = meaning.Expression (valued_seen table valued)
