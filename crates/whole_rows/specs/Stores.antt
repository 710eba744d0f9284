-- What a store takes for the place that is stored to: of an aggregate with a const member no place at all, since neither that nor a
-- const one can be written, and nothing else is asked of it.
use Rattle.std.specs.Prelude.{ℕ, Bool, false, if◌then◌else◌}
use Rattle.meaning_types.specs.Types.{TypeTree, Typed, AggregateTree}
use Rattle.meaning_typing.specs.Facts.{Fact, Expression, ExpressionFact}
use Rattle.c_types.specs.declared.outline.Outline.{Outline}
use Rattle.c_types.specs.declared.outline.Outline.TheVariants as outlines
use Rattle.node_facts.specs.declared.expression.ExpressionFact as code

-- the type is one of aggregates that have a const member
abbrev pub has_const_member : (ℕ → Bool) → TypeTree → Bool
has_const_member has_const (Typed (AggregateTree number is_union) _ _) = has_const number
has_const_member has_const (Typed base _ _) = false

-- by what the type is
abbrev pub has_const_in : (ℕ → Bool) → Outline → Bool
has_const_in has_const (outlines.Aggregate number is_union) = has_const number
has_const_in has_const outline = false

-- as a value
abbrev pub unplaced : ExpressionFact → ExpressionFact
unplaced expression = record expression { is_place = false }

abbrev pub place_stored : (ℕ → Bool) → ExpressionFact → ExpressionFact
place_stored has_const expression = if has_const_member has_const expression.type_ then unplaced expression else expression

abbrev pub part_stored : (ℕ → Bool) → Fact → Fact
part_stored has_const (Expression expression) = Expression (place_stored has_const expression)
part_stored has_const fact = fact

-- as it is made
abbrev pub unplaced_in : code.ExpressionFact → code.ExpressionFact
unplaced_in expression = record expression { marks = record expression.marks { is_place = false } }
