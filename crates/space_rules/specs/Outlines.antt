-- What a conversion says, by what is converted to what.
use Rattle.std.specs.Prelude.{ℕ, Bool}
use Rattle.meaning_types.specs.Types.{TypeTree, IntegerTree}
use Rattle.meaning_operands.specs.Operands.{Operand}
use Rattle.meaning_operands.specs.Conversions.{ConversionAnswer, Fails, Constraint, aggregates_answer, from_pointer_answer, integers_answer, pointers_answer, to_pointer_answer}
use Rattle.vocabulary.specs.declared.rule.RuleCode.TheVariants.{A2}
use Rattle.c_types.specs.declared.outline.Outline.{Outline}
use Rattle.c_types.specs.declared.outline.Outline.TheVariants as outlines

-- a pointer
abbrev pub pointer_becomes : (null : Bool) → (from to : TypeTree) → (target : Outline) → ConversionAnswer
pointer_becomes null from to outlines.Pointer = pointers_answer null from to
pointer_becomes null from to (outlines.Integer kind) = from_pointer_answer (IntegerTree kind)
pointer_becomes null from to (outlines.Restricted kind restrict) = Fails A2
pointer_becomes null from to target = Constraint

-- an integer, restricted or not
abbrev pub integer_becomes : Operand → (to : TypeTree) → (target : Outline) → ConversionAnswer
integer_becomes from to outlines.Pointer = to_pointer_answer from.zero
integer_becomes from to (outlines.Integer kind) = integers_answer from to
integer_becomes from to (outlines.Restricted kind restrict) = integers_answer from to
integer_becomes from to target = Constraint

-- an aggregate
abbrev pub aggregate_becomes : ℕ → Bool → (target : Outline) → ConversionAnswer
aggregate_becomes number is_union (outlines.Aggregate other is_other_union) = aggregates_answer number other is_union is_other_union
aggregate_becomes number is_union target = Constraint

-- any operand
abbrev pub becomes : Operand → (null : Bool) → (to : TypeTree) → (outline target : Outline) → ConversionAnswer
becomes from null to outlines.Pointer target = pointer_becomes null from.of to target
becomes from null to (outlines.Integer kind) target = integer_becomes from to target
becomes from null to (outlines.Restricted kind restrict) target = integer_becomes from to target
becomes from null to (outlines.Aggregate number is_union) target = aggregate_becomes number is_union target
becomes from null to outline target = Constraint
