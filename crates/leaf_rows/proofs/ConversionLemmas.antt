-- What a leaf is asked that is taken by its value.
use Rattle.std.proofs.Common.{◌≡◌, ℕ, Bool, true, false, List, [], Option, Some, None, refl, sym, ap, ◌∙◌, if◌then◌else◌}
use Rattle.meaning_types.specs.Types.{TypeTree, Typed, BaseTree, VoidTree, IntegerTree, RestrictedTree, PointerTree, ArrayTree, FunctionTree, AggregateTree}
use Rattle.meaning_operands.specs.Failures as failures
use Rattle.meaning_operands.specs.Failures.{Failure}
use Rattle.meaning_operands.specs.Operands.{Operand}
use Rattle.meaning_operands.specs.Conversions.{ConversionAnswer, Constraint, answer_of_bases, base_in}
use Rattle.meaning_typing.specs.Facts.{Fact, Unknown, Expression, Specified, Declared, NamedType, ExpressionFact, operand_of}
use Rattle.meaning_typing.specs.Rows.{Converted, converted, converted_by}
use Rattle.meaning_rules.specs.Rules.{least_broken, lesser}
use Rattle.meaning_initializers.specs.Parts.{bounded, is_array_of_characters}
use Rattle.meaning_initializers.specs.Plans.{conversion_by}
use Rattle.expression_rows.specs.Rows.{ToldConversion}
use Rattle.leaf_rows.specs.Leaves.{leaf_told, not_constant_at}
pub use Rattle.expression_rows.proofs.OperandLemmas.{is_plain_integer_told}

-- Nothing becomes an array

no_array : (from : Operand) (null : Bool) (to : TypeTree) (base : BaseTree) (element : TypeTree) (length : Option ℕ)
    → answer_of_bases from null to base (ArrayTree element length) ≡ Constraint
no_array from null to VoidTree element length = refl
no_array from null to (IntegerTree kind) element length = refl
no_array from null to (RestrictedTree kind identity) element length = refl
no_array from null to (PointerTree target) element length = refl
no_array from null to (ArrayTree of count) element length = refl
no_array from null to (FunctionTree result parameters variadic) element length = refl
no_array from null to (AggregateTree number is_union) element length = refl

module _ (token part value : ℕ) (expression : ExpressionFact) where
  -- also not one that has no length as a member
  bounded_converted : (to : TypeTree) → converted token part value expression to ≡ converted token part value expression (bounded to)
  bounded_converted (Typed VoidTree qualifiers flags) = refl
  bounded_converted (Typed (IntegerTree kind) qualifiers flags) = refl
  bounded_converted (Typed (RestrictedTree kind identity) qualifiers flags) = refl
  bounded_converted (Typed (PointerTree target) qualifiers flags) = refl
  bounded_converted (Typed (ArrayTree element (Some length)) qualifiers flags) = refl
  bounded_converted (Typed (ArrayTree element None) qualifiers flags) =
      let from = operand_of expression in
      let one = Typed (ArrayTree element None) qualifiers flags in
      let other = Typed (ArrayTree element (Some 0)) qualifiers flags in
      ap (λ (a : ConversionAnswer). converted_by a token part value expression one) (no_array from expression.is_null one (base_in from.of) element None)
      ∙ sym (ap (λ (a : ConversionAnswer). converted_by a token part value expression other) (no_array from expression.is_null other (base_in from.of) element (Some 0)))
  bounded_converted (Typed (FunctionTree result parameters variadic) qualifiers flags) = refl
  bounded_converted (Typed (AggregateTree number is_union) qualifiers flags) = refl

  if_bounded : (is_member : Bool) (to : TypeTree) → converted token part value expression to ≡ converted token part value expression (if is_member then bounded to else to)
  if_bounded true to = bounded_converted to
  if_bounded false to = refl

-- no rule fails where an array of characters is converted to
by_no_array : (token : ℕ) (expression : ExpressionFact) (element : TypeTree) (length : Option ℕ) (to : TypeTree) → base_in to ≡ ArrayTree element length
    → (converted token 256 token expression to).failures ≡ []
by_no_array token expression element length to is =
    let from = operand_of expression in
    ap (λ (a : ConversionAnswer). (converted_by a token 256 token expression to).failures)
    (ap (answer_of_bases from expression.is_null to (base_in from.of)) is ∙ no_array from expression.is_null to (base_in from.of) element length)

characters_silent : (token : ℕ) (expression : ExpressionFact) (to : TypeTree) → is_array_of_characters to ≡ true → (converted token 256 token expression to).failures ≡ []
characters_silent token expression (Typed (ArrayTree element length) qualifiers flags) is =
    by_no_array token expression element length (Typed (ArrayTree element length) qualifiers flags) refl
characters_silent token expression (Typed VoidTree qualifiers flags) is = absurd (cc is)
characters_silent token expression (Typed (IntegerTree kind) qualifiers flags) is = absurd (cc is)
characters_silent token expression (Typed (RestrictedTree kind identity) qualifiers flags) is = absurd (cc is)
characters_silent token expression (Typed (PointerTree target) qualifiers flags) is = absurd (cc is)
characters_silent token expression (Typed (FunctionTree result parameters variadic) qualifiers flags) is = absurd (cc is)
characters_silent token expression (Typed (AggregateTree number is_union) qualifiers flags) is = absurd (cc is)

pub string_silent : (token : ℕ) (to : TypeTree) (fact : Fact) → is_array_of_characters to ≡ true → (conversion_by to token fact).failures ≡ []
string_silent token to Unknown is = refl
string_silent token to (Expression expression) is = characters_silent token expression to is
string_silent token to (Specified specifiers) is = refl
string_silent token to (Declared declaration) is = refl
string_silent token to (NamedType type_) is = refl

-- Leaves of which something is known, and others

if_told : (is_static is_member : Bool) (type_ : TypeTree) (token : ℕ) (expression : ExpressionFact)
    → leaf_told is_static type_ token (Expression expression) ≡ leaf_told is_static (if is_member then bounded type_ else type_) token (Expression expression)
if_told is_static is_member type_ token expression =
    ap
    (λ (c : Converted). told_by (lesser (least_broken c.broken) (least_broken (not_constant_at is_static token (Expression expression)))) c.failures)
    (if_bounded token 256 token expression is_member type_)
  where
    told_by : Option failures.Broken → List Failure → ToldConversion
    told_by broken failures = record { broken = broken; failures = failures }

-- a member that is an array without a length is as one of length 0
pub bounded_told : (is_static is_member : Bool) (type_ : TypeTree) (token : ℕ) (fact : Fact)
    → leaf_told is_static type_ token fact ≡ leaf_told is_static (if is_member then bounded type_ else type_) token fact
bounded_told is_static is_member type_ token Unknown = refl
bounded_told is_static is_member type_ token (Expression expression) = if_told is_static is_member type_ token expression
bounded_told is_static is_member type_ token (Specified specifiers) = refl
bounded_told is_static is_member type_ token (Declared declaration) = refl
bounded_told is_static is_member type_ token (NamedType of) = refl

abbrev pub told_nothing : ToldConversion
told_nothing = record { broken = None; failures = [] }

pub unknown_told : (is_static : Bool) (type_ : TypeTree) (token : ℕ) → told_nothing ≡ leaf_told is_static type_ token Unknown
unknown_told true type_ token = refl
unknown_told false type_ token = refl
