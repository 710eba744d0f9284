-- Calls: the result has a size, unless the function doesn't take so many arguments, which is told before.
use Rattle.std.proofs.Common.{◌≡◌, ℕ, Bool, true, false, ◌&&◌, ◌||◌, nat_lt, nat_eq, List, [], ◌++◌, length, Option, Some, None, if◌then◌else◌, refl, sym, ap, ◌∙◌, arith}
use Rattle.std.proofs.lemmas.Bool.Decides.{nat_tests}
use Rattle.vocabulary.specs.Errors.{error_number}
use Rattle.vocabulary.specs.declared.error_kind.ErrorKind.TheVariants.{CalledObjectIsNoFunction, IncompleteType, WrongNumberOfArguments}
use Rattle.meaning_layout.specs.Sizes as sizes
use Rattle.meaning_operands.specs.Failures.{Broken}
use Rattle.meaning_rules.specs.Rules.{goes_before, least_broken, lesser}
use Rattle.meaning_types.specs.Types.{Qualifiers, Flags, TypeTree, Typed, VoidTree, IntegerTree, RestrictedTree, PointerTree, ArrayTree, FunctionTree, AggregateTree, TypeTrees, value_type}
use Rattle.meaning_typing.specs.Expressions.{Argument, arguments_passed, call_of, call_row, row_or, takes_arguments}
use Rattle.meaning_typing.specs.Facts.{Fact, Unknown, Expression, Specified, Declared, NamedType, ExpressionFact, type_of_value, value}
use Rattle.meaning_typing.specs.Operators.{has_no_size}
use Rattle.meaning_typing.specs.Rows.{Converted, breaks, breaks_at, gives, void_used}
use Rattle.meaning_typing.specs.Wholes.{callee_broken, result_broken, sized_broken, whole_call_row}
use Rattle.expression_rows.specs.Arguments.{without_failures}
use Rattle.expression_rows.specs.Rows.{Told, told}
use Rattle.whole_rows.specs.Rows.{result_taken, sized_if, taken_broken, told_and}
use Rattle.whole_rows.proofs.RowLemmas.{and_told}

-- The number of arguments goes before

same_token : (token : ℕ) → (nat_lt token token || (nat_eq token token && false)) ≡ false
same_token token = grind (arith, nat_tests)

earlier_token : (token other number : ℕ) → (nat_lt other token || (nat_eq other token && nat_lt number 66)) ≡ true
    → (nat_lt token other || (nat_eq token other && nat_lt 70 number)) ≡ false
earlier_token token other number goes = grind (arith, nat_tests)

module _ (token : ℕ) where
  abbrev wrong : Broken
  wrong = record { constraint = WrongNumberOfArguments; token = token; name = [] }

  abbrev incomplete : Broken
  incomplete = record { constraint = IncompleteType; token = token; name = [] }

  stays_before : (least : Option Broken) → lesser (lesser (Some wrong) least) (Some incomplete) ≡ lesser (Some wrong) least
  stays_before None = ap (λ test. if test then Some incomplete else Some wrong) (same_token token)
  stays_before (Some broken) = by (goes_before broken wrong) refl
    where
      by : (test : Bool) → goes_before broken wrong ≡ test
          → lesser (if test then Some broken else Some wrong) (Some incomplete) ≡ (if test then Some broken else Some wrong)
      by true goes =
          ap (λ test. if test then Some incomplete else Some broken)
          (earlier_token token broken.token (error_number broken.constraint) goes)
      by false stays = ap (λ test. if test then Some incomplete else Some wrong) (same_token token)

  -- a row that breaks that number
  module _ (sizes : sizes.Told) (type_ : TypeTree) (broken : List Broken) where
    abbrev wrong_row : Told
    wrong_row = record { fact = Unknown; broken = lesser (Some wrong) (least_broken broken); failures = []; passed = [] }

    wrong_told : wrong_row ≡ told_and wrong_row (least_broken (sized_broken sizes token type_))
    wrong_told = by (has_no_size sizes type_)
      where
        by : (test : Bool) → wrong_row ≡ told_and wrong_row (least_broken (if test then breaks_at IncompleteType token else []))
        by true = ap (λ least. record wrong_row { broken = least }) (sym (stays_before (least_broken broken)))
        by false = refl

-- By what is called

module _ (sizes : sizes.Told) (token called : ℕ) (callee : ExpressionFact) (arguments : List Argument) where
  abbrev row_of : TypeTree → Told
  row_of type_ =
      told
      (without_failures (row_or (call_of token arguments type_) (breaks (breaks_at CalledObjectIsNoFunction token ++ void_used called callee))))

  abbrev IsTaken : TypeTree → Type 0
  IsTaken type_ =
      told_and (row_of type_) (least_broken (sized_if sizes token (result_taken (length arguments) type_)))
      ≡ told_and (row_of type_) (least_broken (result_broken sizes token type_))

  of_function : (result : TypeTree) (parameters : TypeTrees) (variadic : Bool) (qualifiers outer : Qualifiers) (flags around : Flags)
      → IsTaken (Typed (PointerTree (Typed (FunctionTree result parameters variadic) qualifiers flags)) outer around)
  of_function result parameters variadic qualifiers outer flags around = by (takes_arguments parameters variadic (length arguments))
    where
      passed : Converted
      passed = arguments_passed 1 arguments parameters

      of_number : Bool → Told
      of_number takes =
          told
          (without_failures (gives (value (value_type result)) ((if takes then [] else breaks_at WrongNumberOfArguments token) ++ passed.broken) passed.failures))

      by : (takes : Bool)
          → told_and (of_number takes) (least_broken (sized_if sizes token (if takes then Some result else None)))
          ≡ told_and (of_number takes) (least_broken (sized_broken sizes token result))
      by true = refl
      by false = wrong_told token sizes result passed.broken

  taken_by : (type_ : TypeTree) → IsTaken type_
  taken_by (Typed VoidTree _ _) = refl
  taken_by (Typed (IntegerTree kind) _ _) = refl
  taken_by (Typed (RestrictedTree kind identity) _ _) = refl
  taken_by (Typed (PointerTree (Typed VoidTree _ _)) _ _) = refl
  taken_by (Typed (PointerTree (Typed (IntegerTree kind) _ _)) _ _) = refl
  taken_by (Typed (PointerTree (Typed (RestrictedTree kind identity) _ _)) _ _) = refl
  taken_by (Typed (PointerTree (Typed (PointerTree inner) _ _)) _ _) = refl
  taken_by (Typed (PointerTree (Typed (ArrayTree element length) _ _)) _ _) = refl
  taken_by (Typed (PointerTree (Typed (FunctionTree result parameters variadic) qualifiers flags)) outer around) =
      of_function result parameters variadic qualifiers outer flags around
  taken_by (Typed (PointerTree (Typed (AggregateTree number is_union) _ _)) _ _) = refl
  taken_by (Typed (ArrayTree element length) _ _) = refl
  taken_by (Typed (FunctionTree result parameters variadic) _ _) = refl
  taken_by (Typed (AggregateTree number is_union) _ _) = refl

module _ (sizes : sizes.Told) (token called : ℕ) (arguments : List Argument) where
  pub taken_told : (callee : Fact)
      → told_and (told (without_failures (call_row token called callee arguments))) (least_broken (taken_broken sizes token (length arguments) callee))
      ≡ told (without_failures (whole_call_row sizes token called callee arguments))
  taken_told (Expression callee) =
      taken_by sizes token called callee arguments (type_of_value callee)
      ∙ and_told (without_failures (call_row token called (Expression callee) arguments)) (callee_broken sizes token (Expression callee))
  taken_told Unknown = refl
  taken_told (Specified specifiers) = refl
  taken_told (Declared declaration) = refl
  taken_told (NamedType type_) = refl
