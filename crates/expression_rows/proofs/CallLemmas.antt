-- Calls: what is asked of a function, and arguments one by one.
use Rattle.std.proofs.Common.{◌≡◌, ℕ, ◌+◌, Bool, true, false, List, [], ◌∷◌, ◌++◌, All, Option, Some, None, IfSome, if◌then◌else◌, map, option_map, length, refl, sym, ap, ◌∙◌, subst}
use Rattle.std.proofs.lemmas.List.{append_assoc, map-append}
use Rattle.std.proofs.lemmas.List.Elements.{All-append, All-cons, All-nil}
use Rattle.vocabulary.specs.declared.error_kind.ErrorKind.TheVariants.{WrongNumberOfArguments}
use Rattle.sparse_model.specs.declared.failure.Failure.{Failure}
use Rattle.meaning_operands.specs.Failures as meaning
use Rattle.meaning_types.specs.Types.{TypeTree, Typed, VoidTree, IntegerTree, RestrictedTree, PointerTree, ArrayTree, FunctionTree, AggregateTree, TypeTrees, NoTypes, MoreTypes, value_type}
use Rattle.meaning_typing.specs.Expressions.{Argument, arguments_passed, call_of, row_or}
use Rattle.meaning_typing.specs.Rows.{Converted, Row, both_converted, breaks_at, gives}
use Rattle.meaning_typing.specs.Facts.{Expression, value}
use Rattle.c_types.specs.Rows.{parameter_types, result_of}
use Rattle.meaning_rules.specs.Rules.{least_broken, lesser}
use Rattle.c_types.specs.Table.{TypeTable, pointed_at}
use Rattle.expression_rows.specs.Arguments.{HasFound, LeadsTo, call_with, called_as, first_of, function_through, listed_failure, passed_to, rest_of, result_with, takes_so_many, without_failures}
use Rattle.expression_rows.specs.Rows.{IsKnownFailure, failure_listed, failure_seen, told}
use Rattle.expression_rows.proofs.LeastLemmas.{least_both, lesser_on, unless_told}

-- one argument and those behind it
pub one_passed : (part : ℕ) (argument : Argument) (arguments : List Argument) (parameters : TypeTrees)
    → arguments_passed part (argument ∷ arguments) parameters
    ≡ both_converted (passed_to part argument.token argument.fact (first_of parameters)) (arguments_passed (part + 1) arguments (rest_of parameters))
one_passed part argument arguments NoTypes = refl
one_passed part argument arguments (MoreTypes type_ types) = refl

-- a failure that is appended
listed_told : (table : TypeTable) (failure : Option Failure) → map (failure_seen table) (listed_failure failure) ≡ failure_listed table failure
listed_told table None = refl
listed_told table (Some failure) = refl

listed_known : (table : TypeTable) (failure : Option Failure) → IfSome failure (IsKnownFailure table) → All (IsKnownFailure table) (listed_failure failure)
listed_known table None known = All-nil (IsKnownFailure table)
listed_known table (Some failure) known = All-cons (IsKnownFailure table) failure [] known (All-nil (IsKnownFailure table))

module _ (token : ℕ) (arguments : List Argument) where
  -- by what is called
  call_told : (type_ : TypeTree) → option_map (call_with token arguments) (function_through (pointed_at type_)) ≡ call_of token arguments type_
  call_told (Typed VoidTree _ _) = refl
  call_told (Typed (IntegerTree kind) _ _) = refl
  call_told (Typed (RestrictedTree kind identity) _ _) = refl
  call_told (Typed (PointerTree (Typed VoidTree _ _)) _ _) = refl
  call_told (Typed (PointerTree (Typed (IntegerTree kind) _ _)) _ _) = refl
  call_told (Typed (PointerTree (Typed (RestrictedTree kind identity) _ _)) _ _) = refl
  call_told (Typed (PointerTree (Typed (PointerTree inner) _ _)) _ _) = refl
  call_told (Typed (PointerTree (Typed (ArrayTree element length) _ _)) _ _) = refl
  call_told (Typed (PointerTree (Typed (FunctionTree result parameters variadic) _ _)) _ _) = refl
  call_told (Typed (PointerTree (Typed (AggregateTree number is_union) _ _)) _ _) = refl
  call_told (Typed (ArrayTree element length) _ _) = refl
  call_told (Typed (FunctionTree result parameters variadic) _ _) = refl
  call_told (Typed (AggregateTree number is_union) _ _) = refl

  -- the row of a call is that of what is called, or that of a value that can't be called
  pub call_is : (type_ function : TypeTree) (otherwise : Row) → Some function ≡ function_through (pointed_at type_)
      → call_with token arguments function ≡ row_or (call_of token arguments type_) otherwise
  call_is type_ function otherwise is =
      ap (λ found. row_or (option_map (call_with token arguments) found) otherwise) is ∙ ap (λ row. row_or row otherwise) (call_told type_)

  pub call_is_none : (type_ : TypeTree) (otherwise : Row) → None ≡ function_through (pointed_at type_)
      → otherwise ≡ row_or (call_of token arguments type_) otherwise
  call_is_none type_ otherwise is =
      ap (λ found. row_or (option_map (call_with token arguments) found) otherwise) is ∙ ap (λ row. row_or row otherwise) (call_told type_)

  -- and is told by the least constraint that the arguments break, and by the result
  pub called_told : (function : TypeTree) → called_as token (least_broken (arguments_passed 1 arguments (parameter_types function)).broken) (result_with (length arguments) function)
      ≡ told (without_failures (call_with token arguments function))
  called_told function = by (takes_so_many function (length arguments))
    where
      passed : Converted
      passed = arguments_passed 1 arguments (parameter_types function)

      by : (takes : Bool) → called_as token (least_broken passed.broken) (if takes then Some (result_of function) else None)
          ≡ told (without_failures (gives (value (value_type (result_of function))) ((if takes then [] else breaks_at WrongNumberOfArguments token) ++ passed.broken) passed.failures))
      by true = ap (λ fact. record { fact = fact; broken = least_broken passed.broken; failures = []; passed = [] })
          (unless_told passed.broken (Expression (value (value_type (result_of function)))))
      by false = refl

-- one argument more
leads_on : (broken one_broken : Option meaning.Broken) (failures one_failures : List meaning.Failure) (one others left all : Converted)
    → left ≡ both_converted one others → one_broken ≡ least_broken one.broken → one_failures ≡ one.failures
    → LeadsTo broken failures left all → LeadsTo (lesser broken one_broken) (failures ++ one_failures) others all
leads_on broken one_broken failures one_failures one others left all is same_broken same_failures leads =
    record {
      broken =
          sym (lesser_on broken one_broken (least_broken others.broken))
          ∙ ap (λ b. lesser broken (lesser b (least_broken others.broken))) same_broken
          ∙ ap (lesser broken) (sym (least_both one.broken others.broken))
          ∙ ap (λ c. lesser broken (least_broken c.broken)) (sym is)
          ∙ leads.broken;
      failures =
          append_assoc failures one_failures others.failures
          ∙ ap (λ f. failures ++ (f ++ others.failures)) same_failures
          ∙ ap (λ c. failures ++ c.failures) (sym is)
          ∙ leads.failures;
    }

-- the same of failures that were appended to a list
pub found_on : (table : TypeTable) (old found new : List Failure) (failure : Option Failure) (broken one_broken : Option meaning.Broken) (one others left all : Converted)
    → left ≡ both_converted one others → one_broken ≡ least_broken one.broken → failure_listed table failure ≡ one.failures
    → new ≡ found ++ listed_failure failure → IfSome failure (IsKnownFailure table) → HasFound table old found broken left all
    → HasFound table old new (lesser broken one_broken) others all
found_on table old found new failure broken one_broken one others left all is same_broken same_failures appended known before = (
  before.0 ++ listed_failure failure,
  appended ∙ ap (λ l. l ++ listed_failure failure) before.1 ∙ append_assoc old before.0 (listed_failure failure),
  subst (λ failures. LeadsTo (lesser broken one_broken) failures others all)
      (sym (map-append (failure_seen table) before.0 (listed_failure failure) ∙ ap (λ l. map (failure_seen table) before.0 ++ l) (listed_told table failure)))
      (leads_on broken one_broken (map (failure_seen table) before.0) (failure_listed table failure) one others left all is same_broken same_failures before.2),
  All-append (IsKnownFailure table) before.0 (listed_failure failure) before.3 (listed_known table failure known),
)
