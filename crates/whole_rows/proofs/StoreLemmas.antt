-- To a store an aggregate with a const member is as a const one, and as no place: neither can be written.
use Rattle.std.proofs.Common.{◌≡◌, ℕ, Bool, true, false, ◌&&◌, ◌||◌, not, List, [], ◌++◌, Option, Some, None, if◌then◌else◌, refl, sym, ap, ◌∙◌}
use Rattle.vocabulary.specs.declared.error_kind.ErrorKind.TheVariants.{IncompleteType, NotModifiable, WrongOperandTypes}
use Rattle.vocabulary.specs.declared.operator.Operator.{Operator}
use Rattle.vocabulary.specs.declared.rule.RuleCode.TheVariants.{B1, B7}
use Rattle.meaning_types.specs.Types.{Qualifiers, Flags, TypeTree, Typed, BaseTree, VoidTree, IntegerTree, RestrictedTree, PointerTree, ArrayTree, FunctionTree, AggregateTree, no_flags, pointer_to, value_type}
use Rattle.meaning_types.specs.Marks.{both, marked, with_flags}
use Rattle.meaning_types.specs.Spaces.{is_void}
use Rattle.meaning_layout.specs.Sizes.{Told, array_extent, extent_of}
use Rattle.meaning_operands.specs.Answers.{broken_demand}
use Rattle.meaning_operands.specs.Failures.{Broken, Failure}
use Rattle.meaning_operands.specs.Operands.{Operand, is_restricted}
use Rattle.meaning_operands.specs.Operators.{Demand, OneType, PlainOnly, PlainStored, Anything, Operands, IntegerOperands, StepOperands, law_of}
use Rattle.meaning_constants.specs.Nodes.{loaded_type}
use Rattle.meaning_typing.specs.Aggregates.{KnownAggregates, is_const_within}
use Rattle.meaning_typing.specs.Changes.{changed, compound_by, compound_row, integers_changed, moved, not_changed, place_broken, step_before_row, step_behind_row, stepped}
use Rattle.meaning_typing.specs.Declarators.{is_function}
use Rattle.meaning_typing.specs.Expressions.{assigned, assignment_row, is_modifiable}
use Rattle.meaning_typing.specs.Facts.{Fact, Unknown, Expression, Specified, Declared, NamedType, ExpressionFact, is_plain_integer, is_zero_number, operand_of, type_of_value, value}
use Rattle.meaning_typing.specs.Operators.{ValueSort, VoidSort, IntegerSort, PointerSort, OtherSort, answer_of, has_no_size, is_incomplete, operands_failures, or_else, sort_of, target_broken, value_sort, void_alone, void_among}
use Rattle.meaning_typing.specs.Rows.{Row, breaks, breaks_at, gives, nothing, void_used}
use Rattle.meaning_typing.specs.Wholes.{as_stored, only_const}
use Rattle.whole_rows.specs.Stores.{has_const_member, part_stored, place_stored, unplaced}

-- Neither can be written, and all else that is asked of a place that is changed is the same.
record AreAlike (one other : ExpressionFact) : Type 0 where
  pub first : is_modifiable one ≡ false
  pub second : is_modifiable other ≡ false
  pub sort : value_sort one ≡ value_sort other
  pub target : (told : Told) (token : ℕ) → target_broken told token (type_of_value one) ≡ target_broken told token (type_of_value other)
  pub failures : (operator : Operator) (token : ℕ) (right : ExpressionFact)
      → operands_failures token (type_of_value one) (type_of_value right) (answer_of operator one right).rule
      ≡ operands_failures token (type_of_value other) (type_of_value right) (answer_of operator other right).rule
  pub alone : (operator : Operator) (token : ℕ)
      → operands_failures token (type_of_value one) (type_of_value one) (answer_of operator one one).rule
      ≡ operands_failures token (type_of_value other) (type_of_value other) (answer_of operator other other).rule

-- Rows of what can't be written

-- nothing is known, and the place is told before these
abbrev barred : (token : ℕ) → List Broken → List Failure → Row
barred token broken failing = record nothing { broken = breaks_at NotModifiable token ++ broken; failures = failing }

module _ (expression : ExpressionFact) (fixed : is_modifiable expression ≡ false) where
  place_told : (token : ℕ) → place_broken token expression ≡ breaks_at NotModifiable token
  place_told token = ap (λ test. if test then [] else breaks_at NotModifiable token) fixed

  given_barred : (token : ℕ) (type_ : TypeTree) (broken : List Broken) (failing : List Failure)
      → gives (value type_) (place_broken token expression ++ broken) failing ≡ barred token broken failing
  given_barred token type_ broken failing = ap (λ place. gives (value type_) (place ++ broken) failing) (place_told token)

  alone_barred : (token : ℕ) (type_ : TypeTree) (failing : List Failure) → gives (value type_) (place_broken token expression) failing ≡ barred token [] failing
  alone_barred token type_ failing = ap (λ place. gives (value type_) place failing) (place_told token)

-- Assignments

abbrev not_assigned : (token second : ℕ) → (right : Fact) → Row
not_assigned token second (Expression right) = breaks (breaks_at NotModifiable token ++ void_used second right)
not_assigned token second right = breaks (breaks_at NotModifiable token)

module _ (token second : ℕ) (expression : ExpressionFact) (fixed : is_modifiable expression ≡ false) where
  abbrev stored_if : Bool → List Broken
  stored_if test =
      if not test then breaks_at NotModifiable token
      else (if is_void expression.type_ then breaks_at IncompleteType token
      else [])

  assignment_barred : (right : Fact) → assignment_row token second (Expression expression) right ≡ not_assigned token second right
  assignment_barred (Expression right) = ap (λ test. assigned token second expression right (stored_if test)) fixed
  assignment_barred Unknown = ap (λ test. gives (value (value_type expression.type_)) (stored_if test) []) fixed
  assignment_barred (Specified specifiers) = ap (λ test. gives (value (value_type expression.type_)) (stored_if test) []) fixed
  assignment_barred (Declared declaration) = ap (λ test. gives (value (value_type expression.type_)) (stored_if test) []) fixed
  assignment_barred (NamedType type_) = ap (λ test. gives (value (value_type expression.type_)) (stored_if test) []) fixed

assignment_alike : (token second : ℕ) (right : Fact) (one other : ExpressionFact) → AreAlike one other
    → assignment_row token second (Expression one) right ≡ assignment_row token second (Expression other) right
assignment_alike token second right one other alike =
    assignment_barred token second one alike.first right ∙ sym (assignment_barred token second other alike.second right)

-- Compound assignments

module _ (told : Told) (operator : Operator) (token operand second : ℕ) (one other : ExpressionFact) (alike : AreAlike one other) where
  places_alike : place_broken token one ≡ place_broken token other
  places_alike = place_told one alike.first token ∙ sym (place_told other alike.second token)

  module _ (right : ExpressionFact) where
    changed_alike : (broken others : List Broken) → broken ≡ others → changed operator token one right broken ≡ changed operator token other right others
    changed_alike broken others same =
        given_barred one alike.first token (value_type one.type_) broken
        (operands_failures token (type_of_value one) (type_of_value right) (answer_of operator one right).rule)
        ∙ (λ i. barred token (same i) (alike.failures operator token right i))
        ∙ sym
        (given_barred other alike.second token (value_type other.type_) others
        (operands_failures token (type_of_value other) (type_of_value right) (answer_of operator other right).rule))

    not_changed_alike : (of with_ : ValueSort) → not_changed token operand second one of with_ ≡ not_changed token operand second other of with_
    not_changed_alike of with_ =
        ap (λ place. breaks (or_else (place ++ void_among operand second of with_) (breaks_at WrongOperandTypes token))) places_alike

    integers_alike : (of with_ : ValueSort)
        → integers_changed operator token operand second one right of with_ ≡ integers_changed operator token operand second other right of with_
    integers_alike (IntegerSort kind) (IntegerSort with_) = changed_alike [] [] refl
    integers_alike of with_ = not_changed_alike of with_

    moved_alike : (of with_ : ValueSort)
        → moved told operator token operand second one right of with_ ≡ moved told operator token operand second other right of with_
    moved_alike PointerSort (IntegerSort with_) =
        changed_alike (target_broken told token (type_of_value one)) (target_broken told token (type_of_value other)) (alike.target told token)
    moved_alike of with_ = integers_alike of with_

    taken_alike : (operands : Operands) (of with_ : ValueSort)
        → compound_by operands told operator token operand second one right of with_ ≡ compound_by operands told operator token operand second other right of with_
    taken_alike IntegerOperands of with_ = integers_alike of with_
    taken_alike StepOperands of with_ = moved_alike of with_
    taken_alike operands of with_ = refl

  left_alike : breaks (place_broken token one ++ void_alone operand (value_sort one)) ≡ breaks (place_broken token other ++ void_alone operand (value_sort other))
  left_alike = (λ i. breaks (places_alike i ++ void_alone operand (alike.sort i)))

  compound_alike : (right : Fact) → compound_row told operator token operand second (Expression one) right ≡ compound_row told operator token operand second (Expression other) right
  compound_alike (Expression right) =
      ap (λ of. compound_by (law_of operator).operands told operator token operand second one right of (value_sort right)) alike.sort
      ∙ taken_alike right (law_of operator).operands (value_sort other) (value_sort right)
  compound_alike Unknown = left_alike
  compound_alike (Specified specifiers) = left_alike
  compound_alike (Declared declaration) = left_alike
  compound_alike (NamedType type_) = left_alike

  -- `++` and `--`

  module _ (type_ with_ : TypeTree) where
    not_stepped_alike : (of : ValueSort)
        → breaks (or_else (place_broken token one ++ void_alone operand of) (breaks_at WrongOperandTypes token))
        ≡ breaks (or_else (place_broken token other ++ void_alone operand of) (breaks_at WrongOperandTypes token))
    not_stepped_alike of = ap (λ place. breaks (or_else (place ++ void_alone operand of) (breaks_at WrongOperandTypes token))) places_alike

    stepped_alike : (of : ValueSort) → stepped told operator token operand one type_ of ≡ stepped told operator token operand other with_ of
    stepped_alike (IntegerSort kind) =
        alone_barred one alike.first token type_ (operands_failures token (type_of_value one) (type_of_value one) (answer_of operator one one).rule)
        ∙ ap (barred token []) (alike.alone operator token)
        ∙ sym (alone_barred other alike.second token with_ (operands_failures token (type_of_value other) (type_of_value other) (answer_of operator other other).rule))
    stepped_alike PointerSort =
        given_barred one alike.first token type_ (target_broken told token (type_of_value one)) []
        ∙ ap (λ broken. barred token broken []) (alike.target told token)
        ∙ sym (given_barred other alike.second token with_ (target_broken told token (type_of_value other)) [])
    stepped_alike VoidSort = not_stepped_alike VoidSort
    stepped_alike OtherSort = not_stepped_alike OtherSort

  step_behind_alike : step_behind_row told operator token operand (Expression one) ≡ step_behind_row told operator token operand (Expression other)
  step_behind_alike =
      ap (stepped told operator token operand one (type_of_value one)) alike.sort
      ∙ stepped_alike (type_of_value one) (type_of_value other) (value_sort other)

  step_before_alike : step_before_row told operator token operand (Expression one) ≡ step_before_row told operator token operand (Expression other)
  step_before_alike =
      ap (stepped told operator token operand one (value_type one.type_)) alike.sort
      ∙ stepped_alike (value_type one.type_) (value_type other.type_) (value_sort other)

-- What is alike

-- a const place
const_fixed : (is_place is_const other : Bool) → is_const ≡ true → (is_place && not is_const && other) ≡ false
const_fixed true true other same = refl
const_fixed true false other same = absurd (cc same)
const_fixed false is_const other same = refl

-- one that const was added to
marked_fixed : (is_place is_const other : Bool) → (is_place && not (is_const || true) && other) ≡ false
marked_fixed true true other = refl
marked_fixed true false other = refl
marked_fixed false is_const other = refl

-- an array or a function
decayed_fixed : (is_place is_const : Bool) → (is_place && not is_const && false) ≡ false
decayed_fixed true true = refl
decayed_fixed true false = refl
decayed_fixed false is_const = refl

-- with the same value
module _ (one other : ExpressionFact) (same : type_of_value one ≡ type_of_value other) (fouled : one.is_fouled ≡ other.is_fouled)
    (constant : one.constant ≡ other.constant) where
  operands_same : operand_of one ≡ operand_of other
  operands_same = (λ i. record { of = same i; fouled = fouled i; zero = is_plain_integer (same i) && is_zero_number (constant i) })

  values_alike : is_modifiable one ≡ false → is_modifiable other ≡ false → AreAlike one other
  values_alike first second =
      record {
        first = first;
        second = second;
        sort = ap sort_of same;
        target = λ told token. ap (target_broken told token) same;
        failures = λ operator token right. (λ i. operands_failures token (same i) (type_of_value right)
            (broken_demand (law_of operator).demand (operands_same i) (operand_of right)));
        alone = λ operator token. (λ i. operands_failures token (same i) (same i)
            (broken_demand (law_of operator).demand (operands_same i) (operands_same i)));
      }

-- const is added, and what is loaded stays
loaded_marked : (width : Option ℕ) (base : BaseTree) (qualifiers added : Qualifiers) (flags changed : Flags)
    → value_type (loaded_type width (Typed base qualifiers flags)) ≡ value_type (loaded_type width (Typed base added changed))
loaded_marked None base qualifiers added flags changed = refl
loaded_marked (Some width) VoidTree qualifiers added flags changed = refl
loaded_marked (Some width) (IntegerTree kind) qualifiers added flags changed = refl
loaded_marked (Some width) (RestrictedTree kind identity) qualifiers added flags changed = refl
loaded_marked (Some width) (PointerTree target) qualifiers added flags changed = refl
loaded_marked (Some width) (ArrayTree element length) qualifiers added flags changed = refl
loaded_marked (Some width) (FunctionTree result parameters variadic) qualifiers added flags changed = refl
loaded_marked (Some width) (AggregateTree number is_union) qualifiers added flags changed = refl

-- Elements of arrays: their sizes stay

abbrev const_added : TypeTree → TypeTree
const_added type_ = marked only_const no_flags type_

extent_marked : (told : Told) (type_ : TypeTree) → extent_of told type_ ≡ extent_of told (const_added type_)
extent_marked told (Typed VoidTree _ _) = refl
extent_marked told (Typed (IntegerTree kind) _ _) = refl
extent_marked told (Typed (RestrictedTree kind identity) _ _) = refl
extent_marked told (Typed (PointerTree target) _ _) = refl
extent_marked told (Typed (ArrayTree element None) _ _) = refl
extent_marked told (Typed (ArrayTree element (Some length)) _ _) = ap (array_extent length) (extent_marked told element)
extent_marked told (Typed (FunctionTree result parameters variadic) _ _) = refl
extent_marked told (Typed (AggregateTree number is_union) _ _) = refl

kind_marked : (type_ : TypeTree) → (is_void type_ || is_function type_) ≡ (is_void (const_added type_) || is_function (const_added type_))
kind_marked (Typed VoidTree _ _) = refl
kind_marked (Typed (IntegerTree kind) _ _) = refl
kind_marked (Typed (RestrictedTree kind identity) _ _) = refl
kind_marked (Typed (PointerTree target) _ _) = refl
kind_marked (Typed (ArrayTree element length) _ _) = refl
kind_marked (Typed (FunctionTree result parameters variadic) _ _) = refl
kind_marked (Typed (AggregateTree number is_union) _ _) = refl

size_marked : (told : Told) (type_ : TypeTree) → has_no_size told type_ ≡ has_no_size told (const_added type_)
size_marked told type_ = (λ i. not (kind_marked type_ i) && is_incomplete (extent_marked told type_ i))

-- of a pointer no rule asks where it points, and none is restricted
abbrev pointing : TypeTree → (fouled : Bool) → Operand
pointing target fouled = record { of = pointer_to target; fouled = fouled; zero = false }

module _ (token : ℕ) (element : TypeTree) (fouled : Bool) where
  pointers_fail : (right : Operand) (demand : Demand)
      → operands_failures token (pointer_to element) right.of (broken_demand demand (pointing element fouled) right)
      ≡ operands_failures token (pointer_to (const_added element)) right.of (broken_demand demand (pointing (const_added element) fouled) right)
  pointers_fail right OneType = refl
  pointers_fail right PlainOnly = by (is_restricted right.of)
    where
      by : (test : Bool) → operands_failures token (pointer_to element) right.of (if test then Some B1 else None)
          ≡ operands_failures token (pointer_to (const_added element)) right.of (if test then Some B1 else None)
      by true = refl
      by false = refl
  pointers_fail right PlainStored = by (is_restricted right.of)
    where
      by : (test : Bool) → operands_failures token (pointer_to element) right.of (if test then Some B7 else None)
          ≡ operands_failures token (pointer_to (const_added element)) right.of (if test then Some B7 else None)
      by true = refl
      by false = refl
  pointers_fail right Anything = refl

  alone_fail : (demand : Demand)
      → operands_failures token (pointer_to element) (pointer_to element) (broken_demand demand (pointing element fouled) (pointing element fouled))
      ≡ operands_failures token (pointer_to (const_added element)) (pointer_to (const_added element))
      (broken_demand demand (pointing (const_added element) fouled) (pointing (const_added element) fouled))
  alone_fail OneType = refl
  alone_fail PlainOnly = refl
  alone_fail PlainStored = refl
  alone_fail Anything = refl

-- What can't be written

or_false : (test : Bool) → (test || false) ≡ true → test ≡ true
or_false true same = refl
or_false false same = same

module _ (has_const : ℕ → Bool) (expression : ExpressionFact) where
  abbrev with_type : TypeTree → ExpressionFact
  with_type type_ = record expression { type_ = type_ }

  abbrev IsStoredAlike : TypeTree → Type 0
  IsStoredAlike type_ = AreAlike (place_stored has_const (with_type type_)) (with_type (const_added type_))

  module _ (base : BaseTree) (qualifiers : Qualifiers) (flags : Flags) where
    abbrev loads : value_type (loaded_type expression.width (Typed base qualifiers flags))
        ≡ value_type (loaded_type expression.width (Typed base (both qualifiers only_const) (with_flags flags no_flags)))
    loads = loaded_marked expression.width base qualifiers (both qualifiers only_const) flags (with_flags flags no_flags)

  of_aggregate : (number : ℕ) (is_union : Bool) (qualifiers : Qualifiers) (flags : Flags) (test : Bool) → (qualifiers.is_const || test) ≡ true
      → AreAlike (if test then unplaced (with_type (Typed (AggregateTree number is_union) qualifiers flags)) else with_type (Typed (AggregateTree number is_union) qualifiers flags))
      (with_type (const_added (Typed (AggregateTree number is_union) qualifiers flags)))
  of_aggregate number is_union qualifiers flags true is =
      let type_ = Typed (AggregateTree number is_union) qualifiers flags in
      values_alike (unplaced (with_type type_)) (with_type (const_added type_)) (loads (AggregateTree number is_union) qualifiers flags) refl refl
      refl (marked_fixed expression.is_place qualifiers.is_const true)
  of_aggregate number is_union qualifiers flags false is =
      let type_ = Typed (AggregateTree number is_union) qualifiers flags in
      values_alike (with_type type_) (with_type (const_added type_)) (loads (AggregateTree number is_union) qualifiers flags) refl refl
      (const_fixed expression.is_place qualifiers.is_const true (or_false qualifiers.is_const is))
      (marked_fixed expression.is_place qualifiers.is_const true)

  stored_alike : (type_ : TypeTree) → is_const_within has_const type_ ≡ true → IsStoredAlike type_
  stored_alike (Typed VoidTree qualifiers flags) is =
      values_alike (with_type (Typed VoidTree qualifiers flags)) (with_type (const_added (Typed VoidTree qualifiers flags)))
      (loads VoidTree qualifiers flags) refl refl
      (const_fixed expression.is_place qualifiers.is_const true is) (marked_fixed expression.is_place qualifiers.is_const true)
  stored_alike (Typed (IntegerTree kind) qualifiers flags) is =
      values_alike (with_type (Typed (IntegerTree kind) qualifiers flags)) (with_type (const_added (Typed (IntegerTree kind) qualifiers flags)))
      (loads (IntegerTree kind) qualifiers flags) refl refl
      (const_fixed expression.is_place qualifiers.is_const true is) (marked_fixed expression.is_place qualifiers.is_const true)
  stored_alike (Typed (RestrictedTree kind identity) qualifiers flags) is =
      values_alike (with_type (Typed (RestrictedTree kind identity) qualifiers flags)) (with_type (const_added (Typed (RestrictedTree kind identity) qualifiers flags)))
      (loads (RestrictedTree kind identity) qualifiers flags) refl refl
      (const_fixed expression.is_place qualifiers.is_const true is) (marked_fixed expression.is_place qualifiers.is_const true)
  stored_alike (Typed (PointerTree target) qualifiers flags) is =
      values_alike (with_type (Typed (PointerTree target) qualifiers flags)) (with_type (const_added (Typed (PointerTree target) qualifiers flags)))
      (loads (PointerTree target) qualifiers flags) refl refl
      (const_fixed expression.is_place qualifiers.is_const true is) (marked_fixed expression.is_place qualifiers.is_const true)
  stored_alike (Typed (ArrayTree element length) qualifiers flags) is =
      record {
        first = decayed_fixed expression.is_place qualifiers.is_const;
        second = decayed_fixed expression.is_place qualifiers.is_const;
        sort = refl;
        target = λ told token. ap (λ test. if test then breaks_at IncompleteType token else []) (size_marked told element);
        failures = λ operator token right. pointers_fail token element expression.is_fouled (operand_of right) (law_of operator).demand;
        alone = λ operator token. alone_fail token element expression.is_fouled (law_of operator).demand;
      }
  stored_alike (Typed (FunctionTree result parameters variadic) qualifiers flags) is =
      values_alike (with_type (Typed (FunctionTree result parameters variadic) qualifiers flags)) (with_type (Typed (FunctionTree result parameters variadic) qualifiers flags))
      refl refl refl
      (decayed_fixed expression.is_place qualifiers.is_const) (decayed_fixed expression.is_place qualifiers.is_const)
  stored_alike (Typed (AggregateTree number is_union) qualifiers flags) is = of_aggregate number is_union qualifiers flags (has_const number) is

-- what can be written has no const member
or_second : (first second : Bool) → (first || second) ≡ false → second ≡ false
or_second true second same = absurd (cc same)
or_second false second same = same

no_member : (has_const : ℕ → Bool) (type_ : TypeTree) → is_const_within has_const type_ ≡ false → has_const_member has_const type_ ≡ false
no_member has_const (Typed VoidTree _ _) is = refl
no_member has_const (Typed (IntegerTree kind) _ _) is = refl
no_member has_const (Typed (RestrictedTree kind identity) _ _) is = refl
no_member has_const (Typed (PointerTree target) _ _) is = refl
no_member has_const (Typed (ArrayTree element length) _ _) is = refl
no_member has_const (Typed (FunctionTree result parameters variadic) _ _) is = refl
no_member has_const (Typed (AggregateTree number is_union) qualifiers flags) is = or_second qualifiers.is_const (has_const number) is

-- its value is the same
pub value_stays : (has_const : ℕ → Bool) (expression : ExpressionFact) → type_of_value (place_stored has_const expression) ≡ type_of_value expression
value_stays has_const expression = by (has_const_member has_const expression.type_)
  where
    by : (test : Bool) → type_of_value (if test then unplaced expression else expression) ≡ type_of_value expression
    by true = refl
    by false = refl

-- Rows of stores

module _ (aggregates : KnownAggregates) (row : Fact → Row)
    (alike : (one other : ExpressionFact) → AreAlike one other → row (Expression one) ≡ row (Expression other)) where
  place_by : (expression : ExpressionFact) → row (Expression (place_stored aggregates.has_const expression)) ≡ row (as_stored aggregates (Expression expression))
  place_by expression = by (is_const_within aggregates.has_const expression.type_) refl
    where
      by : (test : Bool) → is_const_within aggregates.has_const expression.type_ ≡ test
          → row (Expression (place_stored aggregates.has_const expression))
          ≡ row (if test then Expression (record expression { type_ = const_added expression.type_ }) else Expression expression)
      by true is =
          alike (place_stored aggregates.has_const expression) (record expression { type_ = const_added expression.type_ })
          (stored_alike aggregates.has_const expression expression.type_ is)
      by false is =
          ap (λ test. row (Expression (if test then unplaced expression else expression))) (no_member aggregates.has_const expression.type_ is)

  stored_told : (fact : Fact) → row (part_stored aggregates.has_const fact) ≡ row (as_stored aggregates fact)
  stored_told Unknown = refl
  stored_told (Expression expression) = place_by expression
  stored_told (Specified specifiers) = refl
  stored_told (Declared declaration) = refl
  stored_told (NamedType type_) = refl

module _ (aggregates : KnownAggregates) (token second : ℕ) where
  pub assignment_stored : (left right : Fact)
      → assignment_row token second (part_stored aggregates.has_const left) right ≡ assignment_row token second (as_stored aggregates left) right
  assignment_stored left right =
      stored_told aggregates (λ place. assignment_row token second place right) (assignment_alike token second right) left

module _ (aggregates : KnownAggregates) (operator : Operator) (token operand : ℕ) where
  pub compound_stored : (second : ℕ) (left right : Fact)
      → compound_row aggregates.told operator token operand second (part_stored aggregates.has_const left) right
      ≡ compound_row aggregates.told operator token operand second (as_stored aggregates left) right
  compound_stored second left right =
      stored_told aggregates (λ place. compound_row aggregates.told operator token operand second place right)
      (λ one other alike. compound_alike aggregates.told operator token operand second one other alike right) left

  pub step_before_stored : (fact : Fact)
      → step_before_row aggregates.told operator token operand (part_stored aggregates.has_const fact)
      ≡ step_before_row aggregates.told operator token operand (as_stored aggregates fact)
  step_before_stored fact =
      stored_told aggregates (step_before_row aggregates.told operator token operand)
      (λ one other alike. step_before_alike aggregates.told operator token operand operand one other alike) fact

  pub step_behind_stored : (fact : Fact)
      → step_behind_row aggregates.told operator token operand (part_stored aggregates.has_const fact)
      ≡ step_behind_row aggregates.told operator token operand (as_stored aggregates fact)
  step_behind_stored fact =
      stored_told aggregates (step_behind_row aggregates.told operator token operand)
      (λ one other alike. step_behind_alike aggregates.told operator token operand operand one other alike) fact
