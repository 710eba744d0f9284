-- What an operator gives has the kind of the constant that it has.
use Rattle.std.proofs.Common.{◌≡◌, ℕ, Bool, true, false, List, [], ◌∷◌, ◌++◌, ℤ, pos, map, get_or, length, nat_le, nat_lt, Option, Some, None, if◌then◌else◌, refl, sym, ap, subst, ◌∙◌}
use Rattle.std.specs.Ordering.{int_eq}
use Rattle.std.proofs.lemmas.Option.{none-some, same_Some}
use Rattle.vocabulary.specs.declared.int_kind.IntKind.{IntKind}
use Rattle.vocabulary.specs.declared.int_kind.IntKind.TheVariants as integers
use Rattle.vocabulary.specs.declared.node_kind.NodeKind.{NodeKind}
use Rattle.vocabulary.specs.declared.node_kind.NodeKind.TheVariants as kinds
use Rattle.vocabulary.specs.declared.operator.Operator.{Operator}
use Rattle.vocabulary.specs.declared.operator.Operator.TheVariants as operators
use Rattle.meaning_types.specs.Conversions.{promoted}
use Rattle.meaning_types.specs.Types.{TypeTree, Typed, IntegerTree, RestrictedTree, decayed, value_type}
use Rattle.meaning_layout.specs.Sizes.{Told}
use Rattle.meaning_operands.specs.Operators.{law_of}
use Rattle.meaning_operands.specs.Failures.{Broken}
use Rattle.meaning_constants.specs.Constants.{Constant, Part, and_constant, arm_constant, binary_constant, binary_kind, cast_constant, conditional_constant, int_constant, kind_of, most_bytes, or_constant, settled, settled_if, size_constant, unary_constant, unary_kind, with_kind, with_number}
use Rattle.meaning_constants.specs.Constants as constants
use Rattle.meaning_constants.specs.Numbers.{converted, truth_of}
use Rattle.meaning_constants.specs.Operations.{operated_alone}
use Rattle.meaning_constants.specs.Nodes.{NodeFacts, fold_of, folded, loaded_type, of_arms, of_one, of_two, with_part}
use Rattle.meaning_constants.specs.Sizes.{Sizes}
use Rattle.meaning_typing.specs.Casts.{cast_of, cast_row, cast_unknown, is_forced, measured_broken, scalar_cast, sizeof_row}
use Rattle.meaning_typing.specs.Conditionals.{arms_of, conditional_row, conditional_without_middle}
use Rattle.meaning_typing.specs.Declarators.{nothing_told}
use Rattle.meaning_typing.specs.Facts.{Fact, Unknown, Expression, NamedType, ExpressionFact, decays, fact_at, type_of_value, value}
use Rattle.meaning_typing.specs.Operations.{Operation, BinaryOperation, SizeOperation, operation_of}
use Rattle.meaning_typing.specs.Operators.{ValueSort, IntegerSort, OtherSort, binary_by, binary_row, condition_broken, integer, integer_type, integers_row, integers_type, logical_row, not_row, sort_of, unary_of, unary_row, value_sort}
use Rattle.meaning_typing.specs.Rows.{Row, unless_broken}
use Rattle.meaning_typing.specs.Typing.{facts_for_constant, known_sizes, operation_row, part_fact, part_seen, part_token, token_at}
use Rattle.meaning_typing.specs.Units.{UnitNodes, child_at, kind_at, node_at}
use Rattle.expr_judge.specs.Constants.{whole_constant}
use Rattle.expr_judge.specs.Operators.{HasKindOf}

-- Steps to a constant

pub none_has : (fact : Fact) → HasKindOf fact None
none_has (Expression expression) = tt
none_has fact = tt

pub unless_has : (broken : List Broken) (fact : Fact) (constant : Option Constant) → HasKindOf fact constant → HasKindOf (unless_broken broken fact) constant
unless_has [] fact constant has = has
unless_has (first ∷ broken) fact constant has = tt

pub kind_has : (fact : Fact) (of : TypeTree) (next : IntKind → Option Constant) → ((kind : IntKind) → kind_of of ≡ Some kind → HasKindOf fact (next kind))
    → HasKindOf fact (with_kind of next)
kind_has fact (Typed (IntegerTree kind) _ _) next each = each kind refl
kind_has fact (Typed (RestrictedTree kind identity) _ _) next each = each kind refl
kind_has fact of next each = none_has fact

pub number_has : (fact : Fact) (number : Option ℤ) (next : ℤ → Option Constant) → ((known : ℤ) → HasKindOf fact (next known)) → HasKindOf fact (with_number number next)
number_has fact None next each = none_has fact
number_has fact (Some number) next each = each number

settled_has : (fact : Fact) (fouled : Bool) (kind : IntKind) (number : Option ℤ) → ((constant : Constant) → constant.kind ≡ kind → HasKindOf fact (Some constant))
    → HasKindOf fact (settled_if fouled kind number)
settled_has fact fouled kind None each = none_has fact
settled_has fact fouled kind (Some number) each = each (settled fouled kind number) refl

if_has : (fact : Fact) (test : Bool) (constant other : Option Constant) → HasKindOf fact constant → HasKindOf fact other
    → HasKindOf fact (if test then constant else other)
if_has fact true constant other first second = first
if_has fact false constant other first second = second

-- Types of values

abbrev as_value : TypeTree → TypeTree
as_value of = if decays of then decayed of else value_type of

value-is : (expression : ExpressionFact) → type_of_value expression ≡ as_value (loaded_type expression.width expression.type_)
value-is expression = by expression.width expression.type_
  where
    by : (width : Option ℕ) (type_ : TypeTree) → (if decays type_ then decayed type_ else value_type (loaded_type width type_)) ≡ as_value (loaded_type width type_)
    by None type_ = refl
    by (Some bits) (Typed (IntegerTree kind) _ _) = refl
    by (Some bits) type_ = refl

sort-is : (of : TypeTree) (kind : IntKind) → kind_of of ≡ Some kind → sort_of of ≡ IntegerSort kind
sort-is (Typed (IntegerTree own) _ _) kind is = ap IntegerSort (same_Some own kind is)
sort-is (Typed (RestrictedTree own identity) _ _) kind is = ap IntegerSort (same_Some own kind is)
sort-is of kind is = absurd (none-some kind is)

value-kind : (of : TypeTree) (kind : IntKind) → kind_of of ≡ Some kind → kind_of (as_value of) ≡ Some kind
value-kind (Typed (IntegerTree own) _ _) kind is = is
value-kind (Typed (RestrictedTree own identity) _ _) kind is = is
value-kind of kind is = absurd (none-some kind is)

plain-kind : (of : TypeTree) → kind_of (value_type of) ≡ kind_of of
plain-kind (Typed (IntegerTree own) _ _) = refl
plain-kind (Typed (RestrictedTree own identity) _ _) = refl
plain-kind of = refl

-- an expression as a part of which a constant is asked
abbrev loaded : ExpressionFact → TypeTree
loaded expression = loaded_type expression.width expression.type_

abbrev part_of : ExpressionFact → Part
part_of expression = record { of = loaded expression; fouled = expression.is_fouled; number = expression.constant }

-- an integer of this kind
integer-is : (expression : ExpressionFact) (kind : IntKind) → kind_of (loaded expression) ≡ Some kind → value_sort expression ≡ IntegerSort kind
integer-is expression kind is =
    ap sort_of (value-is expression) ∙ sort-is (as_value (loaded expression)) kind (value-kind (loaded expression) kind is)

-- One operand

-- an operator gives the type of its constant's kind
abbrev GivesKind : Operator → Type 0
GivesKind operator =
    (of : TypeTree) (kind : IntKind) → kind_of of ≡ Some kind → kind_of (integer_type operator (as_value of) kind) ≡ Some (unary_kind operator of kind)

unary_has : (operator : Operator) → GivesKind operator → (token operand : ℕ) (expression : ExpressionFact)
    → HasKindOf (unary_of operator token operand expression (value_sort expression)).fact (unary_constant operator (part_of expression))
unary_has operator gives token operand expression =
    let of = loaded expression in
    let fact = (unary_of operator token operand expression (value_sort expression)).fact in
    kind_has fact of _
    (λ kind is. number_has fact expression.constant _
    (λ number. settled_has fact _ (unary_kind operator of kind) _
    (λ constant same.
    subst (λ (sort : ValueSort). HasKindOf (unary_of operator token operand expression sort).fact (Some constant)) (sym (integer-is expression kind is))
    (ap (λ type_. kind_of (integer_type operator type_ kind)) (value-is expression) ∙ gives of kind is ∙ ap Some (sym same)))))

-- an int, which `!`, `&&` and `||` give
abbrev an_int : Fact
an_int = Expression (value (integer integers.Int))

not_int : (fact : Fact) → ((constant : Constant) → constant.kind ≡ integers.Int → HasKindOf fact (Some constant)) → (part : Part)
    → HasKindOf fact (unary_constant operators.LogicalNot part)
not_int fact each part =
    kind_has fact part.of _
    (λ kind is. number_has fact part.number _
    (λ number. settled_has fact (constants.is_fouled_by operators.LogicalNot part part) integers.Int (operated_alone operators.LogicalNot (promoted kind) number) each))

not_has : (token operand : ℕ) (expression : ExpressionFact)
    → HasKindOf (not_row token operand (Expression expression)).fact (unary_constant operators.LogicalNot (part_of expression))
not_has token operand expression =
    unless_has (condition_broken operand (value_sort expression)) an_int (unary_constant operators.LogicalNot (part_of expression))
    (not_int an_int (λ constant same. ap Some (sym same)) (part_of expression))

-- Two operands

abbrev GivesCommonKind : Operator → Type 0
GivesCommonKind operator =
    (of other : TypeTree) (kind second : IntKind) → kind_of of ≡ Some kind → kind_of other ≡ Some second
    → kind_of (integers_type operator (as_value of) (as_value other) kind second) ≡ Some (binary_kind operator of other kind second)

-- two integers are operands of the operator
abbrev TakesIntegers : Operator → Type 0
TakesIntegers operator =
    (told : Told) (token first second : ℕ) (left right : ExpressionFact) (kind other : IntKind)
    → binary_by (law_of operator).operands told operator token first second left right (IntegerSort kind) (IntegerSort other)
    ≡ integers_row operator token left right kind other

module _ (operator : Operator) (gives : GivesCommonKind operator) where
  -- of an operator that gives this type there is a constant of its kind
  common_has : (left right : ExpressionFact) (kind other : IntKind) (constant : Constant) → kind_of (loaded left) ≡ Some kind → kind_of (loaded right) ≡ Some other
      → constant.kind ≡ binary_kind operator (loaded left) (loaded right) kind other
      → kind_of (integers_type operator (type_of_value left) (type_of_value right) kind other) ≡ Some constant.kind
  common_has left right kind other constant is also same =
      (λ i. kind_of (integers_type operator (value-is left i) (value-is right i) kind other))
      ∙ gives (loaded left) (loaded right) kind other is also
      ∙ ap Some (sym same)

  binary_has : TakesIntegers operator → (told : Told) (token first second : ℕ) (left right : ExpressionFact)
      → HasKindOf (binary_row told operator token first second (Expression left) (Expression right)).fact (binary_constant operator (part_of left) (part_of right))
  binary_has takes told token first second left right =
      let fact = (binary_row told operator token first second (Expression left) (Expression right)).fact in
      kind_has fact (loaded left) _
      (λ kind is. kind_has fact (loaded right) _
      (λ other also. number_has fact left.constant _
      (λ number. number_has fact right.constant _
      (λ count. settled_has fact _ (binary_kind operator (loaded left) (loaded right) kind other) _
      (λ constant same.
      subst (λ (row : Row). HasKindOf row.fact (Some constant))
      (sym
      ((λ i. binary_by (law_of operator).operands told operator token first second left right (integer-is left kind is i) (integer-is right other also i))
      ∙ takes told token first second left right kind other))
      (common_has left right kind other constant is also same))))))

-- `&&` and `||`

both_int : (fact : Fact) → ((number : ℤ) → HasKindOf fact (int_constant number)) → (left right : Part) → HasKindOf fact (and_constant left right)
both_int fact each left right =
    kind_has fact left.of _
    (λ kind is. number_has fact left.number _
    (λ number. if_has fact (int_eq number (pos 0)) _ _ (each (pos 0))
    (kind_has fact right.of _ (λ other also. number_has fact right.number _ (λ count. each (truth_of count))))))

either_int : (fact : Fact) → ((number : ℤ) → HasKindOf fact (int_constant number)) → (left right : Part) → HasKindOf fact (or_constant left right)
either_int fact each left right =
    kind_has fact left.of _
    (λ kind is. number_has fact left.number _
    (λ number. if_has fact (int_eq number (pos 0)) _ _
    (kind_has fact right.of _ (λ other also. number_has fact right.number _ (λ count. each (truth_of count)))) (each (pos 1))))

and_has : (token first second : ℕ) (left right : ExpressionFact)
    → HasKindOf (logical_row operators.LogicalAnd token first second (Expression left) (Expression right)).fact (and_constant (part_of left) (part_of right))
and_has token first second left right =
    unless_has (condition_broken first (value_sort left) ++ condition_broken second (value_sort right)) an_int (and_constant (part_of left) (part_of right))
    (both_int an_int (λ number. refl) (part_of left) (part_of right))

or_has : (token first second : ℕ) (left right : ExpressionFact)
    → HasKindOf (logical_row operators.LogicalOr token first second (Expression left) (Expression right)).fact (or_constant (part_of left) (part_of right))
or_has token first second left right =
    unless_has (condition_broken first (value_sort left) ++ condition_broken second (value_sort right)) an_int (or_constant (part_of left) (part_of right))
    (either_int an_int (λ number. refl) (part_of left) (part_of right))

-- Operators that keep the restricted type of an operand

keeps_own : GivesKind operators.Complement
keeps_own (Typed (IntegerTree own) _ _) kind is = refl
keeps_own (Typed (RestrictedTree own identity) _ _) kind is = is
keeps_own of kind is = absurd (none-some kind is)

keeps_one : GivesCommonKind operators.BitwiseAnd
keeps_one (Typed (IntegerTree own) _ _) (Typed (IntegerTree others) _ _) kind second is also = refl
keeps_one (Typed (IntegerTree own) _ _) (Typed (RestrictedTree others identity) _ _) kind second is also = also
keeps_one (Typed (IntegerTree own) _ _) other kind second is also = absurd (none-some second also)
keeps_one (Typed (RestrictedTree own identity) _ _) other kind second is also = is
keeps_one of other kind second is also = absurd (none-some kind is)

-- `?:`

module _ (token second third : ℕ) (left right : ExpressionFact) where
  arm_has : (condition : Option ℤ) (arm : Part)
      → HasKindOf (arms_of condition token second third left right (value_sort left) (value_sort right)).fact (arm_constant arm (part_of left) (part_of right))
  arm_has condition arm =
      let fact = (arms_of condition token second third left right (value_sort left) (value_sort right)).fact in
      kind_has fact (loaded left) _
      (λ kind is. kind_has fact (loaded right) _
      (λ other also. settled_has fact _ (binary_kind operators.Conditional (loaded left) (loaded right) kind other) arm.number
      (λ constant same.
      subst (λ (row : Row). HasKindOf row.fact (Some constant))
      (sym (λ i. arms_of condition token second third left right (integer-is left kind is i) (integer-is right other also i)))
      (common_has operators.Conditional keeps_one left right kind other constant is also same))))

  arms_have : (first : ℕ) (condition : ExpressionFact)
      → HasKindOf (conditional_row token first second third (Expression condition) (Expression left) (Expression right)).fact
      (conditional_constant (part_of condition) (part_of left) (part_of right))
  arms_have first condition =
      unless_has _ _ _
      (kind_has _ (loaded condition) _
      (λ kind is. number_has _ condition.constant _
      (λ number. arm_has condition.constant (if int_eq number (pos 0) then part_of right else part_of left))))

-- Casts and sizes

module _ (token : ℕ) (forced : Bool) where
  cast_known : (to : TypeTree) (expression : ExpressionFact)
      → HasKindOf (cast_of token forced to expression (sort_of to)).fact (cast_constant to (part_of expression))
  cast_known to expression =
      let fact = (cast_of token forced to expression (sort_of to)).fact in
      kind_has fact to _
      (λ kind is. kind_has fact (loaded expression) _
      (λ source from. number_has fact expression.constant _
      (λ number.
      subst (λ (row : Row). HasKindOf row.fact (Some (record { kind = kind; number = converted kind number })))
      (sym (ap (cast_of token forced to expression) (sort-is to kind is) ∙ ap (λ sort. scalar_cast token forced to expression sort (IntegerSort kind)) (integer-is expression source from)))
      (plain-kind to ∙ is))))

  cast-unknown : (target : ValueSort) (constant : Option Constant) → HasKindOf (cast_unknown token target).fact constant
  cast-unknown OtherSort constant = tt
  cast-unknown target constant = tt

  cast_has : (name operand : Fact)
      → HasKindOf (cast_row token forced name operand).fact (with_part (part_seen name) (λ named. with_part (part_seen operand) (λ part. cast_constant named.of part)))
  cast_has (NamedType to) (Expression expression) = cast_known to expression
  cast_has (NamedType to) operand = cast-unknown (sort_of to) _
  cast_has name operand = tt

abbrev pub a_size : Fact
a_size = Expression (value (integer integers.ULong))

pub size_known : (bytes : Option ℕ) (broken : List Broken) → HasKindOf (unless_broken broken a_size) (size_constant bytes)
size_known bytes broken = unless_has broken a_size (size_constant bytes) (by bytes)
  where
    by : (bytes : Option ℕ) → HasKindOf a_size (size_constant bytes)
    by None = tt
    by (Some bytes) = if_has a_size (nat_le bytes most_bytes) (Some (settled false integers.ULong (pos bytes))) None refl tt

size_has : (sizes : TypeTree → Option ℕ) (told : Told) (token : ℕ) (fact : Fact)
    → HasKindOf (sizeof_row told token fact).fact (with_part (part_seen fact) (λ part. size_constant (sizes part.of)))
size_has sizes told token (Expression expression) = size_known (sizes (loaded expression)) (measured_broken told token expression.type_ expression.width)
size_has sizes told token (NamedType type_) = size_known (sizes type_) (measured_broken told token type_ None)
size_has sizes told token fact = tt

-- Whatever is known of the parts

unary_part : (operator : Operator) → GivesKind operator → (token operand : ℕ) (fact : Fact)
    → HasKindOf (unary_row operator token operand fact).fact (with_part (part_seen fact) (unary_constant operator))
unary_part operator gives token operand (Expression expression) = unary_has operator gives token operand expression
unary_part operator gives token operand fact = tt

not_part : (token operand : ℕ) (fact : Fact) → HasKindOf (not_row token operand fact).fact (with_part (part_seen fact) (unary_constant operators.LogicalNot))
not_part token operand (Expression expression) = not_has token operand expression
not_part token operand fact = tt

-- what comes of two parts
abbrev both_parts : (Part → Part → Option Constant) → (left right : Fact) → Option Constant
both_parts next left right = with_part (part_seen left) (λ part. with_part (part_seen right) (λ other. next part other))

binary_parts : (operator : Operator) → GivesCommonKind operator → TakesIntegers operator → (told : Told) (token first second : ℕ) (left right : Fact)
    → HasKindOf (binary_row told operator token first second left right).fact (both_parts (binary_constant operator) left right)
binary_parts operator gives takes told token first second (Expression left) (Expression right) = binary_has operator gives takes told token first second left right
binary_parts operator gives takes told token first second (Expression left) right = tt
binary_parts operator gives takes told token first second left (Expression right) = tt
binary_parts operator gives takes told token first second left right = tt

and_parts : (token first second : ℕ) (left right : Fact)
    → HasKindOf (logical_row operators.LogicalAnd token first second left right).fact (both_parts and_constant left right)
and_parts token first second (Expression left) (Expression right) = and_has token first second left right
and_parts token first second (Expression left) right = tt
and_parts token first second left (Expression right) = tt
and_parts token first second left right = tt

or_parts : (token first second : ℕ) (left right : Fact)
    → HasKindOf (logical_row operators.LogicalOr token first second left right).fact (both_parts or_constant left right)
or_parts token first second (Expression left) (Expression right) = or_has token first second left right
or_parts token first second (Expression left) right = tt
or_parts token first second left (Expression right) = tt
or_parts token first second left right = tt

arms_parts : (token first second third : ℕ) (condition left right : Fact)
    → HasKindOf (conditional_row token first second third condition left right).fact
    (with_part (part_seen condition) (λ test. both_parts (conditional_constant test) left right))
arms_parts token first second third (Expression condition) (Expression left) (Expression right) = arms_have token second third left right first condition
arms_parts token first second third (Expression condition) (Expression left) right = unless_has _ Unknown _ tt
arms_parts token first second third (Expression condition) left right = unless_has _ Unknown _ tt
arms_parts token first second third condition left right = tt

middle_parts : (token first third : ℕ) (condition right : Fact)
    → HasKindOf (conditional_without_middle token first third condition right).fact (both_parts constants.conditional_without_middle condition right)
middle_parts token first third (Expression condition) (Expression right) = arms_have token first third condition right first condition
middle_parts token first third (Expression condition) right = unless_has _ Unknown _ tt
middle_parts token first third condition right = tt

-- The parts of a node

module _ (facts : List Fact) (past : ℕ) where
  abbrev pub handles : List (ℕ × ℕ) → List ℕ
  handles children = map (λ child. child.0) children

  abbrev pub parts : List (ℕ × ℕ) → List (Option Part)
  parts children = map (λ child. part_seen (fact_at facts child)) (handles children)

  abbrev pub fact_of : List (ℕ × ℕ) → (place : ℕ) → Fact
  fact_of children place = fact_at facts (get_or (handles children) place past)

  pub one : (next : Part → Option Constant) (row : Fact → Row) (children : List (ℕ × ℕ))
      → ((fact : Fact) → HasKindOf (row fact).fact (with_part (part_seen fact) next)) → HasKindOf (row (fact_of children 0)).fact (of_one next (parts children))
  one next row [] each = none_has _
  one next row (only ∷ []) each = each (fact_at facts only.0)
  one next row (first ∷ second ∷ others) each = none_has _

  two : (next : Part → Part → Option Constant) (row : Fact → Fact → Row) (children : List (ℕ × ℕ))
      → ((left right : Fact) → HasKindOf (row left right).fact (both_parts next left right))
      → HasKindOf (row (fact_of children 0) (fact_of children 1)).fact (of_two next (parts children))
  two next row [] each = none_has _
  two next row (only ∷ []) each = none_has _
  two next row (first ∷ second ∷ []) each = each (fact_at facts first.0) (fact_at facts second.0)
  two next row (first ∷ second ∷ third ∷ others) each = none_has _

  arms : (token first second third : ℕ) (children : List (ℕ × ℕ))
      → HasKindOf
      (if nat_lt 2 (length children) then conditional_row token first second third (fact_of children 0) (fact_of children 1) (fact_of children 2)
      else conditional_without_middle token first second (fact_of children 0) (fact_of children 1)).fact
      (of_arms (parts children))
  arms token first second third [] = none_has _
  arms token first second third (only ∷ []) = none_has _
  arms token first second third (condition ∷ right ∷ []) = middle_parts token first second (fact_at facts condition.0) (fact_at facts right.0)
  arms token first second third (condition ∷ left ∷ right ∷ []) =
      arms_parts token first second third (fact_at facts condition.0) (fact_at facts left.0) (fact_at facts right.0)
  arms token first second third (condition ∷ left ∷ right ∷ other ∷ others) = none_has _

-- Each kind of node, by layouts and sizes

-- the row of an operator by the layouts that were told
abbrev pub sized_row : Told → UnitNodes → List Fact → (handle : ℕ) → Operation → Row
sized_row told nodes facts handle SizeOperation = sizeof_row told (token_at nodes handle) (part_fact nodes facts handle 0)
sized_row told nodes facts handle (BinaryOperation operator) =
    binary_row told operator (token_at nodes handle) (part_token nodes handle 0) (part_token nodes handle 1)
    (part_fact nodes facts handle 0) (part_fact nodes facts handle 1)
sized_row told nodes facts handle operation = operation_row nodes facts handle operation

untold_row : (nodes : UnitNodes) (facts : List Fact) (handle : ℕ) (operation : Operation)
    → sized_row nothing_told nodes facts handle operation ≡ operation_row nodes facts handle operation
untold_row nodes facts handle SizeOperation = refl
untold_row nodes facts handle (BinaryOperation operator) = refl
untold_row nodes facts handle operation = refl

-- what is known of a node, which may name an enumerator or lead so far
abbrev pub facts_with : UnitNodes → List Fact → (handle : ℕ) → (enumerator : Option Part) → (offset : Option ℕ) → NodeFacts
facts_with nodes facts handle enumerator offset = record (facts_for_constant nodes facts handle) { enumerator = enumerator; offset = offset }

module _ (told : Told) (sizes : Sizes) (nodes : UnitNodes) (facts : List Fact) (handle : ℕ) where
  abbrev children : List (ℕ × ℕ)
  children = (node_at nodes handle).children

  abbrev token : ℕ
  token = token_at nodes handle

  abbrev standing : (place : ℕ) → ℕ
  standing place = part_token nodes handle place

  by_unary : (operator : Operator) → GivesKind operator
      → HasKindOf (unary_row operator token (standing 0) (part_fact nodes facts handle 0)).fact (of_one (unary_constant operator) (parts facts (length nodes) children))
  by_unary operator gives = one facts (length nodes) (unary_constant operator) (unary_row operator token (standing 0)) children (unary_part operator gives token (standing 0))

  by_binary : (operator : Operator) → GivesCommonKind operator → TakesIntegers operator
      → HasKindOf
      (binary_row told operator token (standing 0) (standing 1) (part_fact nodes facts handle 0) (part_fact nodes facts handle 1)).fact
      (of_two (binary_constant operator) (parts facts (length nodes) children))
  by_binary operator gives takes =
      two facts (length nodes) (binary_constant operator) (binary_row told operator token (standing 0) (standing 1)) children
      (binary_parts operator gives takes told token (standing 0) (standing 1))

  by_size : (measure : TypeTree → Option ℕ)
      → HasKindOf (sizeof_row told token (part_fact nodes facts handle 0)).fact (of_one (λ part. size_constant (measure part.of)) (parts facts (length nodes) children))
  by_size measure =
      one facts (length nodes) (λ part. size_constant (measure part.of)) (sizeof_row told token) children (size_has measure told token)

  pub by_kind : (enumerator : Option Part) (offset : Option ℕ) (kind : NodeKind)
      → HasKindOf (sized_row told nodes facts handle (operation_of kind)).fact (folded sizes (fold_of kind) (facts_with nodes facts handle enumerator offset))
  by_kind enumerator offset kinds.Name = tt
  by_kind enumerator offset (kinds.IntegerConstant kind) = tt
  by_kind enumerator offset (kinds.CharacterConstant kind) = tt
  by_kind enumerator offset kinds.Parenthesized = tt
  by_kind enumerator offset kinds.BuiltinOffsetof = tt
  by_kind enumerator offset kinds.UnaryPlus = by_unary operators.UnaryPlus (λ of kind is. refl)
  by_kind enumerator offset kinds.Negation = by_unary operators.Negation (λ of kind is. refl)
  by_kind enumerator offset kinds.Complement = by_unary operators.Complement keeps_own
  by_kind enumerator offset kinds.LogicalNot = one facts (length nodes) (unary_constant operators.LogicalNot) (not_row token (standing 0)) children (not_part token (standing 0))
  by_kind enumerator offset kinds.SizeofExpression = by_size sizes.size
  by_kind enumerator offset kinds.SizeofType = by_size sizes.size
  by_kind enumerator offset kinds.AlignofType = by_size sizes.align
  by_kind enumerator offset kinds.Cast =
      let forced = is_forced nodes (child_at nodes handle 0) in
      two facts (length nodes) (λ name part. cast_constant name.of part) (cast_row token forced) children (cast_has token forced)
  by_kind enumerator offset kinds.Multiplication = by_binary operators.Multiplication (λ of other kind second is also. refl) (λ told t first second left right kind other. refl)
  by_kind enumerator offset kinds.Division = by_binary operators.Division (λ of other kind second is also. refl) (λ told t first second left right kind other. refl)
  by_kind enumerator offset kinds.Remainder = by_binary operators.Remainder (λ of other kind second is also. refl) (λ told t first second left right kind other. refl)
  by_kind enumerator offset kinds.Addition = by_binary operators.Addition (λ of other kind second is also. refl) (λ told t first second left right kind other. refl)
  by_kind enumerator offset kinds.Subtraction = by_binary operators.Subtraction (λ of other kind second is also. refl) (λ told t first second left right kind other. refl)
  by_kind enumerator offset kinds.LeftShift = by_binary operators.LeftShift (λ of other kind second is also. refl) (λ told t first second left right kind other. refl)
  by_kind enumerator offset kinds.RightShift = by_binary operators.RightShift (λ of other kind second is also. refl) (λ told t first second left right kind other. refl)
  by_kind enumerator offset kinds.Less = by_binary operators.Less (λ of other kind second is also. refl) (λ told t first second left right kind other. refl)
  by_kind enumerator offset kinds.Greater = by_binary operators.Greater (λ of other kind second is also. refl) (λ told t first second left right kind other. refl)
  by_kind enumerator offset kinds.LessOrEqual = by_binary operators.LessOrEqual (λ of other kind second is also. refl) (λ told t first second left right kind other. refl)
  by_kind enumerator offset kinds.GreaterOrEqual = by_binary operators.GreaterOrEqual (λ of other kind second is also. refl) (λ told t first second left right kind other. refl)
  by_kind enumerator offset kinds.Equal = by_binary operators.Equal (λ of other kind second is also. refl) (λ told t first second left right kind other. refl)
  by_kind enumerator offset kinds.NotEqual = by_binary operators.NotEqual (λ of other kind second is also. refl) (λ told t first second left right kind other. refl)
  by_kind enumerator offset kinds.BitwiseAnd = by_binary operators.BitwiseAnd keeps_one (λ told t first second left right kind other. refl)
  by_kind enumerator offset kinds.BitwiseExclusiveOr = by_binary operators.BitwiseExclusiveOr keeps_one (λ told t first second left right kind other. refl)
  by_kind enumerator offset kinds.BitwiseOr = by_binary operators.BitwiseOr keeps_one (λ told t first second left right kind other. refl)
  by_kind enumerator offset kinds.LogicalAnd =
      two facts (length nodes) and_constant (logical_row operators.LogicalAnd token (standing 0) (standing 1)) children (and_parts token (standing 0) (standing 1))
  by_kind enumerator offset kinds.LogicalOr =
      two facts (length nodes) or_constant (logical_row operators.LogicalOr token (standing 0) (standing 1)) children (or_parts token (standing 0) (standing 1))
  by_kind enumerator offset kinds.Conditional = arms facts (length nodes) token (standing 0) (standing 1) (standing 2) children
  by_kind enumerator offset kind = none_has (sized_row told nodes facts handle (operation_of kind)).fact

pub operator_has : (nodes : UnitNodes) (facts : List Fact) (handle : ℕ)
    → HasKindOf (operation_row nodes facts handle (operation_of (kind_at nodes handle))).fact (whole_constant nodes facts handle)
operator_has nodes facts handle =
    subst (λ (row : Row). HasKindOf row.fact (whole_constant nodes facts handle))
    (untold_row nodes facts handle (operation_of (kind_at nodes handle)))
    (by_kind nothing_told known_sizes nodes facts handle None (facts_for_constant nodes facts handle).offset (kind_at nodes handle))
