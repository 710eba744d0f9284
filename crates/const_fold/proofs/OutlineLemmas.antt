-- A constant sees of types their outlines alone.
use Rattle.std.proofs.Common.{◌≡◌, ℕ, Bool, true, false, ◌&&◌, ℤ, pos, List, [], ◌∷◌, Option, Some, None, map, option_map, if◌then◌else◌, refl, ap, ◌∙◌}
use Rattle.std.specs.Ordering.{int_eq}
use Rattle.vocabulary.specs.declared.int_kind.IntKind.{IntKind}
use Rattle.vocabulary.specs.declared.operator.Operator.{Operator}
use Rattle.vocabulary.specs.declared.operator.Operator.TheVariants as operators
use Rattle.meaning_types.specs.Types.{TypeTree, Typed, VoidTree, IntegerTree, RestrictedTree, PointerTree, ArrayTree, FunctionTree, AggregateTree}
use Rattle.meaning_constants.specs.Operands.{Operand, is_pointer, is_restricted, complement_fouls}
use Rattle.meaning_constants.specs.Operators.{FoulMark, NeverFouled, BothFouled, EitherFouled, LastFouled, ComplementFouled, law_of}
use Rattle.meaning_constants.specs.Answers.{is_given_fouled}
use Rattle.c_types.specs.declared.nodes.NodeValue.{NodeValue}
use Rattle.c_types.specs.Outlines.{outline_of}
use Rattle.meaning_constants.specs.Constants.{Constant, Part, kind_of, with_kind, with_number, operand_of, is_fouled_by, settled_if, binary_kind, numbers_operated, binary_constant, keeps_identity, unary_kind, unary_constant, own_constant, cast_constant, and_constant, or_constant, arm_constant, conditional_kind, conditional_constant, int_constant}
use Rattle.meaning_types.specs.Conversions.{promoted}
use Rattle.meaning_constants.specs.Numbers.{converted, truth_of}
use Rattle.meaning_constants.specs.Operations.{operated_alone}
use Rattle.meaning_constants.specs.Nodes.{Fold, NoFold, LiteralFold, NameFold, OwnFold, UnaryFold, BinaryFold, AndFold, OrFold, ConditionalFold, CastFold, SizeFold, AlignFold, OffsetFold, NodeFacts, fold_of, folded, loaded_type, node_constant, of_arms, of_one, of_two}
use Rattle.const_fold.specs.Known.{number_with, part_of_type}
use Rattle.const_fold.specs.Measured.{measured}
use Rattle.const_fold.specs.Outlined.{outlined, outlined_part, few, outlined_facts, type_with}

-- Types

pub kind_of-outlined : (of : TypeTree) → kind_of (outlined of) ≡ kind_of of
kind_of-outlined (Typed VoidTree qualifiers flags) = refl
kind_of-outlined (Typed (IntegerTree kind) qualifiers flags) = refl
kind_of-outlined (Typed (RestrictedTree kind identity) qualifiers flags) = refl
kind_of-outlined (Typed (PointerTree target) qualifiers flags) = refl
kind_of-outlined (Typed (ArrayTree element size) qualifiers flags) = refl
kind_of-outlined (Typed (FunctionTree result parameters variadic) qualifiers flags) = refl
kind_of-outlined (Typed (AggregateTree number is_union) qualifiers flags) = refl

pub outlined-loaded : (width : Option ℕ) (of : TypeTree) → outlined (loaded_type width of) ≡ type_with width (outline_of of)
outlined-loaded None (Typed VoidTree qualifiers flags) = refl
outlined-loaded None (Typed (IntegerTree kind) qualifiers flags) = refl
outlined-loaded None (Typed (RestrictedTree kind identity) qualifiers flags) = refl
outlined-loaded None (Typed (PointerTree target) qualifiers flags) = refl
outlined-loaded None (Typed (ArrayTree element size) qualifiers flags) = refl
outlined-loaded None (Typed (FunctionTree result parameters variadic) qualifiers flags) = refl
outlined-loaded None (Typed (AggregateTree number is_union) qualifiers flags) = refl
outlined-loaded (Some bits) (Typed VoidTree qualifiers flags) = refl
outlined-loaded (Some bits) (Typed (IntegerTree kind) qualifiers flags) = refl
outlined-loaded (Some bits) (Typed (RestrictedTree kind identity) qualifiers flags) = refl
outlined-loaded (Some bits) (Typed (PointerTree target) qualifiers flags) = refl
outlined-loaded (Some bits) (Typed (ArrayTree element size) qualifiers flags) = refl
outlined-loaded (Some bits) (Typed (FunctionTree result parameters variadic) qualifiers flags) = refl
outlined-loaded (Some bits) (Typed (AggregateTree number is_union) qualifiers flags) = refl

-- a part is told by the outline of its type
pub part_of_type-outlined : (of told : TypeTree) (value : NodeValue) → told ≡ outlined of
    → ◌≡◌ {A = Part} (record { of = told; fouled = value.fouled; number = number_with (kind_of told) value.constant }) (outlined_part (part_of_type of value))
part_of_type-outlined of told value is =
    let seen : TypeTree → Option IntKind → Part = λ t kind. record { of = t; fouled = value.fouled; number = number_with kind value.constant } in
    ap (λ t. seen t (kind_of t)) is ∙ ap (seen (outlined of)) (kind_of-outlined of)

-- what comes of the kind of a type comes of its outline
with_kind-outlined : (of : TypeTree) (next : IntKind → Option Constant) → with_kind (outlined of) next ≡ with_kind of next
with_kind-outlined (Typed VoidTree qualifiers flags) next = refl
with_kind-outlined (Typed (IntegerTree kind) qualifiers flags) next = refl
with_kind-outlined (Typed (RestrictedTree kind identity) qualifiers flags) next = refl
with_kind-outlined (Typed (PointerTree target) qualifiers flags) next = refl
with_kind-outlined (Typed (ArrayTree element size) qualifiers flags) next = refl
with_kind-outlined (Typed (FunctionTree result parameters variadic) qualifiers flags) next = refl
with_kind-outlined (Typed (AggregateTree number is_union) qualifiers flags) next = refl

-- One part

pub own-outlined : (part : Part) → own_constant (outlined_part part) ≡ own_constant part
own-outlined part = with_kind-outlined part.of _

-- whether a result is fouled is told by what is asked of its operands
given-same : (foul : FoulMark) (left right other_left other_right : Operand) → left.fouled ≡ other_left.fouled → right.fouled ≡ other_right.fouled
    → is_pointer left.of ≡ is_pointer other_left.of → is_pointer right.of ≡ is_pointer other_right.of → complement_fouls left.of ≡ complement_fouls other_left.of
    → is_given_fouled foul left right ≡ is_given_fouled foul other_left other_right
given-same NeverFouled left right l r f g p q h = refl
given-same BothFouled left right l r f g p q h = rw (f, g) refl
given-same EitherFouled left right l r f g p q h = rw (f, g, p, q) refl
given-same LastFouled left right l r f g p q h = g
given-same ComplementFouled left right l r f g p q h = rw (f, h) refl

-- the kind of a result is told by whether the operand is restricted
unary_kind-same : (op : Operator) (of other : TypeTree) (kind : IntKind) → is_restricted of ≡ is_restricted other → unary_kind op of kind ≡ unary_kind op other kind
unary_kind-same operators.LogicalNot of other kind same = refl
unary_kind-same op of other kind same = ap (λ restricted. if keeps_identity (law_of op).gives && restricted then kind else promoted kind) same

unary-by_type : (op : Operator) (of : TypeTree) (fouled : Bool) (number : Option ℤ)
    → unary_constant op (record { of = outlined of; fouled = fouled; number = number }) ≡ unary_constant op (record { of = of; fouled = fouled; number = number })
unary-by_type op (Typed VoidTree qualifiers flags) fouled number = refl
unary-by_type op (Typed (IntegerTree kind) qualifiers flags) fouled number =
    let this : Part = record { of = Typed (IntegerTree kind) qualifiers flags; fouled = fouled; number = number } in
    let settle : Bool → IntKind → Option Constant = λ mark k. with_number number (λ n. settled_if mark k (operated_alone op (promoted kind) n)) in
    ap (λ mark. settle mark (unary_kind op (outlined this.of) kind))
    (given-same (law_of op).foul (operand_of (outlined_part this)) (operand_of (outlined_part this)) (operand_of this) (operand_of this) refl refl refl refl refl)
    ∙ ap (settle (is_fouled_by op this this)) (unary_kind-same op (outlined this.of) this.of kind refl)
unary-by_type op (Typed (RestrictedTree kind identity) qualifiers flags) fouled number =
    let this : Part = record { of = Typed (RestrictedTree kind identity) qualifiers flags; fouled = fouled; number = number } in
    let settle : Bool → IntKind → Option Constant = λ mark k. with_number number (λ n. settled_if mark k (operated_alone op (promoted kind) n)) in
    ap (λ mark. settle mark (unary_kind op (outlined this.of) kind))
    (given-same (law_of op).foul (operand_of (outlined_part this)) (operand_of (outlined_part this)) (operand_of this) (operand_of this) refl refl refl refl refl)
    ∙ ap (settle (is_fouled_by op this this)) (unary_kind-same op (outlined this.of) this.of kind refl)
unary-by_type op (Typed (PointerTree target) qualifiers flags) fouled number = refl
unary-by_type op (Typed (ArrayTree element size) qualifiers flags) fouled number = refl
unary-by_type op (Typed (FunctionTree result parameters variadic) qualifiers flags) fouled number = refl
unary-by_type op (Typed (AggregateTree tag is_union) qualifiers flags) fouled number = refl

pub unary-outlined : (op : Operator) (part : Part) → unary_constant op (outlined_part part) ≡ unary_constant op part
unary-outlined op part = unary-by_type op part.of part.fouled part.number

-- Two parts

binary-by_type : (op : Operator) (of other_of : TypeTree) (fouled other_fouled : Bool) (number second : Option ℤ)
    → binary_constant op (record { of = outlined of; fouled = fouled; number = number }) (record { of = outlined other_of; fouled = other_fouled; number = second })
    ≡ binary_constant op (record { of = of; fouled = fouled; number = number }) (record { of = other_of; fouled = other_fouled; number = second })
binary-by_type op (Typed VoidTree q f) other_of fouled other_fouled number second = refl
binary-by_type op (Typed (IntegerTree kind) q f) (Typed VoidTree s g) fouled other_fouled number second = refl
binary-by_type op (Typed (IntegerTree kind) q f) (Typed (IntegerTree other) s g) fouled other_fouled number second =
    let left : Part = record { of = Typed (IntegerTree kind) q f; fouled = fouled; number = number } in
    let right : Part = record { of = Typed (IntegerTree other) s g; fouled = other_fouled; number = second } in
    ap (λ mark. with_number number (λ n. with_number second (λ m. settled_if mark (binary_kind op left.of right.of kind other) (numbers_operated op kind other n m))))
    (given-same (law_of op).foul (operand_of (outlined_part left)) (operand_of (outlined_part right)) (operand_of left) (operand_of right) refl refl refl refl refl)
binary-by_type op (Typed (IntegerTree kind) q f) (Typed (RestrictedTree other another) s g) fouled other_fouled number second =
    let left : Part = record { of = Typed (IntegerTree kind) q f; fouled = fouled; number = number } in
    let right : Part = record { of = Typed (RestrictedTree other another) s g; fouled = other_fouled; number = second } in
    ap (λ mark. with_number number (λ n. with_number second (λ m. settled_if mark (binary_kind op left.of right.of kind other) (numbers_operated op kind other n m))))
    (given-same (law_of op).foul (operand_of (outlined_part left)) (operand_of (outlined_part right)) (operand_of left) (operand_of right) refl refl refl refl refl)
binary-by_type op (Typed (IntegerTree kind) q f) (Typed (PointerTree aim) s g) fouled other_fouled number second = refl
binary-by_type op (Typed (IntegerTree kind) q f) (Typed (ArrayTree item count) s g) fouled other_fouled number second = refl
binary-by_type op (Typed (IntegerTree kind) q f) (Typed (FunctionTree answer takes more) s g) fouled other_fouled number second = refl
binary-by_type op (Typed (IntegerTree kind) q f) (Typed (AggregateTree token union) s g) fouled other_fouled number second = refl
binary-by_type op (Typed (RestrictedTree kind identity) q f) (Typed VoidTree s g) fouled other_fouled number second = refl
binary-by_type op (Typed (RestrictedTree kind identity) q f) (Typed (IntegerTree other) s g) fouled other_fouled number second =
    let left : Part = record { of = Typed (RestrictedTree kind identity) q f; fouled = fouled; number = number } in
    let right : Part = record { of = Typed (IntegerTree other) s g; fouled = other_fouled; number = second } in
    ap (λ mark. with_number number (λ n. with_number second (λ m. settled_if mark (binary_kind op left.of right.of kind other) (numbers_operated op kind other n m))))
    (given-same (law_of op).foul (operand_of (outlined_part left)) (operand_of (outlined_part right)) (operand_of left) (operand_of right) refl refl refl refl refl)
binary-by_type op (Typed (RestrictedTree kind identity) q f) (Typed (RestrictedTree other another) s g) fouled other_fouled number second =
    let left : Part = record { of = Typed (RestrictedTree kind identity) q f; fouled = fouled; number = number } in
    let right : Part = record { of = Typed (RestrictedTree other another) s g; fouled = other_fouled; number = second } in
    ap (λ mark. with_number number (λ n. with_number second (λ m. settled_if mark (binary_kind op left.of right.of kind other) (numbers_operated op kind other n m))))
    (given-same (law_of op).foul (operand_of (outlined_part left)) (operand_of (outlined_part right)) (operand_of left) (operand_of right) refl refl refl refl refl)
binary-by_type op (Typed (RestrictedTree kind identity) q f) (Typed (PointerTree aim) s g) fouled other_fouled number second = refl
binary-by_type op (Typed (RestrictedTree kind identity) q f) (Typed (ArrayTree item count) s g) fouled other_fouled number second = refl
binary-by_type op (Typed (RestrictedTree kind identity) q f) (Typed (FunctionTree answer takes more) s g) fouled other_fouled number second = refl
binary-by_type op (Typed (RestrictedTree kind identity) q f) (Typed (AggregateTree token union) s g) fouled other_fouled number second = refl
binary-by_type op (Typed (PointerTree target) q f) other_of fouled other_fouled number second = refl
binary-by_type op (Typed (ArrayTree element size) q f) other_of fouled other_fouled number second = refl
binary-by_type op (Typed (FunctionTree result parameters variadic) q f) other_of fouled other_fouled number second = refl
binary-by_type op (Typed (AggregateTree tag is_union) q f) other_of fouled other_fouled number second = refl

pub binary-outlined : (op : Operator) (left right : Part) → binary_constant op (outlined_part left) (outlined_part right) ≡ binary_constant op left right
binary-outlined op left right = binary-by_type op left.of right.of left.fouled right.fouled left.number right.number

pub cast-outlined : (name part : Part) → cast_constant (outlined name.of) (outlined_part part) ≡ cast_constant name.of part
cast-outlined name part =
    with_kind-outlined name.of _ ∙ ap (with_kind name.of) (λ i kind. with_kind-outlined part.of (λ source. with_number part.number (λ number. Some (record { kind = kind; number = converted kind number }))) i)

-- of `&&` and `||` what the left operand decides is the same, and what the right one does is, too
tested-outlined : (part : Part)
    → with_kind (outlined part.of) (λ kind. with_number part.number (λ number. int_constant (truth_of number)))
    ≡ with_kind part.of (λ kind. with_number part.number (λ number. int_constant (truth_of number)))
tested-outlined part = with_kind-outlined part.of _

pub and-outlined : (left right : Part) → and_constant (outlined_part left) (outlined_part right) ≡ and_constant left right
and-outlined left right =
    ap (λ tested. with_kind (outlined left.of) (λ kind. with_number left.number (λ number. if int_eq number (pos 0) then int_constant (pos 0) else tested)))
    (tested-outlined right)
    ∙ with_kind-outlined left.of _

pub or-outlined : (left right : Part) → or_constant (outlined_part left) (outlined_part right) ≡ or_constant left right
or-outlined left right =
    ap (λ tested. with_kind (outlined left.of) (λ kind. with_number left.number (λ number. if int_eq number (pos 0) then tested else int_constant (pos 1))))
    (tested-outlined right)
    ∙ with_kind-outlined left.of _

-- The arms of `?:`

arm-by_type : (arm told : Part) (of other_of : TypeTree) (fouled other_fouled : Bool) (number second : Option ℤ) → told.number ≡ arm.number
    → arm_constant told (record { of = outlined of; fouled = fouled; number = number }) (record { of = outlined other_of; fouled = other_fouled; number = second })
    ≡ arm_constant arm (record { of = of; fouled = fouled; number = number }) (record { of = other_of; fouled = other_fouled; number = second })
arm-by_type arm told (Typed VoidTree q f) other_of fouled other_fouled number second same = refl
arm-by_type arm told (Typed (IntegerTree kind) q f) (Typed VoidTree s g) fouled other_fouled number second same = refl
arm-by_type arm told (Typed (IntegerTree kind) q f) (Typed (IntegerTree other) s g) fouled other_fouled number second same =
    let left : Part = record { of = Typed (IntegerTree kind) q f; fouled = fouled; number = number } in
    let right : Part = record { of = Typed (IntegerTree other) s g; fouled = other_fouled; number = second } in
    let settle : Bool → Option ℤ → Option Constant = λ mark n. settled_if mark (conditional_kind left right kind other) n in
    ap (λ mark. settle mark told.number)
    (given-same (law_of operators.Conditional).foul (operand_of (outlined_part left)) (operand_of (outlined_part right)) (operand_of left) (operand_of right) refl refl refl refl refl)
    ∙ ap (settle (is_fouled_by operators.Conditional left right)) same
arm-by_type arm told (Typed (IntegerTree kind) q f) (Typed (RestrictedTree other another) s g) fouled other_fouled number second same =
    let left : Part = record { of = Typed (IntegerTree kind) q f; fouled = fouled; number = number } in
    let right : Part = record { of = Typed (RestrictedTree other another) s g; fouled = other_fouled; number = second } in
    let settle : Bool → Option ℤ → Option Constant = λ mark n. settled_if mark (conditional_kind left right kind other) n in
    ap (λ mark. settle mark told.number)
    (given-same (law_of operators.Conditional).foul (operand_of (outlined_part left)) (operand_of (outlined_part right)) (operand_of left) (operand_of right) refl refl refl refl refl)
    ∙ ap (settle (is_fouled_by operators.Conditional left right)) same
arm-by_type arm told (Typed (IntegerTree kind) q f) (Typed (PointerTree aim) s g) fouled other_fouled number second same = refl
arm-by_type arm told (Typed (IntegerTree kind) q f) (Typed (ArrayTree item count) s g) fouled other_fouled number second same = refl
arm-by_type arm told (Typed (IntegerTree kind) q f) (Typed (FunctionTree answer takes more) s g) fouled other_fouled number second same = refl
arm-by_type arm told (Typed (IntegerTree kind) q f) (Typed (AggregateTree token union) s g) fouled other_fouled number second same = refl
arm-by_type arm told (Typed (RestrictedTree kind identity) q f) (Typed VoidTree s g) fouled other_fouled number second same = refl
arm-by_type arm told (Typed (RestrictedTree kind identity) q f) (Typed (IntegerTree other) s g) fouled other_fouled number second same =
    let left : Part = record { of = Typed (RestrictedTree kind identity) q f; fouled = fouled; number = number } in
    let right : Part = record { of = Typed (IntegerTree other) s g; fouled = other_fouled; number = second } in
    let settle : Bool → Option ℤ → Option Constant = λ mark n. settled_if mark (conditional_kind left right kind other) n in
    ap (λ mark. settle mark told.number)
    (given-same (law_of operators.Conditional).foul (operand_of (outlined_part left)) (operand_of (outlined_part right)) (operand_of left) (operand_of right) refl refl refl refl refl)
    ∙ ap (settle (is_fouled_by operators.Conditional left right)) same
arm-by_type arm told (Typed (RestrictedTree kind identity) q f) (Typed (RestrictedTree other another) s g) fouled other_fouled number second same =
    let left : Part = record { of = Typed (RestrictedTree kind identity) q f; fouled = fouled; number = number } in
    let right : Part = record { of = Typed (RestrictedTree other another) s g; fouled = other_fouled; number = second } in
    let settle : Bool → Option ℤ → Option Constant = λ mark n. settled_if mark (conditional_kind left right kind other) n in
    ap (λ mark. settle mark told.number)
    (given-same (law_of operators.Conditional).foul (operand_of (outlined_part left)) (operand_of (outlined_part right)) (operand_of left) (operand_of right) refl refl refl refl refl)
    ∙ ap (settle (is_fouled_by operators.Conditional left right)) same
arm-by_type arm told (Typed (RestrictedTree kind identity) q f) (Typed (PointerTree aim) s g) fouled other_fouled number second same = refl
arm-by_type arm told (Typed (RestrictedTree kind identity) q f) (Typed (ArrayTree item count) s g) fouled other_fouled number second same = refl
arm-by_type arm told (Typed (RestrictedTree kind identity) q f) (Typed (FunctionTree answer takes more) s g) fouled other_fouled number second same = refl
arm-by_type arm told (Typed (RestrictedTree kind identity) q f) (Typed (AggregateTree token union) s g) fouled other_fouled number second same = refl
arm-by_type arm told (Typed (PointerTree target) q f) other_of fouled other_fouled number second same = refl
arm-by_type arm told (Typed (ArrayTree element size) q f) other_of fouled other_fouled number second same = refl
arm-by_type arm told (Typed (FunctionTree result parameters variadic) q f) other_of fouled other_fouled number second same = refl
arm-by_type arm told (Typed (AggregateTree tag is_union) q f) other_of fouled other_fouled number second same = refl

-- the chosen arm has the number that it has
chosen-number : (first : Bool) (third second : Part) → (if first then outlined_part third else outlined_part second).number ≡ (if first then third else second).number
chosen-number true third second = refl
chosen-number false third second = refl

pub conditional-outlined : (condition second third : Part)
    → conditional_constant (outlined_part condition) (outlined_part second) (outlined_part third) ≡ conditional_constant condition second third
conditional-outlined condition second third =
    with_kind-outlined condition.of _
    ∙ ap (λ (next : ℤ → Option Constant). with_kind condition.of (λ kind. with_number condition.number next))
    (λ i number.
    arm-by_type (if int_eq number (pos 0) then third else second) (if int_eq number (pos 0) then outlined_part third else outlined_part second)
    second.of third.of second.fouled third.fouled second.number third.number (chosen-number (int_eq number (pos 0)) third second) i)

-- Nodes

one-outlined : (next : Part → Option Constant) (parts : List (Option Part)) → ((part : Part) → next (outlined_part part) ≡ next part)
    → of_one next (few (map (option_map outlined_part) parts)) ≡ of_one next parts
one-outlined next [] same = refl
one-outlined next (None ∷ []) same = refl
one-outlined next (Some part ∷ []) same = same part
one-outlined next (first ∷ second ∷ []) same = refl
one-outlined next (first ∷ second ∷ third ∷ []) same = refl
one-outlined next (first ∷ second ∷ third ∷ fourth ∷ parts) same = refl

two-outlined : (next : Part → Part → Option Constant) (parts : List (Option Part))
    → ((left right : Part) → next (outlined_part left) (outlined_part right) ≡ next left right)
    → of_two next (few (map (option_map outlined_part) parts)) ≡ of_two next parts
two-outlined next [] same = refl
two-outlined next (only ∷ []) same = refl
two-outlined next (None ∷ second ∷ []) same = refl
two-outlined next (Some left ∷ None ∷ []) same = refl
two-outlined next (Some left ∷ Some right ∷ []) same = same left right
two-outlined next (first ∷ second ∷ third ∷ []) same = refl
two-outlined next (first ∷ second ∷ third ∷ fourth ∷ parts) same = refl

arms-outlined : (parts : List (Option Part)) → of_arms (few (map (option_map outlined_part) parts)) ≡ of_arms parts
arms-outlined [] = refl
arms-outlined (only ∷ []) = refl
arms-outlined (None ∷ third ∷ []) = refl
arms-outlined (Some condition ∷ None ∷ []) = refl
arms-outlined (Some condition ∷ Some third ∷ []) = conditional-outlined condition condition third
arms-outlined (None ∷ second ∷ third ∷ []) = refl
arms-outlined (Some condition ∷ None ∷ third ∷ []) = refl
arms-outlined (Some condition ∷ Some second ∷ None ∷ []) = refl
arms-outlined (Some condition ∷ Some second ∷ Some third ∷ []) = conditional-outlined condition second third
arms-outlined (first ∷ second ∷ third ∷ fourth ∷ parts) = refl

named-outlined : (enumerator : Option Part) → of_one own_constant (option_map outlined_part enumerator ∷ []) ≡ of_one own_constant (enumerator ∷ [])
named-outlined None = refl
named-outlined (Some part) = own-outlined part

folded-outlined : (bytes : Option ℕ) (fold : Fold) (facts : NodeFacts) → folded (measured bytes) fold (outlined_facts facts) ≡ folded (measured bytes) fold facts
folded-outlined bytes NoFold facts = refl
folded-outlined bytes (LiteralFold kind) facts = refl
folded-outlined bytes NameFold facts = named-outlined facts.enumerator
folded-outlined bytes OwnFold facts = one-outlined own_constant facts.parts own-outlined
folded-outlined bytes (UnaryFold operator) facts = one-outlined (unary_constant operator) facts.parts (unary-outlined operator)
folded-outlined bytes (BinaryFold operator) facts = two-outlined (binary_constant operator) facts.parts (binary-outlined operator)
folded-outlined bytes AndFold facts = two-outlined and_constant facts.parts and-outlined
folded-outlined bytes OrFold facts = two-outlined or_constant facts.parts or-outlined
folded-outlined bytes ConditionalFold facts = arms-outlined facts.parts
folded-outlined bytes CastFold facts = two-outlined (λ name operand. cast_constant name.of operand) facts.parts cast-outlined
folded-outlined bytes SizeFold facts = one-outlined _ facts.parts (λ part. refl)
folded-outlined bytes AlignFold facts = one-outlined _ facts.parts (λ part. refl)
folded-outlined bytes OffsetFold facts = refl

pub node_constant-outlined : (bytes : Option ℕ) (facts : NodeFacts) → node_constant (measured bytes) (outlined_facts facts) ≡ node_constant (measured bytes) facts
node_constant-outlined bytes facts = folded-outlined bytes (fold_of facts.kind) facts
