-- Worked examples: members of places and of values, and objects of aggregate type as operands. A node stands at token 2, its first
-- part at 1 and its second at 3.
use Rattle.std.specs.Prelude.{◌≡◌, ℕ, pos, Bool, true, false, List, [], ◌∷◌, ◌++◌, map, replicate, codes, Option, Some, None}
use Rattle.vocabulary.specs.declared.error_kind.ErrorKind.TheVariants.{CannotDereference, CannotTakeAddress, NotModifiable, WrongOperandTypes, NoSuchMember, NoAggregate, VoidValueUsed, IncompleteType, IncompatibleTypes, BadCast, ConditionIsNotScalar, BadBitField}
use Rattle.vocabulary.specs.declared.operator.Operator.TheVariants as operators
use Rattle.vocabulary.specs.declared.rule.RuleCode.TheVariants.{A4}
use Rattle.meaning_types.specs.Types.{TypeTree, NoSpace, NumberedSpace, no_flags, no_qualifiers, pointer_to}
use Rattle.meaning_typing.specs.Surroundings.{Surrounding, ForValue, ForPlace, of_unit}
use Rattle.meaning_typing.specs.Facts.{Fact, Expression, NamedType, ExpressionFact, Addressed, NotAddress, ConstantPlace, ConstantAddress, place, value, type_of_value}
use Rattle.meaning_typing.specs.Declarators.{array_type}
use Rattle.meaning_typing.specs.Rows.{Row, breaks_at, breaks_named, fails_with}
use Rattle.meaning_typing.specs.Typing.{access_failures}
use Rattle.meaning_typing.specs.Expressions.{address_row}
use Rattle.meaning_typing.specs.Operators.{binary_row, logical_row, not_row}
use Rattle.meaning_typing.specs.Conditionals.{conditional_row}
use Rattle.meaning_typing.specs.Casts.{cast_row, expect_row, sizeof_row}
use Rattle.meaning_typing.specs.Members.{member_row, pointer_member_row}
use Rattle.meaning_typing.specs.Wholes.{row_loaded, whole_assignment_row, whole_call_row, whole_compound_row, whole_step_before_row, whole_step_behind_row, whole_subscript_row}
use Rattle.meaning_typing.specs.examples.Drawn.{int}
use Rattle.meaning_typing.specs.examples.Values.{unsigned_int, long, void, i, number, p, v, void_place, void_value}
use Rattle.meaning_typing.specs.examples.Told.{user, constant, int_with, structure_with, structure_at, known, register_place, x, y, z, xp, xu, w, incomplete, given_of, returns}

-- Rows

abbrev pub dot : ExpressionFact → List ℕ → Row
dot operand name = member_row known 2 1 name (Expression operand)

abbrev pub arrow : ExpressionFact → List ℕ → Row
arrow operand name = pointer_member_row known 2 1 name (Expression operand)

abbrev pub address_of : Fact → Row
address_of fact = address_row 2 fact

abbrev pub assigned : Fact → Fact → Row
assigned left right = whole_assignment_row known 2 3 left right

-- the type that a row gives, and whether it is a place; the type of its value
abbrev pub type_and_place : Fact → Option (TypeTree × Bool)
type_and_place (Expression expression) = Some (expression.type_, expression.is_place)
type_and_place fact = None

abbrev pub gives : Row → Option (TypeTree × Bool)
gives row = type_and_place row.fact

abbrev pub a_place : TypeTree → Option (TypeTree × Bool)
a_place type_ = Some (type_, true)

abbrev pub a_value : TypeTree → Option (TypeTree × Bool)
a_value type_ = Some (type_, false)

abbrev pub value_in : Fact → Option TypeTree
value_in (Expression expression) = Some (type_of_value expression)
value_in fact = None

abbrev pub address_in : Fact → Option Addressed
address_in (Expression expression) = Some expression.address
address_in fact = None

-- `struct 19`
abbrev pub fields : ExpressionFact
fields = place (structure_at 19)

pub record MemberTypes : Type 0 where
  -- `x.a`, `x.b`, `x.fl`, `xp->b`
  pub plain_ones :
      map gives (dot x (codes "a") ∷ dot x (codes "b") ∷ dot x (codes "fl") ∷ arrow xp (codes "b") ∷ [])
      ≡ a_place int ∷ a_place (array_type int (Some 2)) ∷ a_place (int_with no_qualifiers user) ∷ a_place (array_type int (Some 2)) ∷ []
  -- `xu->a`, `xu->b`, and `k.a` of `const struct pair k`
  pub marks_of_place :
      map gives (arrow xu (codes "a") ∷ arrow xu (codes "b") ∷ dot (place (structure_with 9 constant no_flags)) (codes "a") ∷ [])
      ≡ a_place (int_with no_qualifiers user) ∷ a_place (array_type (int_with no_qualifiers user) (Some 2)) ∷ a_place (int_with constant no_flags) ∷ []
  -- `k.m` of `struct 18 USER k`, whose member has space 2
  pub own_space :
      gives (dot (place (structure_with 18 no_qualifiers user)) (codes "m"))
      ≡ a_place (int_with no_qualifiers (record { noderef = true; space = NumberedSpace 2 }))
  -- `k.c`, which lies in an anonymous member that is const and noderef, of a plain k and of `struct 18 USER k`
  pub through_nameless :
      map gives (dot (place (structure_at 18)) (codes "c") ∷ dot (place (structure_with 18 no_qualifiers user)) (codes "c") ∷ [])
      ≡ a_place (int_with constant (record { noderef = true; space = NoSpace })) ∷ a_place (int_with constant user) ∷ []
  -- `k().a`, `(x = y).a`, and `k().v` of a bit-field, which is loaded
  pub of_values :
      map gives (dot (given_of (structure_at 9)) (codes "a") ∷ dot (value (structure_at 9)) (codes "fl") ∷ dot (given_of (structure_at 19)) (codes "v") ∷ [])
      ≡ a_value int ∷ a_value int ∷ a_value int ∷ []
  -- loaded: `x.f`, `k.u` of 32 bits, `k.v` of 31, `k.l` of 3; and as they are declared
  pub loaded_fields :
      map (λ row. value_in row.fact) (dot x (codes "f") ∷ dot fields (codes "u") ∷ dot fields (codes "v") ∷ dot fields (codes "l") ∷ [])
      ≡ Some int ∷ Some unsigned_int ∷ Some int ∷ Some long ∷ []
  pub declared_fields :
      map gives (dot fields (codes "u") ∷ dot fields (codes "v") ∷ dot fields (codes "l") ∷ [])
      ≡ a_place unsigned_int ∷ a_place unsigned_int ∷ a_place long ∷ []
  -- `k.v = 1`, `++k.v` and `k.v += 1` as declared, `k.v++` as loaded
  pub changed_fields :
      map gives
      (assigned (dot fields (codes "v")).fact (Expression (number (pos 1))) ∷ whole_step_before_row known operators.PreIncrement 2 3 (dot fields (codes "v")).fact
      ∷ whole_compound_row known operators.AdditionAssignment 2 1 3 (dot fields (codes "v")).fact (Expression (number (pos 1)))
      ∷ whole_step_behind_row known operators.PostIncrement 2 1 (dot fields (codes "v")).fact ∷ [])
      ≡ a_value unsigned_int ∷ a_value unsigned_int ∷ a_value unsigned_int ∷ a_value int ∷ []
  -- `&x.b`, `&xu->a`
  pub addresses :
      map gives (address_of (dot x (codes "b")).fact ∷ address_of (arrow xu (codes "a")).fact ∷ [])
      ≡ a_value (pointer_to (array_type int (Some 2))) ∷ a_value (pointer_to (int_with no_qualifiers user)) ∷ []
  -- of an x that stands as long as the program: `&x.a` is constant, `&xp->a` isn't
  pub constant_addresses :
      map (λ row. address_in row.fact) (dot x (codes "a") ∷ address_of (dot x (codes "a")).fact ∷ address_of (arrow xp (codes "a")).fact ∷ [])
      ≡ Some ConstantPlace ∷ Some ConstantAddress ∷ Some NotAddress ∷ []

-- Accesses

-- where a value is wanted, and evaluated
abbrev pub for_value : Surrounding
for_value = record (of_unit 0) { want = ForValue }

abbrev pub load : Row → List (List ℕ)
load row = map (λ failure. failure.token ∷ []) (access_failures 2 for_value row.fact)

pub record MemberAccesses : Type 0 where
  -- `xu->a`, `x.fl`, `xu->b` (an array, which isn't loaded), `x.a`
  pub loads : map load (arrow xu (codes "a") ∷ dot x (codes "fl") ∷ arrow xu (codes "b") ∷ dot x (codes "a") ∷ []) ≡ ((2 ∷ []) ∷ []) ∷ ((2 ∷ []) ∷ []) ∷ [] ∷ [] ∷ []
  pub told_as : access_failures 2 for_value (arrow xu (codes "a")).fact ≡ fails_with A4 2 0 (Some (int_with no_qualifiers user)) None [] ∷ []
  -- `sizeof(xu->a)` and `&xu->a`
  pub not_evaluated : access_failures 2 (record for_value { is_evaluated = false }) (arrow xu (codes "a")).fact ≡ []
  pub place_alone : access_failures 2 (record for_value { want = ForPlace }) (arrow xu (codes "a")).fact ≡ []

-- Constraints

pub record MemberConstraints : Type 0 where
  -- `x->a`
  pub no_pointer : (arrow x (codes "a")).broken ≡ breaks_at CannotDereference 2
  -- `xp->a`, `x.a`, `(*xp).b`, and through anonymous members `k.a`, `k.n`, `k.d`
  pub silent :
      map (λ row. row.broken)
      (arrow xp (codes "a") ∷ dot x (codes "a") ∷ dot (place (structure_at 9)) (codes "b") ∷ dot (place (structure_at 12)) (codes "a")
      ∷ dot (place (structure_at 12)) (codes "n") ∷ dot (place (structure_at 12)) (codes "d") ∷ [])
      ≡ replicate 6 []
  -- `&x.f`, `register struct pair k; &k.a`, `register int k[2]; &k[0]`
  pub no_address :
      map (λ row. row.broken)
      (address_of (dot x (codes "f")).fact ∷ address_of (dot (register_place (structure_at 9)) (codes "a")).fact
      ∷ address_of (whole_subscript_row known.told 2 1 3 (Expression (register_place (array_type int (Some 2)))) (Expression (number (pos 0)))).fact ∷ [])
      ≡ replicate 3 (breaks_at CannotTakeAddress 2)
  -- `&x.b`, and `&k->a` of a register pointer k
  pub address : map (λ row. row.broken) (address_of (dot x (codes "b")).fact ∷ address_of (arrow (register_place (pointer_to (structure_at 9))) (codes "a")).fact ∷ []) ≡ [] ∷ [] ∷ []
  -- `k.a = 1` of a const k; `a = b` of a structure with a const member in its arrays, and of one that is const; `k++` and `k += 1` of such ones
  pub not_modifiable :
      map (λ row. row.broken)
      (assigned (dot (place (structure_with 9 constant no_flags)) (codes "a")).fact (Expression (number (pos 1)))
      ∷ assigned (Expression (place (structure_at 15))) (Expression (place (structure_at 15)))
      ∷ assigned (Expression (place (structure_with 9 constant no_flags))) (Expression y)
      ∷ whole_step_behind_row known operators.PostIncrement 2 1 (Expression (place (structure_at 15)))
      ∷ whole_compound_row known operators.AdditionAssignment 2 1 3 (Expression (place (structure_at 15))) (Expression (number (pos 1))) ∷ [])
      ≡ replicate 5 (breaks_at NotModifiable 2)
  -- `x = y`, `k.n[0]` of the structure with a const member deeper in
  pub modifiable :
      map (λ row. row.broken) (assigned (Expression x) (Expression y) ∷ whole_subscript_row known.told 2 1 3 (dot (place (structure_at 15)) (codes "n")).fact (Expression (number (pos 0))) ∷ [])
      ≡ [] ∷ [] ∷ []
  -- `x + 1`, `x == y`, `x++`, and `k().b`
  pub wrong_operands :
      map (λ row. row.broken)
      (binary_row known.told operators.Addition 2 1 3 (Expression x) (Expression (number (pos 1))) ∷ binary_row known.told operators.Equal 2 1 3 (Expression x) (Expression y)
      ∷ whole_step_behind_row known operators.PostIncrement 2 1 (Expression x) ∷ dot (given_of (structure_at 9)) (codes "b") ∷ [])
      ≡ replicate 4 (breaks_at WrongOperandTypes 2)
  -- `x.k`, `xp->k`
  pub no_member : map (λ row. row.broken) (dot x (codes "k") ∷ arrow xp (codes "k") ∷ []) ≡ replicate 2 (breaks_named NoSuchMember 2 (codes "k"))
  -- `i.a`, `xp.a`, `p->a`, `v->a`
  pub no_aggregate :
      map (λ row. row.broken) (dot i (codes "a") ∷ dot xp (codes "a") ∷ arrow p (codes "a") ∷ arrow v (codes "a") ∷ []) ≡ replicate 4 (breaks_at NoAggregate 2)
  -- `none().a`, and `(*v).a`, which uses no value
  pub void_ones : map (λ row. row.broken) (dot void_value (codes "a") ∷ dot void_place (codes "a") ∷ []) ≡ (breaks_at NoAggregate 2 ++ breaks_at VoidValueUsed 1) ∷ breaks_at NoAggregate 2 ∷ []
  -- `w->a`, `(*w).a`, `w + 1`, `w[1]`, `w++`, `k()` that returns a `struct unknown`, `*w = *w`, `sizeof(struct unknown)`
  pub incomplete_ones :
      map (λ row. row.broken)
      (arrow w (codes "a") ∷ dot incomplete (codes "a") ∷ binary_row known.told operators.Addition 2 1 3 (Expression w) (Expression (number (pos 1)))
      ∷ whole_subscript_row known.told 2 1 3 (Expression w) (Expression (number (pos 1))) ∷ whole_step_behind_row known operators.PostIncrement 2 1 (Expression w)
      ∷ whole_call_row known.told 2 1 (Expression (returns (structure_at 11))) [] ∷ assigned (Expression incomplete) (Expression incomplete)
      ∷ sizeof_row known.told 2 (NamedType (structure_at 11)) ∷ [])
      ≡ replicate 8 (breaks_at IncompleteType 2)
  -- `w - w` is told once for each pointer
  pub difference : (binary_row known.told operators.Subtraction 2 1 3 (Expression w) (Expression w)).broken ≡ breaks_at IncompleteType 2 ++ breaks_at IncompleteType 2
  -- `&*w`, `*w` that is loaded, `*w += 1` at its operand, and `*w` where a place is wanted
  pub address_of_incomplete : (address_row 2 (Expression incomplete)).broken ≡ []
  pub incomplete_loaded : (row_loaded known.told 2 ForValue (record (dot x (codes "a")) { fact = Expression incomplete })).broken ≡ breaks_at IncompleteType 2
  pub incomplete_changed :
      (whole_compound_row known operators.AdditionAssignment 2 1 3 (Expression incomplete) (Expression (number (pos 1)))).broken ≡ breaks_at IncompleteType 1
  pub incomplete_place : (row_loaded known.told 2 ForPlace (record (dot x (codes "a")) { fact = Expression incomplete })).broken ≡ []

-- operands that aren't scalar
pub record WholeConstraints : Type 0 where
  -- `x = z`, `x = 1`, `i = x`, `x == 1`, `x != z`, `i ? x : z`
  pub incompatible :
      map (λ row. row.broken)
      (assigned (Expression x) (Expression z) ∷ assigned (Expression x) (Expression (number (pos 1))) ∷ assigned (Expression i) (Expression x)
      ∷ binary_row known.told operators.Equal 2 1 3 (Expression x) (Expression (number (pos 1))) ∷ binary_row known.told operators.NotEqual 2 1 3 (Expression x) (Expression z)
      ∷ conditional_row 2 1 3 4 (Expression i) (Expression x) (Expression z) ∷ [])
      ≡ replicate 6 (breaks_at IncompatibleTypes 2)
  -- `__builtin_expect(x, 1)`, at the argument
  pub argument : (expect_row 1 3 (Expression x) (Expression (number (pos 1)))).broken ≡ breaks_at IncompatibleTypes 1
  -- `i ? x : y`
  pub arms : gives (conditional_row 2 1 3 4 (Expression i) (Expression x) (Expression y)) ≡ a_value (structure_at 9)
  -- `(int)x`, `(struct pair)x`, and `(void)x`
  pub casts :
      map (λ row. row.broken) (cast_row 2 false (NamedType int) (Expression x) ∷ cast_row 2 false (NamedType (structure_at 9)) (Expression x) ∷ cast_row 2 false (NamedType void) (Expression x) ∷ [])
      ≡ breaks_at BadCast 2 ∷ breaks_at BadCast 2 ∷ [] ∷ []
  -- `!x`, `i && x`, `x ? 1 : 2`
  pub conditions :
      map (λ row. row.broken)
      (not_row 2 3 (Expression x) ∷ logical_row operators.LogicalAnd 2 1 3 (Expression i) (Expression x)
      ∷ conditional_row 2 1 3 4 (Expression x) (Expression (number (pos 1))) (Expression (number (pos 2))) ∷ [])
      ≡ breaks_at ConditionIsNotScalar 3 ∷ breaks_at ConditionIsNotScalar 3 ∷ breaks_at ConditionIsNotScalar 1 ∷ []
  -- `sizeof(x.f)`, and `_Alignof(struct pair)`
  pub sizes : map (λ row. row.broken) (sizeof_row known.told 2 (dot x (codes "f")).fact ∷ sizeof_row known.told 2 (NamedType (structure_at 9)) ∷ []) ≡ breaks_at BadBitField 2 ∷ [] ∷ []
