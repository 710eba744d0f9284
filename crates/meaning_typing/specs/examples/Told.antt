-- Structures and unions that are told, for the examples, and objects of them.
use Rattle.std.specs.Prelude.{ℕ, true, false, List, [], ◌∷◌, map, codes, Some, None}
use Rattle.vocabulary.specs.declared.int_kind.IntKind.TheVariants as integers
use Rattle.meaning_types.specs.Types.{Flags, NoSpace, NumberedSpace, Qualifiers, TypeTree, Typed, AggregateTree, FunctionTree, IntegerTree, NoTypes, no_flags, no_qualifiers, pointer_to}
use Rattle.meaning_layout.specs.Members.{DeclaredBody, DeclaredMember}
use Rattle.meaning_layout.specs.Telling.{ToldMember}
use Rattle.meaning_typing.specs.Facts.{ExpressionFact, ConstantPlace, place, value}
use Rattle.meaning_typing.specs.Specifiers.{plain_type}
use Rattle.meaning_typing.specs.Declarators.{array_type}
use Rattle.meaning_typing.specs.Aggregates.{Bodies, KnownAggregates, aggregates_of}
use Rattle.meaning_typing.specs.examples.Drawn.{int}
use Rattle.meaning_typing.specs.examples.Values.{char, unsigned_int, long}

-- Types

abbrev pub user : Flags
user = record { noderef = true; space = NumberedSpace 1 }

abbrev pub in_space_2 : Flags
in_space_2 = record { noderef = false; space = NumberedSpace 2 }

abbrev pub constant : Qualifiers
constant = record { is_const = true; is_volatile = false }

abbrev pub int_with : Qualifiers → Flags → TypeTree
int_with qualifiers flags = Typed (IntegerTree integers.Int) qualifiers flags

abbrev pub structure_with : (number : ℕ) → Qualifiers → Flags → TypeTree
structure_with number qualifiers flags = Typed (AggregateTree number false) qualifiers flags

abbrev pub structure_at : (number : ℕ) → TypeTree
structure_at number = structure_with number no_qualifiers no_flags

abbrev pub union_at : (number : ℕ) → TypeTree
union_at number = plain_type (AggregateTree number true)

-- Bodies

abbrev pub member : List ℕ → TypeTree → DeclaredMember (List ℕ)
member name of = record { name = Some name; of = of; width = None }

abbrev pub field : List ℕ → TypeTree → ℕ → DeclaredMember (List ℕ)
field name of width = record { name = Some name; of = of; width = Some width }

abbrev pub nameless : TypeTree → DeclaredMember (List ℕ)
nameless of = record { name = None; of = of; width = None }

abbrev pub told_member : DeclaredMember (List ℕ) → ToldMember
told_member member = record { of = member.of; width = member.width; named = true; written = 1 }

abbrev pub body : List (DeclaredMember (List ℕ)) → DeclaredBody (List ℕ)
body members = record { body = record { members = map told_member members; packed = false; written = 1 }; members = members }

-- `struct pair { int a; int b[2]; int f : 3; int USER fl; }` and `struct other { int z; }`; `struct unknown` is 11, and has no body
abbrev pub pair_body : DeclaredBody (List ℕ)
pair_body =
    body
    (member (codes "a") int ∷ member (codes "b") (array_type int (Some 2)) ∷ field (codes "f") int 3
    ∷ member (codes "fl") (int_with no_qualifiers user) ∷ [])

abbrev pub other_body : DeclaredBody (List ℕ)
other_body = body (member (codes "z") int ∷ [])

-- `struct 12 { struct { int a; }; union { int n; char d; }; }`
abbrev pub first_within : DeclaredBody (List ℕ)
first_within = body (member (codes "a") int ∷ [])

abbrev pub second_within : DeclaredBody (List ℕ)
second_within = body (member (codes "n") int ∷ member (codes "d") char ∷ [])

abbrev pub nameless_body : DeclaredBody (List ℕ)
nameless_body = body (nameless (structure_at 13) ∷ nameless (union_at 14) ∷ [])

-- `struct 15 { struct { const int a[2]; } n[2]; }`
abbrev pub const_body : DeclaredBody (List ℕ)
const_body = body (member (codes "a") (array_type (int_with constant no_flags) (Some 2)) ∷ [])

abbrev pub over_const_body : DeclaredBody (List ℕ)
over_const_body = body (member (codes "n") (array_type (structure_at 16) (Some 2)) ∷ [])

-- `struct 18 { int SPACE2 m; const struct { int c; } NODEREF; }`
abbrev pub flagged_body : DeclaredBody (List ℕ)
flagged_body = body (member (codes "m") (int_with no_qualifiers in_space_2) ∷ nameless (structure_with 20 constant (record { noderef = true; space = NoSpace })) ∷ [])

-- `struct 19 { unsigned u : 32; unsigned v : 31; long l : 3; }`
abbrev pub fields_body : DeclaredBody (List ℕ)
fields_body = body (field (codes "u") unsigned_int 32 ∷ field (codes "v") unsigned_int 31 ∷ field (codes "l") long 3 ∷ [])

abbrev pub bodies : Bodies
bodies =
    (9, pair_body) ∷ (10, other_body) ∷ (13, first_within) ∷ (14, second_within) ∷ (12, nameless_body) ∷ (16, const_body) ∷ (15, over_const_body)
    ∷ (20, body (member (codes "c") int ∷ [])) ∷ (18, flagged_body) ∷ (19, fields_body) ∷ []

abbrev pub known : KnownAggregates
known = aggregates_of bodies

-- Objects: `extern struct pair x, y; extern struct other z; struct pair *xp; struct pair USER *xu; struct unknown *w`

abbrev pub static_place : TypeTree → ExpressionFact
static_place type_ = record (place type_) { address = ConstantPlace }

abbrev pub register_place : TypeTree → ExpressionFact
register_place type_ = record (place type_) { is_register = true }

abbrev pub x : ExpressionFact
x = static_place (structure_at 9)

abbrev pub y : ExpressionFact
y = x

abbrev pub z : ExpressionFact
z = static_place (structure_at 10)

abbrev pub xp : ExpressionFact
xp = static_place (pointer_to (structure_at 9))

abbrev pub xu : ExpressionFact
xu = static_place (pointer_to (structure_with 9 no_qualifiers user))

abbrev pub w : ExpressionFact
w = static_place (pointer_to (structure_at 11))

-- `*w`
abbrev pub incomplete : ExpressionFact
incomplete = place (structure_at 11)

-- what a function gives that returns this type, and such a function without parameters
abbrev pub given_of : TypeTree → ExpressionFact
given_of type_ = value type_

abbrev pub returns : TypeTree → ExpressionFact
returns type_ = static_place (plain_type (FunctionTree type_ NoTypes false))
