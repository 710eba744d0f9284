-- Initializers of the examples, and objects that they initialize. An expression and a designator have the number of their token as
-- their handle too.
use Rattle.std.specs.Prelude.{ℕ, ℤ, pos, true, false, List, [], ◌∷◌, codes, Some, None}
use Rattle.meaning_types.specs.Types.{TypeTree}
use Rattle.meaning_layout.specs.Members.{DeclaredBody, DeclaredMember}
use Rattle.meaning_typing.specs.Facts.{Fact, Expression, ExpressionFact, value}
use Rattle.meaning_typing.specs.Declarators.{array_type}
use Rattle.meaning_typing.specs.Aggregates.{Bodies}
use Rattle.meaning_typing.specs.Expressions.{string_place}
use Rattle.meaning_typing.specs.examples.Drawn.{int}
use Rattle.meaning_typing.specs.examples.Values.{long, number}
use Rattle.meaning_typing.specs.examples.Told.{body, member, nameless, other_body, pair_body, structure_at, union_at}
use Rattle.meaning_initializers.specs.Items.{Designator, MemberNamed, ElementAt, Initializer, Value, Braces, Items, Item}
use Rattle.meaning_initializers.specs.Parts.{Aggregates, aggregates_told}
use Rattle.meaning_initializers.specs.Plans.{Leaf}

-- Structures and unions: `struct pair { int a; int b[2]; int f : 3; int USER fl; }` is 9, `struct other { int z; }` 10

abbrev pub bit_field_without_name : (width : ℕ) → DeclaredMember (List ℕ)
bit_field_without_name width = record { name = None; of = int; width = Some width }

-- `struct 21 { int : 3; int a; int : 0; int b; }`
abbrev pub fields_body : DeclaredBody (List ℕ)
fields_body = body (bit_field_without_name 3 ∷ member (codes "a") int ∷ bit_field_without_name 0 ∷ member (codes "b") int ∷ [])

-- `struct 22 { int a; union { int b; long d; }; int e; }`
abbrev pub union_body : DeclaredBody (List ℕ)
union_body = body (member (codes "b") int ∷ member (codes "d") long ∷ [])

abbrev pub around_union_body : DeclaredBody (List ℕ)
around_union_body = body (member (codes "a") int ∷ nameless (union_at 23) ∷ member (codes "e") int ∷ [])

-- `struct 24 { struct { } e; int a; }`
abbrev pub behind_empty_body : DeclaredBody (List ℕ)
behind_empty_body = body (member (codes "e") (structure_at 25) ∷ member (codes "a") int ∷ [])

-- `struct 26 { struct other a; int b; }`
abbrev pub over_other_body : DeclaredBody (List ℕ)
over_other_body = body (member (codes "a") (structure_at 10) ∷ member (codes "b") int ∷ [])

-- `struct 27 { int n; int k[]; }`
abbrev pub flexible_body : DeclaredBody (List ℕ)
flexible_body = body (member (codes "n") int ∷ member (codes "k") (array_type int None) ∷ [])

abbrev pub bodies : Bodies
bodies =
    (9, pair_body) ∷ (10, other_body) ∷ (21, fields_body) ∷ (23, union_body) ∷ (22, around_union_body) ∷ (25, body []) ∷ (24, behind_empty_body)
    ∷ (26, over_other_body) ∷ (27, flexible_body) ∷ []

abbrev pub told : Aggregates
told = aggregates_told bodies

-- Expressions, each at its token

abbrev pub known : (token : ℕ) → Fact → Initializer
known token fact = Value (record { handle = token; token = token; elements = None; fact = fact })

abbrev pub expression : (token : ℕ) → ExpressionFact → Initializer
expression token fact = known token (Expression fact)

-- an int
abbrev pub integer : (token : ℕ) → Initializer
integer token = expression token (number (pos 1))

-- a function's value of this structure
abbrev pub given : (token : ℕ) → (structure : ℕ) → Initializer
given token structure = expression token (value (structure_at structure))

abbrev pub string : (token elements : ℕ) → Initializer
string token elements = Value (record { handle = token; token = token; elements = Some elements; fact = Expression (string_place elements) })

-- Items

abbrev pub plain : Initializer → Items → Items
plain initializer items = Item [] false initializer items

abbrev pub behind : List Designator → Initializer → Items → Items
behind designators initializer items = Item designators false initializer items

abbrev pub braces : (token : ℕ) → Items → Initializer
braces token items = Braces token token items

abbrev pub index : (token : ℕ) → ℤ → Designator
index token constant = record { handle = token; token = token; target = ElementAt (Expression (number constant)) }

abbrev pub named : (token : ℕ) → (name : List ℕ) → Designator
named token name = record { handle = token; token = token; target = MemberNamed name }

-- Leaves

abbrev pub leaf : (path : List ℕ) → TypeTree → (token : ℕ) → Leaf
leaf path type_ token = record { path = path; type_ = type_; expression = token; is_moved = false }

abbrev pub moved : (path : List ℕ) → TypeTree → (token : ℕ) → Leaf
moved path type_ token = record (leaf path type_ token) { is_moved = true }
