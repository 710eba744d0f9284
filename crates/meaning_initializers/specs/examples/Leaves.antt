-- Worked examples: which part each expression initializes. Braces stand at token 0.
use Rattle.std.specs.Prelude.{ℕ, pos, false, List, [], ◌∷◌, codes, Option, Some, None}
use Rattle.meaning_types.specs.Types.{TypeTree}
use Rattle.meaning_typing.specs.Declarators.{array_type}
use Rattle.meaning_typing.specs.examples.Drawn.{int}
use Rattle.meaning_typing.specs.examples.Values.{char, long}
use Rattle.meaning_typing.specs.examples.Told.{structure_at, union_at}
use Rattle.meaning_initializers.specs.Items.{Items, NoItems}
use Rattle.meaning_initializers.specs.Plans.{Leaf}
use Rattle.meaning_initializers.specs.Filling.{Initializes}
use Rattle.meaning_initializers.specs.examples.Written.{told, integer, given, string, plain, behind, braces, index, named, leaf, moved}

-- a local of this type has these leaves, this type then, and nothing is refused
abbrev pub HasLeaves : TypeTree → Items → List Leaf → (complete : TypeTree) → Type 0
HasLeaves object items leaves complete = Initializes told false object (braces 0 items) (record { leaves = leaves; complete = complete; refusals = [] })

abbrev pub ints : Option ℕ → TypeTree
ints length = array_type int length

abbrev pub others : Option ℕ → TypeTree
others length = array_type (structure_at 10) length

abbrev pub chars : Option ℕ → TypeTree
chars length = array_type char length

pub record ArrayLeaves : Type 0 where
  -- `int t[] = { [3] = 1, 2, [0] = 5 }`
  pub positions :
      HasLeaves (ints None) (behind (index 1 (pos 3) ∷ []) (integer 2) (plain (integer 3) (behind (index 4 (pos 0) ∷ []) (integer 5) NoItems)))
      (moved (3 ∷ []) int 2 ∷ leaf (4 ∷ []) int 3 ∷ moved (0 ∷ []) int 5 ∷ []) (ints (Some 5))
  -- `int t[][2] = { 1, 2, 3 }`
  pub elided :
      HasLeaves (array_type (ints (Some 2)) None) (plain (integer 1) (plain (integer 2) (plain (integer 3) NoItems)))
      (leaf (0 ∷ 0 ∷ []) int 1 ∷ leaf (0 ∷ 1 ∷ []) int 2 ∷ leaf (1 ∷ 0 ∷ []) int 3 ∷ []) (array_type (ints (Some 2)) (Some 2))
  -- `int t[][2] = { { 1 }, {} }`
  pub braced :
      HasLeaves (array_type (ints (Some 2)) None) (plain (braces 1 (plain (integer 2) NoItems)) (plain (braces 3 NoItems) NoItems))
      (leaf (0 ∷ 0 ∷ []) int 2 ∷ []) (array_type (ints (Some 2)) (Some 2))
  -- `struct other t[] = { 1, { 2 } }`
  pub mixed :
      HasLeaves (others None) (plain (integer 1) (plain (braces 2 (plain (integer 3) NoItems)) NoItems))
      (leaf (0 ∷ 0 ∷ []) int 1 ∷ leaf (1 ∷ 0 ∷ []) int 3 ∷ []) (others (Some 2))
  -- `struct other t[2] = { one(), 2 }`, where the function returns a structure
  pub values :
      HasLeaves (others (Some 2)) (plain (given 1 10) (plain (integer 2) NoItems))
      (leaf (0 ∷ []) (structure_at 10) 1 ∷ leaf (1 ∷ 0 ∷ []) int 2 ∷ []) (others (Some 2))
  -- `struct pair t[] = { 1, 2, [3].b = 4, { 5 } }`
  pub through_parts :
      HasLeaves (array_type (structure_at 9) None)
      (plain (integer 1) (plain (integer 2) (behind (index 3 (pos 3) ∷ named 4 (codes "b") ∷ []) (integer 5) (plain (braces 6 (plain (integer 7) NoItems)) NoItems))))
      (leaf (0 ∷ 0 ∷ []) int 1 ∷ leaf (0 ∷ 1 ∷ 0 ∷ []) int 2 ∷ moved (3 ∷ 1 ∷ 0 ∷ []) int 5 ∷ leaf (3 ∷ 1 ∷ 1 ∷ []) int 7 ∷ [])
      (array_type (structure_at 9) (Some 4))
  -- `int t[2] = { [0] = 1, [0] = 2 }`
  pub overridden :
      HasLeaves (ints (Some 2)) (behind (index 1 (pos 0) ∷ []) (integer 2) (behind (index 3 (pos 0) ∷ []) (integer 4) NoItems))
      (moved (0 ∷ []) int 2 ∷ moved (0 ∷ []) int 4 ∷ []) (ints (Some 2))
  -- `char t[5] = { "ab" }`, `char t[][3] = { "ab", "c" }`
  pub string_in_braces : HasLeaves (chars (Some 5)) (plain (string 1 3) NoItems) (leaf [] (chars (Some 5)) 1 ∷ []) (chars (Some 5))
  pub strings :
      HasLeaves (array_type (chars (Some 3)) None) (plain (string 1 3) (plain (string 2 2) NoItems))
      (leaf (0 ∷ []) (chars (Some 3)) 1 ∷ leaf (1 ∷ []) (chars (Some 3)) 2 ∷ []) (array_type (chars (Some 3)) (Some 2))
  -- `char t[] = "ab"`, and `char t[2] = "ab"`, whose last zero is missing
  pub string_alone : Initializes told false (chars None) (string 1 3) (record { leaves = leaf [] (chars None) 1 ∷ []; complete = chars (Some 3); refusals = [] })
  pub without_zero :
      Initializes told false (chars (Some 2)) (string 1 3) (record { leaves = leaf [] (chars (Some 2)) 1 ∷ []; complete = chars (Some 2); refusals = [] })

pub record AggregateLeaves : Type 0 where
  -- `struct pair t = { .b[1] = 1, 2 }`
  pub into_member :
      HasLeaves (structure_at 9) (behind (named 1 (codes "b") ∷ index 2 (pos 1) ∷ []) (integer 3) (plain (integer 4) NoItems))
      (moved (1 ∷ 1 ∷ []) int 3 ∷ leaf (2 ∷ []) int 4 ∷ []) (structure_at 9)
  -- `struct pair t = { .b = { 1 }, 2 }`
  pub braced_member :
      HasLeaves (structure_at 9) (behind (named 1 (codes "b") ∷ []) (braces 2 (plain (integer 3) NoItems)) (plain (integer 4) NoItems))
      (moved (1 ∷ 0 ∷ []) int 3 ∷ leaf (2 ∷ []) int 4 ∷ []) (structure_at 9)
  -- `struct fs { int : 3; int a; int : 0; int b; } t = { 1, 2 }`
  pub nameless_bit_fields :
      HasLeaves (structure_at 21) (plain (integer 1) (plain (integer 2) NoItems)) (leaf (1 ∷ []) int 1 ∷ leaf (3 ∷ []) int 2 ∷ []) (structure_at 21)
  -- `struct an { int a; union { int b; long d; }; int e; } t = { 1, 2, 3, .d = 4, 5 }`
  pub union_in_the_middle :
      HasLeaves (structure_at 22)
      (plain (integer 1) (plain (integer 2) (plain (integer 3) (behind (named 4 (codes "d") ∷ []) (integer 5) (plain (integer 6) NoItems)))))
      (leaf (0 ∷ []) int 1 ∷ leaf (1 ∷ 0 ∷ []) int 2 ∷ leaf (2 ∷ []) int 3 ∷ moved (1 ∷ 1 ∷ []) long 5 ∷ leaf (2 ∷ []) int 6 ∷ []) (structure_at 22)
  -- a union's second member, `{ .d = 1 }`
  pub named_in_union : HasLeaves (union_at 23) (behind (named 1 (codes "d") ∷ []) (integer 2) NoItems) (moved (1 ∷ []) long 2 ∷ []) (union_at 23)
  -- `struct em { struct { } e; int a; } t = { 1 }`, and `{ {}, 1 }`
  pub empty_structure : HasLeaves (structure_at 24) (plain (integer 1) NoItems) (leaf (1 ∷ []) int 1 ∷ []) (structure_at 24)
  pub empty_in_braces : HasLeaves (structure_at 24) (plain (braces 1 NoItems) (plain (integer 2) NoItems)) (leaf (1 ∷ []) int 2 ∷ []) (structure_at 24)
  -- `{ one(), 2 }` of a structure within another one, and of the same one `{ 1, 2 }`
  pub value_elided :
      HasLeaves (structure_at 26) (plain (given 1 10) (plain (integer 2) NoItems)) (leaf (0 ∷ []) (structure_at 10) 1 ∷ leaf (1 ∷ []) int 2 ∷ []) (structure_at 26)
  pub parts_elided :
      HasLeaves (structure_at 26) (plain (integer 1) (plain (integer 2) NoItems)) (leaf (0 ∷ 0 ∷ []) int 1 ∷ leaf (1 ∷ []) int 2 ∷ []) (structure_at 26)
  -- `int k = {}`, `int k = { { 1 } }`
  pub empty_list : HasLeaves int NoItems [] int
  pub scalar_in_braces : HasLeaves int (plain (braces 1 (plain (integer 2) NoItems)) NoItems) (leaf [] int 2 ∷ []) int
