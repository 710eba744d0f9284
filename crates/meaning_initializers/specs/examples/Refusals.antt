-- Worked examples: what is refused, and where. Braces stand at token 0.
use Rattle.std.specs.Prelude.{◌≡◌, ℕ, pos, negsuc, Bool, true, false, List, [], ◌∷◌, codes, Option, Some, None}
use Rattle.vocabulary.specs.declared.error_kind.ErrorKind.{ErrorKind}
use Rattle.vocabulary.specs.declared.error_kind.ErrorKind.TheVariants.{ExtraInitializer, InitializerIsNotConstant, BadDesignator, VoidValueUsed, IncompatibleTypes}
use Rattle.vocabulary.specs.declared.int_kind.IntKind.TheVariants as integers
use Rattle.meaning_types.specs.Types.{TypeTree, RestrictedTree, pointer_to}
use Rattle.meaning_typing.specs.Specifiers.{plain_type}
use Rattle.meaning_typing.specs.Facts.{Unknown}
use Rattle.meaning_typing.specs.Expressions.{string_place}
use Rattle.meaning_typing.specs.Declarators.{array_type}
use Rattle.meaning_typing.specs.examples.Drawn.{int}
use Rattle.meaning_typing.specs.examples.Values.{char, i, null, p, void_value}
use Rattle.meaning_typing.specs.examples.Told.{static_place, structure_at, union_at, x}
use Rattle.meaning_initializers.specs.Items.{Initializer, Items, NoItems}
use Rattle.meaning_initializers.specs.Plans.{Leaf, Refusal}
use Rattle.meaning_initializers.specs.Filling.{Outcome, Initializes}
use Rattle.meaning_initializers.specs.Reading.{refusal_told}
use Rattle.meaning_initializers.specs.examples.Written.{told, known, expression, integer, string, plain, behind, braces, index, named, leaf, moved}
use Rattle.meaning_initializers.specs.examples.Leaves.{chars, ints}

abbrev pub at : ErrorKind → (token : ℕ) → Refusal
at constraint token = record { constraint = constraint; token = token; handle = token }

-- a local of this type has these leaves, this type then, and this is refused
abbrev pub Refuses : TypeTree → Initializer → List Leaf → (complete : TypeTree) → List Refusal → Type 0
Refuses object initializer leaves complete refusals =
    Initializes told false object initializer (record { leaves = leaves; complete = complete; refusals = refusals })

-- `{ 1, 2 }`, at tokens from this one on
abbrev pub two_from_1 : Items
two_from_1 = plain (integer 1) (plain (integer 2) NoItems)

pub record ExtraExamples : Type 0 where
  -- `int a[2] = { 1, 2, 3 }`
  pub behind_array :
      Refuses (ints (Some 2)) (braces 0 (plain (integer 1) (plain (integer 2) (plain (integer 3) NoItems))))
      (leaf (0 ∷ []) int 1 ∷ leaf (1 ∷ []) int 2 ∷ []) (ints (Some 2)) (at ExtraInitializer 3 ∷ [])
  -- `struct other k = { 1, 2 }`, `int k = { 1, 2 }`, a union's
  pub behind_structure : Refuses (structure_at 10) (braces 0 two_from_1) (leaf (0 ∷ []) int 1 ∷ []) (structure_at 10) (at ExtraInitializer 2 ∷ [])
  pub behind_scalar : Refuses int (braces 0 two_from_1) (leaf [] int 1 ∷ []) int (at ExtraInitializer 2 ∷ [])
  pub behind_union : Refuses (union_at 23) (braces 0 two_from_1) (leaf (0 ∷ []) int 1 ∷ []) (union_at 23) (at ExtraInitializer 2 ∷ [])
  -- `int a[2][2] = { { 1, 2, 3 } }`, in the inner braces
  pub in_inner_braces :
      Refuses (array_type (ints (Some 2)) (Some 2)) (braces 0 (plain (braces 5 (plain (integer 6) (plain (integer 7) (plain (integer 8) NoItems)))) NoItems))
      (leaf (0 ∷ 0 ∷ []) int 6 ∷ leaf (0 ∷ 1 ∷ []) int 7 ∷ []) (array_type (ints (Some 2)) (Some 2)) (at ExtraInitializer 8 ∷ [])
  -- `int a[2] = { [1] = 1, 2 }`
  pub behind_designator :
      Refuses (ints (Some 2)) (braces 0 (behind (index 1 (pos 1) ∷ []) (integer 2) (plain (integer 3) NoItems)))
      (moved (1 ∷ []) int 2 ∷ []) (ints (Some 2)) (at ExtraInitializer 3 ∷ [])
  -- `struct m { int n; int k[]; } a = { 1, { 2 } }`, and `{ 1, 2 }`: the array has no element
  pub flexible_member :
      Refuses (structure_at 27) (braces 0 (plain (integer 1) (plain (braces 2 (plain (integer 3) NoItems)) NoItems))) (leaf (0 ∷ []) int 1 ∷ []) (structure_at 27)
      (at ExtraInitializer 3 ∷ [])
  pub flexible_elided : Refuses (structure_at 27) (braces 0 two_from_1) (leaf (0 ∷ []) int 1 ∷ []) (structure_at 27) (at ExtraInitializer 2 ∷ [])
  -- `int a[1] = { 1, *(x == 1) }`, where an operand has no type
  pub extra_unknown :
      Refuses (ints (Some 1)) (braces 0 (plain (integer 1) (plain (known 2 Unknown) NoItems))) (leaf (0 ∷ []) int 1 ∷ []) (ints (Some 1)) (at ExtraInitializer 2 ∷ [])
  -- `char a[2] = "abc"`, and `char a[3] = { "abc", 1 }`
  pub long_string : Refuses (chars (Some 2)) (string 1 4) [] (chars (Some 2)) (at ExtraInitializer 1 ∷ [])
  pub behind_string :
      Refuses (chars (Some 3)) (braces 0 (plain (string 1 4) (plain (integer 2) NoItems))) (leaf [] (chars (Some 3)) 1 ∷ []) (chars (Some 3)) (at ExtraInitializer 2 ∷ [])
  -- `char a[] = { "ab", [1] = 1 }`: a string in braces is alone in them
  pub designated_behind_string :
      Refuses (chars None) (braces 0 (plain (string 1 3) (behind (index 2 (pos 1) ∷ []) (integer 3) NoItems))) (leaf [] (chars None) 1 ∷ []) (chars (Some 3))
      (at ExtraInitializer 3 ∷ [])

pub record DesignatorExamples : Type 0 where
  -- `struct pair k = { .k = 1 }`, `{ [0] = 1 }`; `int a[2] = { .a = 1 }`, `{ [2] = 1 }`, `{ [-1] = 1 }`; `int k = { .a = 1 }`
  pub no_member : Refuses (structure_at 9) (braces 0 (behind (named 1 (codes "k") ∷ []) (integer 2) NoItems)) [] (structure_at 9) (at BadDesignator 1 ∷ [])
  pub index_of_structure : Refuses (structure_at 9) (braces 0 (behind (index 1 (pos 0) ∷ []) (integer 2) NoItems)) [] (structure_at 9) (at BadDesignator 1 ∷ [])
  pub member_of_array : Refuses (ints (Some 2)) (braces 0 (behind (named 1 (codes "a") ∷ []) (integer 2) NoItems)) [] (ints (Some 2)) (at BadDesignator 1 ∷ [])
  pub great_index : Refuses (ints (Some 2)) (braces 0 (behind (index 1 (pos 2) ∷ []) (integer 2) NoItems)) [] (ints (Some 2)) (at BadDesignator 1 ∷ [])
  pub negative_index : Refuses (ints (Some 2)) (braces 0 (behind (index 1 (negsuc 0) ∷ []) (integer 2) NoItems)) [] (ints (Some 2)) (at BadDesignator 1 ∷ [])
  pub member_of_scalar : Refuses int (braces 0 (behind (named 1 (codes "a") ∷ []) (integer 2) NoItems)) [] int (at BadDesignator 1 ∷ [])
  -- `struct pair k = { .b[2] = 1 }`, at the second one
  pub inner_index :
      Refuses (structure_at 9) (braces 0 (behind (named 1 (codes "b") ∷ index 2 (pos 2) ∷ []) (integer 3) NoItems)) [] (structure_at 9) (at BadDesignator 2 ∷ [])
  -- `char a[] = { [1099511627776] = 1, 2, [0] = 3 }`: neither the item at a bad index nor that behind it counts
  pub not_counted :
      Refuses (chars None)
      (braces 0 (behind (index 1 (pos 1099511627776) ∷ []) (integer 2) (plain (integer 3) (behind (index 4 (pos 0) ∷ []) (integer 5) NoItems))))
      (moved (0 ∷ []) char 5 ∷ []) (chars (Some 1)) (at BadDesignator 1 ∷ [])
  -- `char a[] = { [1099511627775] = 1, [-1] = 2, 3 }`
  pub greatest_index :
      Refuses (chars None)
      (braces 0 (behind (index 1 (pos 1099511627775) ∷ []) (integer 2) (behind (index 3 (negsuc 0) ∷ []) (integer 4) (plain (integer 5) NoItems))))
      (moved (1099511627775 ∷ []) char 2 ∷ []) (chars (Some 1099511627776)) (at BadDesignator 3 ∷ [])
  -- `int a[] = { [-1] = 1 }`
  pub none_counted : Refuses (ints None) (braces 0 (behind (index 1 (negsuc 0) ∷ []) (integer 2) NoItems)) [] (ints (Some 0)) (at BadDesignator 1 ∷ [])

-- what is told of an object with one expression
abbrev pub IsTold : (is_static : Bool) → TypeTree → Initializer → Option Refusal → Type 0
IsTold is_static object initializer refusal =
    (outcome : Outcome) × Initializes told is_static object initializer outcome × (refusal_told outcome.refusals ≡ refusal)

pub record LeafExamples : Type 0 where
  -- `int k = x`, `int a[2] = 5`, then strings, also `char a[] = ("a")`, `int k = none()`, `struct pair k = 1`
  pub unlike : IsTold true int (expression 1 x) (Some (at IncompatibleTypes 1))
  pub no_list : IsTold true (ints (Some 2)) (integer 1) (Some (at IncompatibleTypes 1))
  -- `int a[2] = "a"`, and `le8 a[] = "a"`
  pub string_for_ints : IsTold true (ints (Some 2)) (string 1 2) (Some (at IncompatibleTypes 1))
  pub string_for_restricted : IsTold true (array_type (plain_type (RestrictedTree integers.UChar 4)) None) (string 1 2) (Some (at IncompatibleTypes 1))
  pub string_in_parentheses : IsTold true (chars None) (expression 1 (string_place 2)) (Some (at IncompatibleTypes 1))
  pub void_one : IsTold false int (expression 1 void_value) (Some (at VoidValueUsed 1))
  pub no_structure : IsTold false (structure_at 9) (integer 1) (Some (at IncompatibleTypes 1))
  -- `int k = i`, `int *k = p` and `struct pair k = x`, of static objects and of others
  pub no_constant : IsTold true int (expression 1 i) (Some (at InitializerIsNotConstant 1))
  pub no_constant_pointer : IsTold true (pointer_to int) (expression 1 p) (Some (at InitializerIsNotConstant 1))
  pub structure_value : IsTold true (structure_at 9) (expression 1 x) (Some (at InitializerIsNotConstant 1))
  pub of_a_local : IsTold false int (expression 1 i) None
  pub structure_of_a_local : IsTold false (structure_at 9) (expression 1 x) None
  -- `int k = 1`, `int *k = (void *)0`, `int *k = a` of a static array a
  pub constants : IsTold true int (integer 1) None
  pub null_pointer : IsTold true (pointer_to int) (expression 1 null) None
  pub static_array : IsTold true (pointer_to int) (expression 1 (static_place (ints (Some 2)))) None
  -- an expression that breaks a constraint takes its place and is asked nothing
  pub broken : IsTold true (structure_at 10) (braces 0 (plain (known 1 Unknown) NoItems)) None
