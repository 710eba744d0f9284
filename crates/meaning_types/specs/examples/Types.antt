-- Worked examples: types, their spellings, what is left of them, and which of them mix spaces.
use Rattle.std.specs.Prelude.{◌≡◌, ℕ, ◌-◌, ◌^◌, true, false, pos, negsuc, List, [], ◌∷◌, ◌++◌, map, replicate, codes}
use Rattle.std.specs.Fmt.{decimal}
use Rattle.vocabulary.specs.declared.int_kind.IntKind.{IntKind}
use Rattle.vocabulary.specs.declared.int_kind.IntKind.TheVariants.{Bool, Char, SChar, UChar, Short, UShort, Int, UInt, Long, ULong, LLong, ULLong}
use Rattle.meaning_types.specs.Types.{Space, NoSpace, NumberedSpace, NamedSpace, Qualifiers, Flags, TypeTree, Typed, IntegerTree, PointerTree, no_qualifiers, no_flags, flags_of, has_flag, value_type, pointer_to, bare, without_flags}
use Rattle.meaning_types.specs.Ranges.{width, least, greatest}
use Rattle.meaning_types.specs.Spelling.{space_spelling, spelling}
use Rattle.meaning_types.specs.Spaces.{MixSpaces}

-- The types of the examples

abbrev pub only_const : Qualifiers
only_const = record { is_const = true; is_volatile = false }

abbrev pub only_volatile : Qualifiers
only_volatile = record { is_const = false; is_volatile = true }

abbrev pub const_volatile : Qualifiers
const_volatile = record { is_const = true; is_volatile = true }

abbrev pub only_noderef : Flags
only_noderef = record { noderef = true; space = NoSpace }

abbrev pub in_space : Space → Flags
in_space space = record { noderef = false; space = space }

abbrev pub noderef_in : Space → Flags
noderef_in space = record { noderef = true; space = space }

abbrev pub user : Space
user = NamedSpace (codes "__user")

-- an integer type without qualifiers or flags
abbrev pub plain : IntKind → TypeTree
plain kind = Typed (IntegerTree kind) no_qualifiers no_flags

abbrev pub int_with : Qualifiers → Flags → TypeTree
int_with qualifiers flags = Typed (IntegerTree Int) qualifiers flags

abbrev pub flagged_int : Flags → TypeTree
flagged_int flags = int_with no_qualifiers flags

-- a const noderef pointer to a volatile int in this space
abbrev pub marked_pointer : TypeTree
marked_pointer = Typed (PointerTree (int_with only_volatile (in_space user))) only_const only_noderef

-- Ranges (C11 6.2.6.2): two's complement, with the widths of LP64

abbrev pub signed_kinds : List IntKind
signed_kinds = Char ∷ SChar ∷ Short ∷ Int ∷ Long ∷ LLong ∷ []

abbrev pub unsigned_kinds : List IntKind
unsigned_kinds = Bool ∷ UChar ∷ UShort ∷ UInt ∷ ULong ∷ ULLong ∷ []

pub record RangeExamples : Type 0 where
  pub signed_widths : map width signed_kinds ≡ 8 ∷ 8 ∷ 16 ∷ 32 ∷ 64 ∷ 64 ∷ []
  pub least_signed : map least signed_kinds ≡ map (λ kind. negsuc (2 ^ (width kind - 1) - 1)) signed_kinds
  pub greatest_signed : map greatest signed_kinds ≡ map (λ kind. pos (2 ^ (width kind - 1) - 1)) signed_kinds
  pub unsigned_widths : map width unsigned_kinds ≡ 1 ∷ 8 ∷ 16 ∷ 32 ∷ 64 ∷ 64 ∷ []
  pub least_unsigned : map least unsigned_kinds ≡ replicate 6 (pos 0)
  pub greatest_unsigned : map greatest unsigned_kinds ≡ map (λ kind. pos (2 ^ width kind - 1)) unsigned_kinds

-- Spellings

pub record SpellingExamples : Type 0 where
  -- the words of C11 6.7.2 p2
  pub kinds :
      map (λ kind. spelling (plain kind))
      (Bool ∷ Char ∷ SChar ∷ UChar ∷ Short ∷ UShort ∷ Int ∷ UInt
      ∷ Long ∷ ULong ∷ LLong ∷ ULLong ∷ [])
      ≡ codes "_Bool" ∷ codes "char" ∷ codes "signed char" ∷ codes "unsigned char" ∷ codes "short" ∷ codes "unsigned short"
      ∷ codes "int" ∷ codes "unsigned int" ∷ codes "long" ∷ codes "unsigned long" ∷ codes "long long" ∷ codes "unsigned long long" ∷ []
  pub marks_in_order :
      spelling (Typed (IntegerTree UInt) const_volatile (noderef_in user))
      ≡ codes "unsigned int const volatile noderef address_space(__user)"
  pub pointer : spelling (pointer_to (flagged_int (noderef_in user))) ≡ codes "int noderef address_space(__user) *"
  -- what marks the pointer follows its star
  pub marked_pointer : spelling marked_pointer ≡ codes "int volatile address_space(__user) * const noderef"
  pub two_stars : spelling (pointer_to (pointer_to (plain Char))) ≡ codes "char * *"
  -- a number is written in decimal, also the number 0
  pub numbered_space :
      (number : ℕ) → spelling (flagged_int (in_space (NumberedSpace number))) ≡ codes "int address_space(" ++ decimal number ++ codes ")"
  pub spaces :
      (number : ℕ) → map space_spelling (NoSpace ∷ NumberedSpace number ∷ user ∷ []) ≡ [] ∷ decimal number ∷ codes "__user" ∷ []

-- What is left of a type

pub record LevelExamples : Type 0 where
  -- no level keeps const or volatile, and each its flags
  pub bare_at_each_level : bare marked_pointer ≡ Typed (PointerTree (flagged_int (in_space user))) no_qualifiers only_noderef
  -- no level keeps flags, and each its qualifiers
  pub without_flags_at_each_level :
      without_flags marked_pointer ≡ Typed (PointerTree (int_with only_volatile no_flags)) only_const no_flags
  -- a loaded value keeps what stands behind its star
  pub value_of_place : value_type marked_pointer ≡ pointer_to (int_with only_volatile (in_space user))
  pub flags : flags_of marked_pointer ≡ only_noderef
  pub any_flag :
      map has_flag (no_flags ∷ only_noderef ∷ in_space (NumberedSpace 0) ∷ in_space user ∷ noderef_in user ∷ [])
      ≡ false ∷ true ∷ true ∷ true ∷ true ∷ []

-- Pointers to these types mix spaces, or don't.

abbrev pub PointersMix : TypeTree → TypeTree → Type 0
PointersMix target other = MixSpaces (pointer_to target) (pointer_to other)

pub record MixedExamples : Type 0 where
  pub noderef : PointersMix (flagged_int only_noderef) (plain Int)
  -- in either order
  pub space : PointersMix (plain Int) (flagged_int (in_space (NumberedSpace 0)))
  pub other_number : PointersMix (flagged_int (in_space (NumberedSpace 1))) (flagged_int (in_space (NumberedSpace 2)))
  pub name_is_no_number : PointersMix (flagged_int (in_space (NumberedSpace 1))) (flagged_int (in_space (NamedSpace (codes "1"))))
  -- the targets' flags differ, whatever else does
  pub other_kind : PointersMix (flagged_int only_noderef) (plain Char)
  -- a deeper level alone differs, but for qualifiers
  pub deeper : PointersMix (pointer_to (int_with only_const (in_space user))) (pointer_to (plain Int))

pub record UnmixedExamples : Type 0 where
  pub equal : PointersMix (flagged_int only_noderef) (flagged_int only_noderef) → ⊥
  pub qualifiers : PointersMix (int_with only_const only_noderef) (int_with only_volatile only_noderef) → ⊥
  pub deeper_qualifiers : PointersMix (pointer_to (int_with only_const no_flags)) (pointer_to (plain Int)) → ⊥
  -- these have other targets
  pub other_kind : PointersMix (plain Char) (plain Int) → ⊥
  pub deeper_other_kind : PointersMix (pointer_to (plain Char)) (pointer_to (flagged_int only_noderef)) → ⊥
  -- the flags of the pointers themselves don't count
  pub pointer_flags : MixSpaces marked_pointer (pointer_to (flagged_int (in_space user))) → ⊥
  -- nor do those of integers
  pub integers : MixSpaces (flagged_int only_noderef) (plain Int) → ⊥
  pub pointer_and_integer : MixSpaces (pointer_to (flagged_int only_noderef)) (plain Int) → ⊥
  pub integer_and_pointer : MixSpaces (plain Int) (pointer_to (flagged_int only_noderef)) → ⊥
