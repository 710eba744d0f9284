-- Worked examples: arrays, functions, aggregates, restricted integers, and what they are converted to.
use Rattle.std.specs.Prelude.{◌≡◌, ℕ, true, false, List, [], ◌∷◌, ◌++◌, Option, Some, None, map, replicate, codes, nat_eq, if◌then◌else◌}
use Rattle.vocabulary.specs.declared.int_kind.IntKind.{IntKind}
use Rattle.vocabulary.specs.declared.int_kind.IntKind.TheVariants.{Bool, Char, SChar, Short, UShort, Int, UInt, Long, ULong, LLong, ULLong}
use Rattle.meaning_types.specs.Types.{NumberedSpace, TypeTree, Typed, VoidTree, RestrictedTree, PointerTree, ArrayTree, FunctionTree, AggregateTree, TypeTrees, NoTypes, MoreTypes, no_qualifiers, no_flags, pointer_to, value_type, decayed, bare, without_flags}
use Rattle.meaning_types.specs.Equality.{all_kinds, are_same}
use Rattle.meaning_types.specs.Marks.{marked, member_type}
use Rattle.meaning_types.specs.Spaces.{mix_spaces, have_other_targets}
use Rattle.meaning_types.specs.Conversions.{promoted, usual}
use Rattle.meaning_types.specs.Composite.{composite}
use Rattle.meaning_types.specs.Spelling.{spelling_with}
use Rattle.meaning_types.specs.examples.Types.{only_const, only_volatile, const_volatile, only_noderef, in_space, noderef_in, user, plain, int_with, flagged_int}

-- The types of the examples

abbrev pub void : TypeTree
void = Typed VoidTree no_qualifiers no_flags

abbrev pub array_of : TypeTree → Option ℕ → TypeTree
array_of element length = Typed (ArrayTree element length) no_qualifiers no_flags

abbrev pub type_list : List TypeTree → TypeTrees
type_list [] = NoTypes
type_list (type_ ∷ others) = MoreTypes type_ (type_list others)

-- a function with these parameters and no more
abbrev pub function_type : TypeTree → List TypeTree → TypeTree
function_type result parameters = Typed (FunctionTree result (type_list parameters) false) no_qualifiers no_flags

-- a function that takes more arguments besides
abbrev pub variadic_type : TypeTree → List TypeTree → TypeTree
variadic_type result parameters = Typed (FunctionTree result (type_list parameters) true) no_qualifiers no_flags

-- a restricted type that is declared at this token
abbrev pub restricted_at : ℕ → IntKind → TypeTree
restricted_at token kind = Typed (RestrictedTree kind token) no_qualifiers no_flags

abbrev pub structure_at : ℕ → TypeTree
structure_at token = Typed (AggregateTree token false) no_qualifiers no_flags

abbrev pub union_at : ℕ → TypeTree
union_at token = Typed (AggregateTree token true) no_qualifiers no_flags

-- an int behind a pointer that the user gave
abbrev pub user_int : TypeTree
user_int = flagged_int (noderef_in user)

-- Values

pub record ValueExamples : Type 0 where
  -- qualifiers and flags of the outermost level alone are gone
  pub value : value_type (Typed (PointerTree user_int) const_volatile only_noderef) ≡ pointer_to user_int
  pub array : decayed (array_of (array_of (plain Int) (Some 3)) None) ≡ pointer_to (array_of (plain Int) (Some 3))
  pub function : decayed (function_type void []) ≡ pointer_to (function_type void [])
  pub integer : decayed (int_with only_const only_noderef) ≡ int_with only_const only_noderef
  pub parameters_too :
      bare (function_type (int_with only_const no_flags) (pointer_to (int_with only_volatile only_noderef) ∷ []))
      ≡ function_type (plain Int) (pointer_to (flagged_int only_noderef) ∷ [])
  pub elements_too :
      without_flags (pointer_to (array_of (int_with only_const (noderef_in user)) (Some 3)))
      ≡ pointer_to (array_of (int_with only_const no_flags) (Some 3))

-- Which types are the same

pub record SameExamples : Type 0 where
  pub const_target : are_same (pointer_to (int_with only_const no_flags)) (pointer_to (plain Int)) ≡ true
  pub const_everywhere :
      are_same (Typed (PointerTree (Typed (PointerTree (int_with const_volatile no_flags)) no_qualifiers no_flags)) only_const no_flags)
      (pointer_to (pointer_to (plain Int)))
      ≡ true
  pub noderef : are_same (pointer_to (flagged_int only_noderef)) (pointer_to (plain Int)) ≡ false
  pub restricted : are_same (restricted_at 3 UInt) (plain UInt) ≡ false
  pub identities : are_same (restricted_at 3 UShort) (restricted_at 9 UShort) ≡ false
  pub one_identity : are_same (restricted_at 3 UShort) (restricted_at 3 UShort) ≡ true
  pub chars : are_same (plain Char) (plain SChar) ≡ false
  pub missing_length : are_same (array_of (plain Int) None) (array_of (plain Int) (Some 3)) ≡ false
  pub more_arguments : are_same (pointer_to (function_type (plain Int) (plain Char ∷ []))) (pointer_to (variadic_type (plain Int) (plain Char ∷ []))) ≡ false
  pub fewer_parameters : are_same (function_type void (plain Int ∷ [])) (function_type void (plain Int ∷ plain Int ∷ [])) ≡ false
  pub structure_and_union : are_same (structure_at 5) (union_at 5) ≡ false
  pub one_structure : are_same (structure_at 5) (structure_at 5) ≡ true

-- Which pointers mix spaces or have other targets

-- a function that takes a pointer to this
abbrev pub taking : TypeTree → TypeTree
taking target = pointer_to (function_type void (pointer_to target ∷ []))

pub record PointerExamples : Type 0 where
  -- flags of an element are found where those of every level are gone
  pub arrays_mix : mix_spaces (pointer_to (array_of user_int (Some 3))) (pointer_to (array_of (plain Int) (Some 3))) ≡ true
  pub arrays_of_others : have_other_targets (pointer_to (array_of user_int (Some 3))) (pointer_to (array_of (plain Char) (Some 3))) ≡ true
  pub parameters_mix : mix_spaces (taking user_int) (taking (plain Int)) ≡ true
  pub mixed_are_no_others : have_other_targets (pointer_to user_int) (pointer_to (plain Char)) ≡ false
  pub others : have_other_targets (pointer_to (plain Int)) (pointer_to (plain Char)) ≡ true
  pub to_void : have_other_targets (pointer_to (plain Int)) (pointer_to (Typed VoidTree only_const no_flags)) ≡ false
  pub from_void : have_other_targets (pointer_to void) (pointer_to (plain Int)) ≡ false
  pub void_in_a_space : mix_spaces (pointer_to (Typed VoidTree no_qualifiers (noderef_in user))) (pointer_to (plain Int)) ≡ true
  pub lengths : have_other_targets (pointer_to (array_of (plain Int) (Some 3))) (pointer_to (array_of (plain Int) None)) ≡ true
  pub qualifiers : have_other_targets (pointer_to (int_with only_const no_flags)) (pointer_to (plain Int)) ≡ false

-- Qualifiers and flags that are added

pub record MarkExamples : Type 0 where
  pub array : marked only_const no_flags (array_of (plain Int) (Some 2)) ≡ array_of (int_with only_const no_flags) (Some 2)
  pub function : marked only_const only_noderef (function_type void []) ≡ function_type void []
  pub besides : marked only_const only_noderef (int_with only_volatile (in_space user)) ≡ int_with const_volatile (noderef_in user)
  -- a later space replaces an earlier one
  pub later_space : marked no_qualifiers (in_space (NumberedSpace 2)) user_int ≡ flagged_int (noderef_in (NumberedSpace 2))
  -- a member's own space stays, where its place is in another
  pub members_space : member_type no_qualifiers (noderef_in user) (flagged_int (in_space (NumberedSpace 2))) ≡ flagged_int (noderef_in (NumberedSpace 2))
  pub members_elements :
      member_type only_const (in_space user) (array_of (plain Int) (Some 2)) ≡ array_of (int_with only_const (in_space user)) (Some 2)

-- Composite types

pub record CompositeExamples : Type 0 where
  pub second_length : composite (array_of (plain Int) None) (array_of (plain Int) (Some 3)) ≡ Some (array_of (plain Int) (Some 3))
  pub first_length : composite (array_of (plain Int) (Some 3)) (array_of (plain Int) None) ≡ Some (array_of (plain Int) (Some 3))
  pub first_element :
      composite (array_of (int_with only_const no_flags) None) (array_of (plain Int) (Some 3)) ≡ Some (array_of (int_with only_const no_flags) (Some 3))
  pub two_lengths : composite (array_of (plain Int) (Some 2)) (array_of (plain Int) (Some 3)) ≡ None
  pub first_of_same : composite (pointer_to (plain Int)) (pointer_to (int_with only_const no_flags)) ≡ Some (pointer_to (plain Int))
  pub other_elements : composite (array_of (plain Int) None) (array_of (plain Char) (Some 3)) ≡ None
  -- at the outermost level alone
  pub deeper : composite (pointer_to (array_of (plain Int) None)) (pointer_to (array_of (plain Int) (Some 3))) ≡ None

-- Conversions of integers (6.3.1)

-- what each kind gives with all kinds in order, from _Bool to unsigned long long: of one that becomes int ..
abbrev pub int_row : List IntKind
int_row = replicate 7 Int ++ UInt ∷ Long ∷ ULong ∷ LLong ∷ ULLong ∷ []

abbrev pub uint_row : List IntKind
uint_row = replicate 8 UInt ++ Long ∷ ULong ∷ LLong ∷ ULLong ∷ []

-- .. a long holds all numbers of an unsigned int ..
abbrev pub long_row : List IntKind
long_row = replicate 9 Long ++ ULong ∷ LLong ∷ ULLong ∷ []

abbrev pub ulong_row : List IntKind
ulong_row = replicate 10 ULong ++ ULLong ∷ ULLong ∷ []

-- .. and a long long not those of an unsigned long
abbrev pub llong_row : List IntKind
llong_row = replicate 9 LLong ++ ULLong ∷ LLong ∷ ULLong ∷ []

pub record ConversionExamples : Type 0 where
  pub promotions : map promoted all_kinds ≡ replicate 7 Int ++ UInt ∷ Long ∷ ULong ∷ LLong ∷ ULLong ∷ []
  -- the whole table
  pub table :
      map (λ kind. map (usual kind) all_kinds) all_kinds
      ≡ replicate 7 int_row ++ uint_row ∷ long_row ∷ ulong_row ∷ llong_row ∷ replicate 12 ULLong ∷ []
  pub chars : usual Char Char ≡ Int
  pub ints : usual Int UInt ≡ UInt
  pub wider : usual UInt Long ≡ Long
  pub unsigned_wide : usual Long ULong ≡ ULong
  pub higher_rank : usual ULong LLong ≡ ULLong
  pub much_wider : usual UInt LLong ≡ LLong
  pub truth : usual Bool Short ≡ Int

-- Spellings

-- the tag of the structure at token 5, and no other
abbrev pub tags : ℕ → Option (List ℕ)
tags number = if nat_eq number 5 then Some (codes "pair") else None

-- the name of the identity at token 3, and no other
abbrev pub identities : ℕ → Option (List ℕ)
identities identity = if nat_eq identity 3 then Some (codes "le16") else None

abbrev pub spelled_type : TypeTree → List ℕ
spelled_type type_ = spelling_with tags identities type_

pub record DerivedSpellings : Type 0 where
  pub marks_in_order :
      spelled_type (pointer_to (int_with const_volatile (noderef_in (NumberedSpace 1)))) ≡ codes "int const volatile noderef address_space(1) *"
  pub function :
      spelled_type (pointer_to (variadic_type (plain Int) (plain Char ∷ pointer_to (plain Char) ∷ []))) ≡ codes "int (char, char *, ...) *"
  pub no_parameters : spelled_type (function_type void []) ≡ codes "void (void)"
  pub arrays : spelled_type (pointer_to (array_of (array_of (plain Int) (Some 3)) None)) ≡ codes "int [3] [] *"
  pub restricted : spelled_type (pointer_to (restricted_at 3 UShort)) ≡ codes "restricted le16 *"
  -- an identity without a name has its kind's
  pub nameless : spelled_type (restricted_at 9 UShort) ≡ codes "restricted unsigned short"
  pub structure : spelled_type (structure_at 5) ≡ codes "struct pair"
  pub union : spelled_type (union_at 6) ≡ codes "union <unnamed>"
  pub array_of_functions :
      spelled_type (pointer_to (array_of (pointer_to (variadic_type (plain Int) (plain Char ∷ []))) (Some 2))) ≡ codes "int (char, ...) * [2] *"
  pub pointers : spelled_type (pointer_to (Typed (PointerTree (plain Int)) no_qualifiers only_noderef)) ≡ codes "int * noderef *"
