-- Worked examples: types with the names of a unit.
use Rattle.std.specs.Prelude.{◌≡◌, ℕ, List, [], ◌∷◌, codes, Some}
use Rattle.vocabulary.specs.declared.int_kind.IntKind.TheVariants.{Char, Int, UInt}
use Rattle.meaning_types.specs.Types.{NumberedSpace, TypeTree, Typed, PointerTree, no_flags, pointer_to}
use Rattle.meaning_types.specs.examples.Types.{only_const, const_volatile, in_space, noderef_in, user, plain, int_with, flagged_int}
use Rattle.meaning_types.specs.examples.Derived.{array_of, function_type, variadic_type, restricted_at, structure_at, union_at}
use Rattle.meaning_warnings.specs.Places.{type_spelling}
use Rattle.meaning_warnings.specs.examples.Units.{a_unit}

abbrev pub spelled_in_unit : TypeTree → List ℕ
spelled_in_unit type_ = type_spelling a_unit type_

abbrev pub const_pointer_to : TypeTree → TypeTree
const_pointer_to target = Typed (PointerTree target) only_const no_flags

-- a function that takes a pointer to characters, a pointer and a pointer to a function
abbrev pub takes_pointers : TypeTree
takes_pointers =
    function_type (plain Int)
    (pointer_to (plain Char) ∷ pointer_to (plain Int) ∷ pointer_to (function_type (plain Int) (plain Int ∷ [])) ∷ [])

pub record TypeExamples : Type 0 where
  pub marks_in_order :
      spelled_in_unit (pointer_to (const_pointer_to (int_with const_volatile (noderef_in (NumberedSpace 1)))))
      ≡ codes "int const volatile noderef address_space(1) * const *"
  pub arrays_of_functions :
      spelled_in_unit (pointer_to (array_of (pointer_to (variadic_type (plain Int) (plain Char ∷ []))) (Some 2)))
      ≡ codes "int (char, ...) * [2] *"
  -- an element before its array
  pub arrays_of_arrays : spelled_in_unit (pointer_to (array_of (array_of (plain Int) (Some 3)) (Some 2))) ≡ codes "int [3] [2] *"
  pub parameters : spelled_in_unit takes_pointers ≡ codes "int (char *, int *, int (int) *)"
  pub numbered_space : spelled_in_unit (flagged_int (in_space (NumberedSpace 2))) ≡ codes "int address_space(2)"
  pub named_space : spelled_in_unit (flagged_int (in_space user)) ≡ codes "int address_space(__user)"
  pub named_identity : spelled_in_unit (restricted_at 8 UInt) ≡ codes "restricted te"
  pub nameless_identity : spelled_in_unit (restricted_at 9 UInt) ≡ codes "restricted unsigned int"
  pub nameless_structure : spelled_in_unit (structure_at 4) ≡ codes "struct <unnamed>"
  pub named_union : spelled_in_unit (union_at 6) ≡ codes "union g"
