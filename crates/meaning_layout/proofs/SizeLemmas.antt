-- Sizes of types are multiples of their alignments.
use Rattle.std.proofs.Common.{◌≡◌, ℕ, ◌+◌, ◌*◌, ◌%◌, ◌<◌, Bool, true, false, nat_le, if◌then◌else◌, Option, Some, None, Result, Ok, Err, IfOk, IfSome, refl, ap, ◌∙◌, sym, arith}
use Rattle.std.proofs.lemmas.Bool.{leb-true}
use Rattle.std.proofs.lemmas.Nat.{mod-mul-add, mul-mod_second}
use Rattle.meaning_types.specs.IntKind.{IntKind}
use Rattle.meaning_types.specs.IntKind.TheVariants as kinds
use Rattle.meaning_types.specs.Types.{TypeTree, Typed, BaseTree, VoidTree, IntegerTree, RestrictedTree, PointerTree, ArrayTree, FunctionTree, AggregateTree}
use Rattle.meaning_layout.specs.Layouts.{Layout, LayoutFault, TooLarge, most_bytes}
use Rattle.meaning_layout.specs.Sizes.{Extent, Told, extent_of, extent_of_base, array_extent, told_extent, bytes_of}
use Rattle.meaning_layout.specs.laws.Sizes.{IsWhole, AreWhole, TypesAreWhole}

-- a result that is an extent is whole
abbrev IsWholeIfOk : Result Extent LayoutFault → Type 0
IsWholeIfOk made = IfOk made (λ extent. IsWhole extent.size extent.align)

whole_kind : (kind : IntKind) → IsWhole (bytes_of kind) (bytes_of kind)
whole_kind kinds.Bool = record { some = omega arith; multiple = refl; few = omega arith }
whole_kind kind = record { some = omega arith; multiple = refl; few = omega arith }

none_left : (count align : ℕ) → 0 < align → (count * 0) % align ≡ 0
none_left count align some = ap (λ n. n % align) (is_none count) ∙ mod-mul-add 0 align 0 some
  where
    is_none : (n : ℕ) → n * 0 ≡ 0 * align + 0
    is_none n = omega arith

-- so many of a multiple are one
times_multiple : (count size align : ℕ) → 0 < align → size % align ≡ 0 → (count * size) % align ≡ 0
times_multiple count size align some multiple =
    sym (mul-mod_second count size align) ∙ ap (λ rest. (count * rest) % align) multiple ∙ none_left count align some

array_by : (length : ℕ) (element : Extent) → IsWhole element.size element.align → (test : Bool) → nat_le (length * element.size) most_bytes ≡ test
    → IsWholeIfOk (if test then Ok (record { size = length * element.size; align = element.align }) else Err TooLarge)
array_by length element whole true few =
    record {
      some = whole.some;
      multiple = times_multiple length element.size element.align whole.some whole.multiple;
      few = leb-true (length * element.size) most_bytes few;
    }
array_by length element whole false few = tt

whole_array : (length : ℕ) (element : Result Extent LayoutFault) → IsWholeIfOk element → IsWholeIfOk (array_extent length element)
whole_array length (Err fault) whole = tt
whole_array length (Ok element) whole = array_by length element whole (nat_le (length * element.size) most_bytes) refl

whole_aggregate : (made : Option (Result Layout LayoutFault)) → IfSome made (λ found. IfOk found (λ layout. IsWhole layout.size layout.align)) → IsWholeIfOk (told_extent made)
whole_aggregate None whole = tt
whole_aggregate (Some (Err fault)) whole = tt
whole_aggregate (Some (Ok layout)) whole = whole

mutual
  whole_type : (told : Told) → AreWhole told → (type_ : TypeTree) → IsWholeIfOk (extent_of told type_)
  whole_type told are (Typed base qualifiers flags) = whole_base told are base

  whole_base : (told : Told) → AreWhole told → (base : BaseTree) → IsWholeIfOk (extent_of_base told base)
  whole_base told are VoidTree = tt
  whole_base told are (IntegerTree kind) = whole_kind kind
  whole_base told are (RestrictedTree kind identity) = whole_kind kind
  whole_base told are (PointerTree target) = record { some = omega arith; multiple = refl; few = omega arith }
  whole_base told are (ArrayTree element None) = tt
  whole_base told are (ArrayTree element (Some length)) = whole_array length (extent_of told element) (whole_type told are element)
  whole_base told are (FunctionTree result parameters variadic) = tt
  whole_base told are (AggregateTree number is_union) = whole_aggregate (told number is_union) (are number is_union)

pub types_are_whole : TypesAreWhole
types_are_whole = whole_type
