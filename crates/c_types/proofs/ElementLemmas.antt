-- What a type takes by what it is made of.
use Rattle.std.proofs.Common.{◌≡◌, ℕ, zero, suc, ◌<◌, ◌≤◌, ◌+◌, ◌*◌, ◌^◌, max, nat_eq, Bool, true, false, List, Some, slice_get, refl, sym, ap, ◌∙◌, subst, ⊎_elim, arith}
use Rattle.std.proofs.lemmas.Bool.{cases_lt, eqb-true, false≢true}
use Rattle.std.proofs.lemmas.Bool.Decides.{Decides-eqb}
use Rattle.std.specs.Prelude.{Ok}
use Rattle.vocabulary.specs.declared.int_kind.IntKind.{IntKind}
use Rattle.vocabulary.specs.declared.int_kind.IntKind.TheVariants as kinds
use Rattle.meaning_types.specs.Types.{BaseTree, TypeTree, Typed, ArrayTree}
use Rattle.meaning_layout.specs.Repeats.{capped_count, repeated, times_more}
use Rattle.meaning_layout.specs.Sizes.{Told, array_extent, bytes_of, extent_of, extent_of_base, scalar, told_extent}
use Rattle.meaning_layout.proofs.RepeatLemmas.{arrays_repeat, once_is_one}
use Rattle.c_types.specs.declared.elements.Elements.{Elements}
use Rattle.c_types.specs.declared.elements.Innermost.{Innermost}
use Rattle.c_types.specs.Elements.{AreElements, aggregate_innermost, count_in, count_with, elements_extent, integer_innermost, most_in, once_of, repeats_in, single_extent, single_in, single_with}
use Rattle.c_types.specs.Rows.{AreRows, Row, base_of, type_numbered, types_of}
use Rattle.c_types.proofs.RowLemmas.{numbered-row}

-- one by itself
pub one-elements : (base : BaseTree) (elements : Elements) (of : Innermost) (token : ℕ) → ((told : Told) → extent_of_base told base ≡ single_extent told (single_with of token))
    → elements ≡ once_of of token → AreElements base elements
one-elements base elements of token is same =
    subst (AreElements base) (sym same) (record { extent = λ told. is told ∙ sym (once_is_one (single_extent told (single_with of token))); narrow = omega arith })

-- an integer has the bytes of its kind
pub integer-bytes : (told : Told) (kind : IntKind) → Ok (scalar (bytes_of kind)) ≡ single_extent told (single_with (integer_innermost kind) 0)
integer-bytes told kinds.Bool = refl
integer-bytes told kinds.Char = refl
integer-bytes told kinds.SChar = refl
integer-bytes told kinds.UChar = refl
integer-bytes told kinds.Short = refl
integer-bytes told kinds.UShort = refl
integer-bytes told kinds.Int = refl
integer-bytes told kinds.UInt = refl
integer-bytes told kinds.Long = refl
integer-bytes told kinds.ULong = refl
integer-bytes told kinds.LLong = refl
integer-bytes told kinds.ULLong = refl

-- an array of so many of them
pub times-repeats : (elements result : Elements) (length count most : ℕ) → most_in elements ≤ 2 ^ 40 + 1 → count ≡ capped_count (length * count_in elements) → most ≡ max (most_in elements) count
    → most_in result ≡ most → result.is_empty ≡ nat_eq count 0 → repeats_in result ≡ times_more length (repeats_in elements)
times-repeats elements result length count most narrow is_count is_most has_most has_none =
    (λ i. record { count = count_with (has_none i) (has_most i); most = has_most i })
    ∙ (λ i. record { count = counted i; most = is_most i })
    ∙ (λ i. record { count = is_count i; most = max (most_in elements) (is_count i) })
  where
    -- where there are some, each array has no more
    below : (is_empty : Bool) → count ≡ capped_count (length * count_with is_empty (most_in elements)) → 0 < count → most_in elements ≤ count
    below true is some = absurd (omega (arith, is, some))
    below false is some = by length is
      where
        by : (n : ℕ) → count ≡ capped_count (n * max 1 (most_in elements)) → most_in elements ≤ count
        by zero same = absurd (omega (arith, same, some))
        by (suc n) same = omega (arith, same, some, narrow)

    counted : count_with (nat_eq count 0) most ≡ count
    counted = by (nat_eq count 0) refl
      where
        some : nat_eq count 0 ≡ false → 0 < count
        some e = ⊎_elim (λ more. more) (λ none. absurd (false≢true (sym e ∙ (Decides-eqb count 0).1 (omega (arith, none))))) (cases_lt 0 count)

        by : (test : Bool) → nat_eq count 0 ≡ test → count_with test most ≡ count
        by true e = sym (eqb-true count 0 e)
        by false e = omega (arith, is_most, some e, below elements.is_empty is_count (some e))

-- what a type is made of
pub elements-told : (rows : List Row) → AreRows rows → (number : ℕ) (row : Row) → slice_get rows number ≡ Some row → AreElements (base_of (type_numbered (types_of rows) number)) row.1.elements
elements-told rows are number row found = subst (λ t. AreElements (base_of t) row.1.elements) (sym (numbered-row rows are number row found)) (are.each number row found).elements

-- what it takes
pub extent-told : (rows : List Row) → AreRows rows → (number : ℕ) (row : Row) → slice_get rows number ≡ Some row → (told : Told) → elements_extent told row.1.elements ≡ extent_of told (type_numbered (types_of rows) number)
extent-told rows are number row found told = sym ((are.each number row found).elements.extent told) ∙ sym (ap (extent_of told) (numbered-row rows are number row found))

-- an array of what an element is made of
pub array-elements : (element : TypeTree) (length : ℕ) (inner elements : Elements) → AreElements (base_of element) inner → repeats_in elements ≡ times_more length (repeats_in inner)
    → single_in elements ≡ single_in inner → most_in elements ≤ 2 ^ 40 + 1 → AreElements (ArrayTree element (Some length)) elements
array-elements (Typed base qualifiers flags) length inner elements are repeats of narrow =
    record {
      extent = λ told.
          ap (array_extent length) (are.extent told) ∙ arrays_repeat length (repeats_in inner) (single_extent told (single_in inner))
          ∙ (λ i. repeated (sym repeats i) (single_extent told (sym of i)));
      narrow = narrow;
    }
