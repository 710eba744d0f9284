-- Worked examples: what numbers become in other types (C11 6.3.1.2, 6.3.1.3).
use Rattle.std.specs.Prelude.{◌≡◌, ◌^◌, ℤ, pos, negsuc, List, [], ◌∷◌, map, replicate}
use Rattle.vocabulary.specs.declared.int_kind.IntKind.TheVariants as kinds
use Rattle.meaning_types.specs.Ranges.{greatest}
use Rattle.meaning_types.specs.examples.Types.{signed_kinds, unsigned_kinds}
use Rattle.meaning_constants.specs.Numbers.{converted}

-- what a number becomes in each signed type, and in each unsigned one
abbrev pub in_signed : ℤ → List ℤ
in_signed number = map (λ kind. converted kind number) signed_kinds

abbrev pub in_unsigned : ℤ → List ℤ
in_unsigned number = map (λ kind. converted kind number) unsigned_kinds

pub record ConversionExamples : Type 0 where
  pub zero_signed : in_signed (pos 0) ≡ replicate 6 (pos 0)
  pub zero_unsigned : in_unsigned (pos 0) ≡ replicate 6 (pos 0)
  -- -1 is the greatest number of an unsigned type, and 1 of _Bool
  pub minus_one_signed : in_signed (negsuc 0) ≡ replicate 6 (negsuc 0)
  pub minus_one_unsigned : in_unsigned (negsuc 0) ≡ map greatest unsigned_kinds
  -- 200 is -56 in a signed char; 511 is -1 there, and 255 in an unsigned one
  pub two_hundred : in_signed (pos 200) ≡ negsuc 55 ∷ negsuc 55 ∷ replicate 4 (pos 200)
  pub nine_bits : in_signed (pos 511) ≡ negsuc 0 ∷ negsuc 0 ∷ replicate 4 (pos 511)
  pub nine_bits_unsigned : in_unsigned (pos 511) ≡ pos 1 ∷ pos 255 ∷ replicate 4 (pos 511)
  -- one behind either end of an int comes in at the other
  pub behind_int : map (λ kind. converted kind (pos 2147483648)) (kinds.Int ∷ kinds.UInt ∷ kinds.Long ∷ []) ≡ negsuc 2147483647 ∷ pos 2147483648 ∷ pos 2147483648 ∷ []
  pub before_int : map (λ kind. converted kind (negsuc 2147483648)) (kinds.Int ∷ kinds.UInt ∷ kinds.Long ∷ []) ≡ pos 2147483647 ∷ pos 2147483647 ∷ negsuc 2147483648 ∷ []
  pub two_to_64 : in_unsigned (pos (2 ^ 64)) ≡ pos 1 ∷ replicate 5 (pos 0)
