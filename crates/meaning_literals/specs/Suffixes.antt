-- The suffixes of integer constants (C11 6.4.4.1 p1).
use Rattle.std.specs.Prelude.{ℕ, Bool, Option, List, [], ◌∷◌, ◌++◌, map, find, codes}
use Rattle.std.specs.List.{list_any, flat_map}
use Rattle.std.specs.Str.{bytes_eq}

-- none; u or U; l or L; both; ll or LL; that and u or U: the rows of 6.4.4.1 p5
pub data Suffix : Type 0 where
  NoSuffix : Suffix
  U : Suffix
  L : Suffix
  UL : Suffix
  LL : Suffix
  ULL : Suffix

-- the spellings of an unsigned-suffix (6.4.4.1 p1)
abbrev pub unsigned_words : List (List ℕ)
unsigned_words = codes "u" ∷ codes "U" ∷ []

-- the spellings of a long-suffix (6.4.4.1 p1)
abbrev pub long_words : List (List ℕ)
long_words = codes "l" ∷ codes "L" ∷ []

-- `lL` and `Ll` are none
abbrev pub long_long_words : List (List ℕ)
long_long_words = codes "ll" ∷ codes "LL" ∷ []

-- each of the first words with each of the others behind it
abbrev pub joined : List (List ℕ) → List (List ℕ) → List (List ℕ)
joined words others = flat_map (λ word. map (λ other. word ++ other) others) words

-- a word of the one list and a word of the other, in both orders
abbrev pub in_either_order : List (List ℕ) → List (List ℕ) → List (List ℕ)
in_either_order words others = joined words others ++ joined others words

-- all spellings of a suffix
abbrev pub spellings : Suffix → List (List ℕ)
spellings NoSuffix = [] ∷ []
spellings U = unsigned_words
spellings L = long_words
spellings UL = in_either_order unsigned_words long_words
spellings LL = long_long_words
spellings ULL = in_either_order unsigned_words long_long_words

-- the suffix is spelled so
abbrev pub is_spelling : Suffix → List ℕ → Bool
is_spelling suffix text = list_any (bytes_eq text) (spellings suffix)

-- all suffixes
abbrev pub suffixes : List Suffix
suffixes = NoSuffix ∷ U ∷ L ∷ UL ∷ LL ∷ ULL ∷ []

-- the suffix that is spelled so
abbrev pub suffix_of : List ℕ → Option Suffix
suffix_of text = find (λ suffix. is_spelling suffix text) suffixes
