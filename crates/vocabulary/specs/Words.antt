-- Tables of words, and the words of each in a line, as one reads them.
use Rattle.std.specs.Prelude.{◌≡◌, ℕ, List, ◌++◌, codes}
use Rattle.std.specs.List.{flat_map}
use Rattle.vocabulary.specs.declared.words.TheConstants.{KEYWORDS, RESERVED_WORDS, PREDEFINED_MACROS}

-- words, each by its spelling
abbrev pub WordTable : Type 0
WordTable = List (record { now : List ℕ })

-- each word with a space behind it
abbrev pub in_a_line : WordTable → List ℕ
in_a_line words = flat_map (λ word. word.now ++ codes " ") words

-- what each table holds, word by word
pub record WordExamples : Type 0 where
  -- C11 6.4.1
  pub keywords :
      in_a_line KEYWORDS
      ≡ codes "auto break case char const continue default do double else enum extern float for goto if inline int long "
      ++ codes "register restrict return short signed sizeof static struct switch typedef union unsigned void volatile while "
      ++ codes "_Alignas _Alignof _Atomic _Bool _Complex _Generic _Imaginary _Noreturn _Static_assert _Thread_local "
  pub reserved_words : in_a_line RESERVED_WORDS ≡ codes "asm typeof _Pragma "
  pub predefined_macros :
      in_a_line PREDEFINED_MACROS ≡ codes "__CHECKER__ __STDC__ __STDC_VERSION__ __LP64__ __FILE__ __LINE__ __COUNTER__ "
