-- The line of an error.
use Rattle.std.specs.Prelude.{ℕ, List, [], ◌∷◌, ◌++◌, codes}
use Rattle.vocabulary.specs.declared.error_kind.ErrorKind.{ErrorKind}
use Rattle.vocabulary.specs.declared.error_kind.ErrorKind.TheVariants as errors
use Rattle.vocabulary.specs.Errors.{error_line}
use Rattle.meaning_text.specs.Places.{At}
use Rattle.meaning_warnings.specs.Places.{line_front}

-- where it stands; a file that isn't there has no places
abbrev pub error_front : ErrorKind → List ℕ → At → List ℕ
error_front errors.NoSuchFile path at = codes "ksparse: "
error_front kind path at = line_front path at

-- how the word is told: the token that isn't expected stands between quotes, and where there is none the file ends
abbrev pub told_word : ErrorKind → List ℕ → List ℕ
told_word errors.SyntaxError [] = codes "end of file"
told_word errors.SyntaxError (b ∷ bs) = codes "'" ++ (b ∷ bs) ++ codes "'"
told_word kind word = word

-- `FILE:LINE:COLUMN: error[NUMBER]: TEXT` on a line, with the word that the text names, if it names one
abbrev pub error_lines : ErrorKind → List ℕ → At → (word : List ℕ) → List ℕ
error_lines kind path at word = error_front kind path at ++ error_line kind (told_word kind word) ++ codes "\n"
