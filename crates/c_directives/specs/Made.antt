-- The words that directives put into macros and lines.
use Rattle.std.specs.Prelude.{◌≡◌, ℕ, List, codes}
use Rattle.meaning_preprocessing.specs.DefinitionLines.{rest_name}
use Rattle.c_tokens.specs.Seen.{IsKnown, text_of}
use Rattle.c_directives.specs.declared.made.MadeWords.{MadeWords}

-- their ids are those of a table
pub record AreMadeWords (names : List (List ℕ)) (made : MadeWords) : Type 0 where
  pub rest_known : IsKnown names made.rest
  pub rest : text_of names made.rest ≡ rest_name
  pub zero_known : IsKnown names made.zero
  pub zero : text_of names made.zero ≡ codes "0"
  pub one_known : IsKnown names made.one
  pub one : text_of names made.one ≡ codes "1"
