-- A unit under other names, and a table of names that begins with what the tokens of a unit spell.
use Rattle.std.specs.Prelude.{◌≡◌, ℕ, List, length}
use Rattle.c_tokens.specs.Seen.{Extends, spellings_of, toks_of}
use Rattle.c_tokens.specs.Spellings.{with_spellings}
use Rattle.meaning_text.specs.Tokens.{Tok}
use Rattle.meaning_unit_nodes.specs.Numbered.{spellings_told}
use Rattle.c_preproc.specs.Units.{IsKnownUnit, failures_from}
use Rattle.c_preproc.specs.declared.unit.UnitTokens.{UnitTokens}
use Rattle.unit_names.specs.Numbering.{spelled}

-- under another table the unit has the same tokens, the same identifiers left in `#if`, and the same files
pub record IsSameUnit (names others : List (List ℕ)) (unit other : UnitTokens) : Type 0 where
  pub known : IsKnownUnit others other
  pub tokens : toks_of others other.tokens ≡ toks_of names unit.tokens
  pub undef_tokens : toks_of others other.undef_tokens ≡ toks_of names unit.undef_tokens
  -- and the failures of these
  pub undefs : other.undefs ≡ failures_from 0 other.undef_tokens
  pub files : spelled others other.files ≡ spelled names unit.files

-- the table has what the tokens spell first, which are so many
pub record BeginsWithTokens (names : List (List ℕ)) (told : ℕ) (toks : List Tok) : Type 0 where
  pub extends : Extends (spellings_told toks) names
  pub count : told ≡ length (spellings_told toks)

-- the table has what the tokens spell first, then the spellings of the identifiers left in `#if`, and then the paths, each once
abbrev pub HasSpellings : (names : List (List ℕ)) → (toks undefined : List Tok) → (paths : List (List ℕ)) → Type 0
HasSpellings names toks undefined paths = names ≡ with_spellings (with_spellings (spellings_told toks) (spellings_of undefined)) paths
