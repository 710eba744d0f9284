-- How the values of this crate are seen by the definitions of `meaning_text`.
use Rattle.std.specs.Prelude.{◌≡◌, ◌<◌, ℕ, List, [], ◌++◌, length, map, slice_get, unwrap_or, Option, Some, None}
use Rattle.meaning_text.specs.Places.{At}
use Rattle.meaning_text.specs.Tokens.{Tok}
use Rattle.meaning_text.specs.Tokens as tokens
use Rattle.sparse_model.specs.declared.ids.NameId.{NameId}
use Rattle.sparse_model.specs.declared.place.Place.{Place}
use Rattle.c_tokens.specs.declared.token.Token.{Token}
use Rattle.c_tokens.specs.declared.fault.LexFault.{LexFault}
use Rattle.c_tokens.specs.declared.fault.LexFault.TheVariants.{OpenComment, OpenLiteral, Memory}

-- the spelling of an id in a table of spellings, which is empty for an unknown id
abbrev pub text_of : List (List ℕ) → NameId → List ℕ
text_of names id = unwrap_or (slice_get names id.0) []

-- the spellings of two ids, the one directly behind the other
abbrev pub joined_text : List (List ℕ) → NameId → NameId → List ℕ
joined_text names left right = text_of names left ++ text_of names right

-- a place
abbrev pub at_of : Place → At
at_of place = record { file = place.file; line = place.line; column = place.column }

-- a token through a table
abbrev pub tok_of : List (List ℕ) → Token → Tok
tok_of names token =
    record {
      kind = token.kind;
      text = text_of names token.name;
      at = at_of token.place;
      space_before = token.space_before;
      line_start = token.line_start;
    }

-- tokens through a table
abbrev pub toks_of : List (List ℕ) → List Token → List Tok
toks_of names tokens = map (tok_of names) tokens

-- how tokens are spelled, one behind the other
abbrev pub spellings_of : List Tok → List (List ℕ)
spellings_of tokens = map (λ (token : Tok). token.text) tokens

-- what a fault tells of the text, which want of memory doesn't
abbrev pub fault_of : LexFault → Option tokens.LexFault
fault_of (OpenComment place) = Some (tokens.OpenComment (at_of place))
fault_of (OpenLiteral place) = Some (tokens.OpenLiteral (at_of place))
fault_of Memory = None

-- an id of the table
abbrev pub IsKnown : List (List ℕ) → NameId → Type 0
IsKnown names id = id.0 < length names

-- the table only grew: each old id keeps its spelling
abbrev pub Extends : List (List ℕ) → List (List ℕ) → Type 0
Extends old new = (more : List (List ℕ)) × (new ≡ old ++ more)
