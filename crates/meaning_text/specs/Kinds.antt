-- Which spellings are tokens, and of which kind (C11 6.4 p1).
use Rattle.std.specs.Prelude.{ℕ, Bool, false, not, ◌&&◌, ◌||◌, List, [], ◌∷◌, Option, Some, None, if◌then◌else◌}
use Rattle.vocabulary.specs.declared.token_kind.TokenKind.{TokenKind}
use Rattle.vocabulary.specs.declared.token_kind.TokenKind.TheVariants.{Identifier, Number, Character, String, HeaderName, Stray}
use Rattle.meaning_text.specs.Bytes.{is_white, is_quotation_mark}
use Rattle.meaning_text.specs.Words.{is_identifier, is_number}
use Rattle.meaning_text.specs.Quoted.{is_character, is_string, is_header_name}
use Rattle.meaning_text.specs.Punctuators.{punctuator_of}

-- A byte that is a token where no other token has it. A quotation mark alone is none, since its behaviour would be
-- undefined (6.4 p3).
abbrev pub is_stray_byte : ℕ → Bool
is_stray_byte b = not (is_white b || is_quotation_mark b)

-- the text is one such byte
abbrev pub is_stray : List ℕ → Bool
is_stray [] = false
is_stray (b ∷ []) = is_stray_byte b
is_stray (b ∷ c ∷ text) = false

-- the punctuator, where the text is one, and else a byte by itself
abbrev pub punctuator_or_stray : Option TokenKind → List ℕ → Option TokenKind
punctuator_or_stray (Some kind) text = Some kind
punctuator_or_stray None text = if is_stray text then Some Stray else None

-- The kind of a token that is spelled so, or none where no token is. Where header names are allowed, one goes before
-- a string literal of the same spelling; no other spelling is of two kinds.
unfoldable pub kind_in : (header_names_allowed : Bool) → List ℕ → Option TokenKind
kind_in allowed text =
    if allowed && is_header_name text then Some HeaderName
    else (if is_identifier text then Some Identifier
    else (if is_number text then Some Number
    else (if is_character text then Some Character
    else (if is_string text then Some String
    else punctuator_or_stray (punctuator_of text) text))))
