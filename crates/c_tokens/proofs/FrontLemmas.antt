-- What the first byte of a text says of the token with which it begins.
use Rattle.std.proofs.Common.{◌≡◌, ◌==◌, ℕ, ◌<◌, Bool, true, false, not, ◌||◌, List, [], ◌∷◌, length, get_or, Some, None, refl, sym, ap, ◌∙◌, ⊎_elim, arith}
use Rattle.std.proofs.lemmas.Bool.{and_parts, or_cases, or_from, or_parts, both_ways, cases_Bool, eqb-true}
use Rattle.meaning_text.specs.Bytes.{new_line, double_quote, single_quote, less, dot, upper_l, upper_u, lower_u, backslash, is_nondigit, is_word_byte, is_prefix_letter}
use Rattle.meaning_text.specs.Words.{begins_number}
use Rattle.vocabulary.specs.declared.token_kind.TokenKind.TheVariants.{Identifier}
use Rattle.meaning_text.specs.Fronts.{found_header_name, found_punctuator, found_stray, found_token, header_name_over, or_else, string_length, word_length}
use Rattle.meaning_text.proofs.FirstBytes.{opens_header_name, opens_number, header_name_length-none, string_length-none, character_length-none, begins_identifier-none, begins_number-opens}
use Rattle.c_tokens.specs.Front.{opens_mark}

-- a byte for which a test holds is none for which it doesn't
differs : (test : ℕ → Bool) (b other : ℕ) → test b ≡ true → test other ≡ false → (b == other) ≡ false
differs test b other is none =
    ⊎_elim (λ same. absurd (both_ways (test b) (ap test (eqb-true b other same) ∙ none) is)) (λ no. no) (cases_Bool (b == other))

no_number : (b : ℕ) (text : List ℕ) → opens_number b ≡ false → begins_number (b ∷ text) ≡ false
no_number b text none = ⊎_elim (λ is. absurd (both_ways (opens_number b) none (begins_number-opens b text is))) (λ no. no) (cases_Bool (begins_number (b ∷ text)))
