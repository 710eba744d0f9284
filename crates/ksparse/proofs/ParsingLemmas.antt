-- Where an error of parsing is told, and with which word.
use Rattle.std.proofs.Common.{◌≡◌, ℕ, ◌-◌, List, Option, length, sym, ap, ◌∙◌}
use Rattle.std.specs.Prelude.{min, option_map, slice_get}
use Rattle.std.proofs.lemmas.Option.{slice_get-map}
use Rattle.vocabulary.specs.declared.error_kind.ErrorKind.{ErrorKind}
use Rattle.sparse_model.specs.declared.place.Place.{Place}
use Rattle.c_tokens.specs.Seen.{at_of, tok_of, toks_of}
use Rattle.c_tokens.specs.declared.token.Token.{Token}
use Rattle.meaning_text.specs.Places.{At}
use Rattle.meaning_text.specs.Tokens.{Tok}
use Rattle.meaning_derivation.specs.State.{IsError}
use Rattle.meaning_warnings.specs.Places.{begins_at, path_of}
use Rattle.meaning_answer.specs.Lines.{error_reply, refusal_place, refusal_reply, named_word}
use Rattle.ksparse.proofs.TokenLemmas.{length-toks_of}

module _ (names : List (List ℕ)) (tokens : List Token) where
  -- the token with an index, as it is seen
  seen_at : (index : ℕ) (found : Option Token) → found ≡ slice_get tokens index → option_map (tok_of names) found ≡ slice_get (toks_of names tokens) index
  seen_at index found is = ap (option_map (tok_of names)) is ∙ sym (slice_get-map (tok_of names) tokens index)

  -- the one at which a refusal is told stands there
  pub placed : (stands : ℕ) (found : Option Token) → found ≡ slice_get tokens (min stands (length tokens - 1))
      → begins_at (option_map (tok_of names) found) ≡ refusal_place (toks_of names tokens) stands
  placed stands found is =
      ap begins_at (seen_at (min stands (length tokens - 1)) found is)
      ∙ ap (λ (count : ℕ). begins_at (slice_get (toks_of names tokens) (min stands (count - 1)))) (sym (length-toks_of names tokens))

-- so the line is that of the refusal
pub error_told : (files : List (List ℕ)) (tokens : List Tok) (kind : ErrorKind) (stands : ℕ) (path : List ℕ) (place : Place) (word : List ℕ)
    → path ≡ path_of files place.file → at_of place ≡ refusal_place tokens stands → word ≡ named_word kind tokens stands
    → error_reply kind path (at_of place) word ≡ refusal_reply files tokens (IsError kind) stands
error_told files tokens kind stands path place word path_is place_is word_is =
    ap (λ (p : List ℕ). error_reply kind p (at_of place) word) path_is
    ∙ ap (λ (at : At). error_reply kind (path_of files at.file) at word) place_is
    ∙ ap (λ (w : List ℕ). error_reply kind (path_of files (refusal_place tokens stands).file) (refusal_place tokens stands) w) word_is
