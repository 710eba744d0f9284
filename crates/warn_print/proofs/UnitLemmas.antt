-- The lines of the failures that preprocessing found, one after the other.
use Rattle.std.proofs.Common.{◌≡◌, List, [], ◌∷◌, ◌++◌, Option, option_map, refl, sym, ap, ◌∙◌, append_assoc, ℕ}
use Rattle.vocabulary.specs.declared.class.Class.{Class}
use Rattle.sparse_model.specs.declared.failure.Failure.{Failure}
use Rattle.meaning_warnings.specs.Listing.{lines_on, undefined_lines}
use Rattle.c_tokens.specs.declared.token.Token.{Token}
use Rattle.c_tokens.specs.Seen.{tok_of, toks_of}
use Rattle.c_types.specs.Table.{TypeTable}
use Rattle.failure_listing.specs.Ranks.{KeepsRank}
use Rattle.warn_print.specs.declared.show.Show.{Show}
use Rattle.warn_print.specs.Seen.{failure_seen, failures_seen, unit_shown}
use Rattle.warn_print.specs.Undefined.{behind_first, front_token}

module _ (show : Show) (classes : List Class) where
  abbrev lines : List Failure → List Token → List ℕ
  lines failures tokens = undefined_lines (unit_shown show) classes (failures_seen show failures) (toks_of show.names.now tokens)

  abbrev lines_at : Option Token → Failure → List ℕ
  lines_at token failure =
      lines_on (unit_shown show) classes (option_map (tok_of show.names.now) token) (failure_seen show.names.now show.types.now failure)

  step : (failure : Failure) (others : List Failure) (tokens : List Token)
      → lines (failure ∷ others) tokens ≡ lines_at (front_token tokens) failure ++ lines others (behind_first tokens)
  step failure others [] = refl
  step failure others (token ∷ tokens) = refl

  pub undefined-next :
      (left others : List Failure) (failure : Failure) (tokens behind : List Token) (token : Option Token) (text new all : List ℕ) → left ≡ failure ∷ others
      → token ≡ front_token tokens → behind ≡ behind_first tokens → new ≡ text ++ lines_at token failure → text ++ lines left tokens ≡ all
      → new ++ lines others behind ≡ all
  undefined-next left others failure tokens behind token text new all is first next grown so =
      ap (λ (t : List ℕ). t ++ lines others behind) (grown ∙ ap (λ (t : Option Token). text ++ lines_at t failure) first)
      ∙ ap (λ (ts : List Token). text ++ lines_at (front_token tokens) failure ++ lines others ts) next
      ∙ append_assoc text (lines_at (front_token tokens) failure) (lines others (behind_first tokens))
      ∙ ap (λ (t : List ℕ). text ++ t) (sym (step failure others tokens) ∙ ap (λ (fs : List Failure). lines fs tokens) (sym is))
      ∙ so

-- a failure is shown with what orders it
pub shown-rank : (names : List (List ℕ)) (types : TypeTable) → KeepsRank (failure_seen names types)
shown-rank names types = record { token = λ f. refl; rule = λ f. refl; part = λ f. refl }
