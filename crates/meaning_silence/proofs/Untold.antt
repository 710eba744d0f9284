-- Where nothing is written of a listing, all its failures are of classes that are off.
use Rattle.std.proofs.Common.{◌≡◌, ℕ, Bool, true, false, List, [], ◌∷◌, ◌++◌, codes, Option, slice_get, if◌then◌else◌, inl, inr, refl, subst}
use Rattle.vocabulary.specs.Rules.{rule_class}
use Rattle.vocabulary.specs.declared.class.Class.{Class}
use Rattle.meaning_text.specs.Places.{At}
use Rattle.meaning_text.specs.Tokens.{Tok}
use Rattle.meaning_operands.specs.Failures.{Failure}
use Rattle.meaning_warnings.specs.Listing.{is_on, lines_on, listing_lines, undefined_lines, unit_lines}
use Rattle.meaning_warnings.specs.Places.{ShownUnit, begins_at, line_front, path_of, token_text}
use Rattle.meaning_warnings.specs.Warnings.{Warning, failure_lines, lines_below, told_lines, warning_line, warning_of}
use Rattle.meaning_first_rules.proofs.Elements.{Contains-nil, Contains-cons_cases}
use Rattle.meaning_silence.specs.Laws.{AreOff}

-- texts of which nothing is left are empty
empty-parts : (text more : List ℕ) → text ++ more ≡ [] → (text ≡ []) × (more ≡ [])
empty-parts [] more none = (refl, none)
empty-parts (byte ∷ text) more none = absurd (cc none)

-- a warning is no empty text
warning-told : (shown : ShownUnit) (at : At) (failure : Failure) (warning : Warning) → told_lines shown at failure warning ≡ [] → ⊥
warning-told shown at failure warning none =
    let path = path_of shown.files at.file in
    let line = empty-parts (warning_line path at warning.text) (lines_below shown path at failure warning.below) none in
    let end = empty-parts (line_front path at ++ codes "warning: " ++ warning.text) (codes "\n") line.0 in
    cc end.1

off-by : (on : Bool) (text : List ℕ) → (text ≡ [] → ⊥) → (if on then text else []) ≡ [] → on ≡ false
off-by true text told none = absurd (told none)
off-by false text told none = refl

failure-off : (shown : ShownUnit) (classes : List Class) (token : Option Tok) (failure : Failure) → lines_on shown classes token failure ≡ [] → is_on classes (rule_class failure.rule) ≡ false
failure-off shown classes token failure none =
    off-by (is_on classes (rule_class failure.rule)) (failure_lines shown token failure)
    (warning-told shown (begins_at token) failure (warning_of shown (token_text token) failure failure.rule)) none

listing-off : (shown : ShownUnit) (classes : List Class) (listing : List Failure) → listing_lines shown classes listing ≡ [] → AreOff classes listing
listing-off shown classes [] none failure among = absurd (Contains-nil failure among)
listing-off shown classes (first ∷ listing) none failure among =
    let lines = lines_on shown classes (slice_get shown.tokens first.token) first in
    let parts = empty-parts lines (listing_lines shown classes listing) none in
    elim (Contains-cons_cases first listing failure among) [
      | inl same ↦
          subst (λ (one : Failure). is_on classes (rule_class one.rule) ≡ false) same (failure-off shown classes (slice_get shown.tokens first.token) first parts.0)
      | inr behind ↦ listing-off shown classes listing parts.1 failure behind
    ]

pub unit-off : (shown : ShownUnit) (classes : List Class) (listing : List Failure) → unit_lines shown classes listing ≡ [] → AreOff classes listing
unit-off shown classes listing none =
    listing-off shown classes listing (empty-parts (undefined_lines shown classes shown.undefined shown.undefined_tokens) (listing_lines shown classes listing) none).1
