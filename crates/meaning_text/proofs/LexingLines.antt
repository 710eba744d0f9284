-- The last byte of a logical text is a new-line.
use Rattle.std.proofs.Common.{◌≡◌, ℕ, Bool, true, false, not, ◌==◌, ◌&&◌, List, [], ◌∷◌, ⊎_elim, refl, sym, ap, ◌∙◌, subst, arith}
use Rattle.std.proofs.lemmas.Bool.{cases_Bool}
use Rattle.std.proofs.lemmas.Bool.Decides.{nat_tests}
use Rattle.meaning_text.specs.Bytes.{backslash, new_line}
use Rattle.meaning_text.specs.Places.{At, behind_byte}
use Rattle.meaning_text.specs.Logical.{SourceByte, closing_line, logical_from}
use Rattle.meaning_text.specs.laws.Tokens.{EndsItsLine, LogicalTextsEndTheirLine}

-- what comes of a byte with others behind it
abbrev logical_front : Bool → Bool → At → ℕ → ℕ → List ℕ → List SourceByte
logical_front splice open_line at b c bytes =
    elim splice [
      | true ↦ logical_from open_line (behind_byte (behind_byte at b) c) bytes
      | false ↦ record { byte = b; at = at } ∷ logical_from (not (b == new_line)) (behind_byte at b) (c ∷ bytes)
    ]

-- an open line is closed, so something comes of it
open_line_goes_on : (at : At) (bytes : List ℕ) → logical_from true at bytes ≡ [] → ⊥
open_line_goes_on at [] is = cc
open_line_goes_on at (b ∷ []) is = cc
open_line_goes_on at (b ∷ c ∷ bytes) is =
    ⊎_elim
    (λ splice. open_line_goes_on (behind_byte (behind_byte at b) c) bytes (ap (λ x. logical_front x true at b c bytes) (sym splice) ∙ is))
    (λ other. let none = ap (λ x. logical_front x true at b c bytes) (sym other) ∙ is in cc)
    (cases_Bool (b == backslash && c == new_line))

-- a byte in front of bytes that end their line, and that are some if it is no new-line
EndsItsLine-more :
    (b : ℕ) (at : At) (text : List SourceByte) → (text ≡ [] → b ≡ new_line) → EndsItsLine text → EndsItsLine (record { byte = b; at = at } ∷ text)
EndsItsLine-more b at [] last ends = last refl
EndsItsLine-more b at (c ∷ text) last ends = ends

-- nothing comes behind a byte only where that is a new-line
last_is_new_line : (b : ℕ) (at : At) (bytes : List ℕ) (open_line : Bool) → not (b == new_line) ≡ open_line → logical_from open_line at bytes ≡ [] → b ≡ new_line
last_is_new_line b at bytes true is nothing = absurd (open_line_goes_on at bytes nothing)
last_is_new_line b at bytes false is nothing = grind (arith, nat_tests)

EndsItsLine-closing_line : (open_line : Bool) (at : At) → EndsItsLine (closing_line open_line at)
EndsItsLine-closing_line false at = tt
EndsItsLine-closing_line true at = refl

EndsItsLine-logical_from : (open_line : Bool) (at : At) (bytes : List ℕ) → EndsItsLine (logical_from open_line at bytes)
EndsItsLine-logical_from open_line at [] = EndsItsLine-closing_line open_line at
EndsItsLine-logical_from open_line at (b ∷ []) =
    EndsItsLine-more b at _ (last_is_new_line b (behind_byte at b) [] _ refl) (EndsItsLine-closing_line (not (b == new_line)) (behind_byte at b))
EndsItsLine-logical_from open_line at (b ∷ c ∷ bytes) =
    ⊎_elim
    (λ splice.
    subst (λ x. EndsItsLine (logical_front x open_line at b c bytes)) (sym splice)
    (EndsItsLine-logical_from open_line (behind_byte (behind_byte at b) c) bytes))
    (λ other.
    subst (λ x. EndsItsLine (logical_front x open_line at b c bytes)) (sym other)
    (EndsItsLine-more b at _ (last_is_new_line b (behind_byte at b) (c ∷ bytes) _ refl)
    (EndsItsLine-logical_from (not (b == new_line)) (behind_byte at b) (c ∷ bytes))))
    (cases_Bool (b == backslash && c == new_line))

pub logical_texts_end_their_line : LogicalTextsEndTheirLine
logical_texts_end_their_line file bytes = EndsItsLine-logical_from false _ bytes
