-- What the lengths and the token that are found at the front of a text say of its fronts.
use Rattle.std.proofs.Common.{◌≡◌, ℕ, ◌<◌, ◌≤◌, Bool, true, false, List, ◌∷◌, length, take, drop, Option, Some, None, refl, subst, ⊎_elim, arith, take-append-drop, length-take-le}
use Rattle.std.proofs.lemmas.Bool.{not-false, or_cases, both_ways}
use Rattle.meaning_text.specs.Bytes.{is_white, is_quotation_mark}
use Rattle.vocabulary.specs.declared.token_kind.TokenKind.{TokenKind}
use Rattle.meaning_text.specs.Kinds.{kind_in}
use Rattle.meaning_text.specs.Fronts.{found_token}
use Rattle.meaning_text.proofs.Finding.{Reaches}
use Rattle.meaning_text.proofs.FoundKinds.{found_token-IsTokenFront}
use Rattle.meaning_text.proofs.LongestFronts.{found_token-stray, kind_in-Reaches}
-- no token is empty, and none begins with white space
pub use Rattle.meaning_text.proofs.KindsOfSpellings.{kind_in-nil, kind_in-white}
pub use Rattle.meaning_text.proofs.CommentLengths.{block_comment-found, block_comment-only, block_comment-none, line_comment-found, line_comment-only}

-- so many bytes at the front are a token of this kind, and no more bytes are a token
pub record IsLongestFront (allowed : Bool) (text : List ℕ) (kind : TokenKind) (count : ℕ) : Type 0 where
  pub some : 0 < count
  pub within : count ≤ length text
  pub is_kind : kind_in allowed (take count text) ≡ Some kind
  pub longest : (k : ℕ) → count < k → k ≤ length text → kind_in allowed (take k text) ≡ None

-- a spelling without a kind is one that none fits
no_kind : (found : Option TokenKind) → ((kind : TokenKind) → found ≡ Some kind → ⊥) → found ≡ None
no_kind None refuted = refl
no_kind (Some kind) refuted = absurd (refuted kind refl)

-- each front that is a token is reached by what is found
take-Reaches :
    (allowed : Bool) (text : List ℕ) (k : ℕ) (kind : TokenKind) → kind_in allowed (take k text) ≡ Some kind → Reaches (length (take k text)) (found_token allowed text)
take-Reaches allowed text k kind is =
    subst (λ (whole : List ℕ). Reaches (length (take k text)) (found_token allowed whole)) (take-append-drop k text)
    (kind_in-Reaches allowed (take k text) (drop k text) kind is)

pub found_token-IsLongestFront :
    (allowed : Bool) (text : List ℕ) (kind : TokenKind) (count : ℕ) → found_token allowed text ≡ Some (kind, count) → IsLongestFront allowed text kind count
found_token-IsLongestFront allowed text kind count found =
    let front = found_token-IsTokenFront allowed text (kind, count) found in
    record {
      some = front.some;
      within = front.within;
      is_kind = front.is_kind;
      longest = λ k longer within.
          no_kind (kind_in allowed (take k text)) (λ other is.
          let reached : length (take k text) ≤ count = subst (Reaches (length (take k text))) found (take-Reaches allowed text k other is) in
          omega (arith, length-take-le k text within));
    }

-- nothing is found at a quotation mark alone, and then no front is a token
pub found_token-none :
    (allowed : Bool) (b : ℕ) (text : List ℕ) → is_white b ≡ false → found_token allowed (b ∷ text) ≡ None →
    (is_quotation_mark b ≡ true) × ((k : ℕ) → kind_in allowed (take k (b ∷ text)) ≡ None)
found_token-none allowed b text black none = (
  ⊎_elim (λ white. absurd (both_ways (is_white b) black white)) (λ mark. mark)
      (or_cases (is_white b) (is_quotation_mark b) (not-false _ (found_token-stray allowed b text none))),
  λ k. no_kind (kind_in allowed (take k (b ∷ text))) (λ kind is.
      subst (Reaches (length (take k (b ∷ text)))) none (take-Reaches allowed (b ∷ text) k kind is)),
)
