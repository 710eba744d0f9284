-- Words between two underscores before and two behind.
use Rattle.std.proofs.Common.{◌≡◌, ◌≢◌, ℕ, Bool, true, false, List, ◌++◌, codes, bytes_eq, ◌||◌, Option, Some, None, MatchOption, Bor, refl, sym, ap, ◌∙◌}
use Rattle.std.proofs.lemmas.List.{append_cancel_left, append_cancel_right}
use Rattle.std.proofs.lemmas.Slice.Eq.{bytes_eq-Decides}
use Rattle.meaning_attributes.specs.Words.{is_named}

-- tests of which each passes where the other does are the same
same_tests : (test other : Bool) → (test ≡ true → other ≡ true) → (other ≡ true → test ≡ true) → test ≡ other
same_tests true other there back = sym (there refl)
same_tests false true there back = back refl
same_tests false false there back = refl

failing : (test : Bool) → (test ≡ true → ⊥) → test ≡ false
failing true fails = absurd (fails refl)
failing false fails = refl

-- what stands between underscores is compared with the word
pub named-some : (text plain word : List ℕ) → text ≡ codes "__" ++ plain ++ codes "__" → bytes_eq text (codes "__" ++ word ++ codes "__") ≡ bytes_eq plain word
named-some text plain word is =
    ap (λ spelled. bytes_eq spelled (codes "__" ++ word ++ codes "__")) is
    ∙ same_tests _ _
    (λ same. (bytes_eq-Decides plain word).1 (append_cancel_right plain word (codes "__") (append_cancel_left (codes "__") (plain ++ codes "__") (word ++ codes "__") ((bytes_eq-Decides (codes "__" ++ plain ++ codes "__") (codes "__" ++ word ++ codes "__")).0 same))))
    (λ same. (bytes_eq-Decides (codes "__" ++ plain ++ codes "__") (codes "__" ++ word ++ codes "__")).1 (ap (λ middle. codes "__" ++ middle ++ codes "__") ((bytes_eq-Decides plain word).0 same)))

-- a text is told by what is left of it behind two underscores and before two
pub stripped : (text behind : List ℕ) (found : Option (Bor (List ℕ))) → text ≡ codes "__" ++ behind
    → MatchOption found ((front : List ℕ) → behind ≢ front ++ codes "__") (λ plain. behind ≡ plain.now ++ codes "__")
    → MatchOption found ((plain : List ℕ) → text ≢ codes "__" ++ plain ++ codes "__") (λ plain. text ≡ codes "__" ++ plain.now ++ codes "__")
stripped text behind None is none = λ plain same. none plain (append_cancel_left (codes "__") behind (plain ++ codes "__") (sym is ∙ same))
stripped text behind (Some plain) is some = is ∙ ap (λ rest. codes "__" ++ rest) some

-- a text that isn't the word is named so where what stands between underscores is
pub named-between : (text plain word : List ℕ) (found : Bool) → bytes_eq text word ≡ false → text ≡ codes "__" ++ plain ++ codes "__" → found ≡ bytes_eq plain word → found ≡ is_named word text
named-between text plain word found differs is same =
    same ∙ sym (named-some text plain word is) ∙ ap (λ bare. bare || bytes_eq text (codes "__" ++ word ++ codes "__")) (sym differs)
