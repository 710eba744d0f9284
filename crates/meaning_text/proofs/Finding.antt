-- What is found first, and how long it is.
use Rattle.std.proofs.Common.{◌≡◌, ℕ, ◌≤◌, Bool, true, false, List, length, Option, Some, None, refl, sym, subst, ◌⊎◌, inl, inr, arith}
use Rattle.std.specs.Bool.{⊤}
use Rattle.std.proofs.lemmas.Option.{none-some, same_Some}
use Rattle.vocabulary.specs.declared.token_kind.TokenKind.{TokenKind}
use Rattle.meaning_text.specs.Fronts.{Found, or_else, found_where, found_of, found_spelling}

-- what is found is found first, or where the first finds nothing
pub or_else-Some : (first other : Found) (found : TokenKind × ℕ) → or_else first other ≡ Some found → (first ≡ Some found) ⊎ ((first ≡ None) × (other ≡ Some found))
or_else-Some None other found e = inr (refl, e)
or_else-Some (Some one) other found e = inl e

-- nothing is found where both find nothing
pub or_else-None : (first other : Found) → or_else first other ≡ None → (first ≡ None) × (other ≡ None)
or_else-None None other e = (refl, e)
or_else-None (Some found) other e = absurd (none-some found (sym e))

-- what is found where a test holds
pub found_where-Some : (holds : Bool) (kind : TokenKind) (count : ℕ) (found : TokenKind × ℕ) → found_where holds kind count ≡ Some found → (holds ≡ true) × (found ≡ (kind, count))
found_where-Some true kind count found e = (refl, sym (same_Some _ _ e))
found_where-Some false kind count found e = absurd (none-some found e)

-- nothing is found where it does not hold
pub found_where-None : (holds : Bool) (kind : TokenKind) (count : ℕ) → found_where holds kind count ≡ None → holds ≡ false
found_where-None true kind count e = absurd (none-some (kind, count) (sym e))
found_where-None false kind count e = refl

-- what is found has the length that was found
pub found_of-Some :
    (kind : TokenKind) (length : Option ℕ) (found : TokenKind × ℕ) → found_of kind length ≡ Some found → (count : ℕ) × (length ≡ Some count) × (found ≡ (kind, count))
found_of-Some kind None found e = absurd (none-some found e)
found_of-Some kind (Some count) found e = (count, refl, sym (same_Some _ _ e))

-- nothing is found where no length is
pub found_of-None : (kind : TokenKind) (length : Option ℕ) → found_of kind length ≡ None → length ≡ None
found_of-None kind None e = refl
found_of-None kind (Some count) e = absurd (none-some (kind, count) (sym e))

-- what is found of a spelling is the punctuator that it stands for
pub found_spelling-Some :
    (known : Option TokenKind) (spelling : List ℕ) (found : TokenKind × ℕ) → found_spelling known spelling ≡ Some found
    → (punctuator : TokenKind) × (known ≡ Some punctuator) × (found ≡ (punctuator, length spelling))
found_spelling-Some None spelling found e = absurd (none-some found e)
found_spelling-Some (Some punctuator) spelling found e = (punctuator, refl, sym (same_Some _ _ e))

-- nothing is found of a spelling that is none
pub found_spelling-None : (known : Option TokenKind) (spelling : List ℕ) → found_spelling known spelling ≡ None → known ≡ None
found_spelling-None None spelling e = refl
found_spelling-None (Some punctuator) spelling e = absurd (none-some (punctuator, length spelling) (sym e))

-- Lengths

-- what is found, if anything, has so many bytes at least
abbrev pub IsNoShorter : ℕ → Found → Type 0
IsNoShorter count None = ⊤
IsNoShorter count (Some found) = count ≤ found.1

-- something is found, and has so many bytes at least
abbrev pub Reaches : ℕ → Found → Type 0
Reaches count None = ⊥
Reaches count (Some found) = count ≤ found.1

-- what is found second reaches, if the first is no shorter
pub or_else-Reaches : (count : ℕ) (first other : Found) → IsNoShorter count first → Reaches count other → Reaches count (or_else first other)
or_else-Reaches count None other one two = two
or_else-Reaches count (Some found) other one two = one

-- what is found first is what is found
pub or_else-Reaches_first : (count : ℕ) (first other : Found) → Reaches count first → Reaches count (or_else first other)
or_else-Reaches_first count None other one = absurd one
or_else-Reaches_first count (Some found) other one = one

-- what is found where a test holds is no shorter
pub found_where-IsNoShorter : (count : ℕ) (holds : Bool) (kind : TokenKind) (length : ℕ) → (holds ≡ true → count ≤ length) → IsNoShorter count (found_where holds kind length)
found_where-IsNoShorter count true kind length long = long refl
found_where-IsNoShorter count false kind length long = tt

-- it reaches so far if the test holds
pub found_where-Reaches : (count : ℕ) (holds : Bool) (kind : TokenKind) (length : ℕ) → holds ≡ true → count ≤ length → Reaches count (found_where holds kind length)
found_where-Reaches count holds kind length is long = subst (λ (b : Bool). Reaches count (found_where b kind length)) (sym is) long

-- what is found is no shorter, if its length is not
pub found_of-IsNoShorter : (count : ℕ) (kind : TokenKind) (found : Option ℕ) → ((length : ℕ) → found ≡ Some length → count ≤ length) → IsNoShorter count (found_of kind found)
found_of-IsNoShorter count kind None long = tt
found_of-IsNoShorter count kind (Some length) long = long length refl

-- a length that is found is reached
pub found_of-Reaches : (count : ℕ) (kind : TokenKind) (found : Option ℕ) → found ≡ Some count → Reaches count (found_of kind found)
found_of-Reaches count kind found is = subst (λ (o : Option ℕ). Reaches count (found_of kind o)) (sym is) (omega arith)

-- a punctuator is as long as its spelling
pub found_spelling-IsNoShorter : (count : ℕ) (known : Option TokenKind) (spelling : List ℕ) → count ≤ length spelling → IsNoShorter count (found_spelling known spelling)
found_spelling-IsNoShorter count None spelling long = tt
found_spelling-IsNoShorter count (Some punctuator) spelling long = long

-- and reaches so far if it is one
pub found_spelling-Reaches :
    (count : ℕ) (known : Option TokenKind) (spelling : List ℕ) (punctuator : TokenKind) → known ≡ Some punctuator → count ≤ length spelling
    → Reaches count (found_spelling known spelling)
found_spelling-Reaches count known spelling punctuator is long = subst (λ (o : Option TokenKind). Reaches count (found_spelling o spelling)) (sym is) long
