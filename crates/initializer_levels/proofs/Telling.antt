-- Refusals that are told one by one, and all at once.
use Rattle.std.proofs.Common.{◌≡◌, ◌⊎◌, ℕ, ◌<◌, ◌≤◌, nat_lt, nat_eq, Bool, true, false, ◌||◌, ◌&&◌, List, [], ◌∷◌, ◌++◌, Option, Some, None, refl, sym, ap, subst, inl, inr, ⊎_elim, ◌∙◌, arith, if◌then◌else◌}
use Rattle.std.proofs.lemmas.Bool.Decides.{nat_tests}
use Rattle.vocabulary.specs.Errors.{error_number}
use Rattle.meaning_initializers.specs.Plans.{Refusal}
use Rattle.meaning_initializers.specs.Reading.{is_told_before, lesser_refusal, refusal_told}
use Rattle.initializer_levels.specs.Turns.{told_with, told_behind}

pub told-append : (told : Option Refusal) (refusals more : List Refusal) → told_behind told (refusals ++ more) ≡ told_behind (told_behind told refusals) more
told-append told [] more = refl
told-append told (refusal ∷ refusals) more = told-append (told_with told refusal) refusals more

-- The order of places: tokens, and numbers at one token

abbrev is_earlier : (token number other count : ℕ) → Bool
is_earlier token number other count = nat_lt token other || (nat_eq token other && nat_lt number count)

abbrev IsEarlier : (token number other count : ℕ) → Type 0
IsEarlier token number other count = (token < other) ⊎ ((token ≡ other) × (number < count))

test_is : (b : Bool) (m n : ℕ) → nat_lt m n ≡ b → (b ≡ true → m < n) × (b ≡ false → n ≤ m)
test_is b m n is = (λ yes. grind (arith, nat_tests), λ no. grind (arith, nat_tests))

same_is : (b : Bool) (m n : ℕ) → nat_eq m n ≡ b → (b ≡ true → m ≡ n) × (b ≡ false → m ≡ n → ⊥)
same_is b m n is = (λ yes. grind (arith, nat_tests), λ no same. grind (arith, nat_tests))

abbrev IsLater : (token number other count : ℕ) → Type 0
IsLater token number other count = (other < token) ⊎ ((other ≡ token) × (count ≤ number))

-- what the test says
abbrev Says : Bool → (token number other count : ℕ) → Type 0
Says true token number other count = IsEarlier token number other count
Says false token number other count = IsLater token number other count

says : (token number other count : ℕ) (first same second : Bool) → nat_lt token other ≡ first → nat_eq token other ≡ same → nat_lt number count ≡ second
    → Says (first || (same && second)) token number other count
says token number other count true same second one two three = inl ((test_is true token other one).0 refl)
says token number other count false true true one two three = inr ((same_is true token other two).0 refl, (test_is true number count three).0 refl)
says token number other count false true false one two three = inr (sym ((same_is true token other two).0 refl), (test_is false number count three).1 refl)
says token number other count false false second one two three =
    let later = (test_is false token other one).1 refl in
    let differ = (same_is false token other two).1 refl in
    inl (omega (arith, later, differ))

said : (token number other count : ℕ) → Says (is_earlier token number other count) token number other count
said token number other count = says token number other count (nat_lt token other) (nat_eq token other) (nat_lt number count) refl refl refl

not_both : (token number other count : ℕ) → IsEarlier token number other count → IsLater token number other count → ⊥
not_both token number other count earlier later =
    ⊎_elim
    (λ (before : token < other). ⊎_elim (λ (behind : other < token). omega (arith, before, behind)) (λ (at : (other ≡ token) × (count ≤ number)). omega (arith, before, at.0)) later)
    (λ (same : (token ≡ other) × (number < count)).
    ⊎_elim (λ (behind : other < token). omega (arith, same.0, behind)) (λ (at : (other ≡ token) × (count ≤ number)). omega (arith, same.1, at.1)) later)
    earlier

is_so : (is : Bool) (token number other count : ℕ) → Says is token number other count → IsEarlier token number other count → is ≡ true
is_so true token number other count is_said before = refl
is_so false token number other count is_said before = absurd (not_both token number other count before is_said)

isnt : (is : Bool) (token number other count : ℕ) → Says is token number other count → IsLater token number other count → is ≡ false
isnt true token number other count is_said behind = absurd (not_both token number other count is_said behind)
isnt false token number other count is_said behind = refl

earlier-trans : (a b c i j k : ℕ) → is_earlier b j a i ≡ true → is_earlier c k b j ≡ true → is_earlier c k a i ≡ true
earlier-trans a b c i j k first second =
    let one : IsEarlier b j a i = subst (λ (is : Bool). Says is b j a i) first (said b j a i) in
    let two : IsEarlier c k b j = subst (λ (is : Bool). Says is c k b j) second (said c k b j) in
    is_so (is_earlier c k a i) c k a i (said c k a i)
    (⊎_elim
    (λ (before : b < a). inl (⊎_elim (λ (low : c < b). omega (arith, low, before)) (λ (at : (c ≡ b) × (k < j)). omega (arith, at.0, before)) two))
    (λ (at : (b ≡ a) × (j < i)).
    ⊎_elim (λ (low : c < b). inl (omega (arith, low, at.0))) (λ (same : (c ≡ b) × (k < j)). inr (omega (arith, same.0, at.0), omega (arith, same.1, at.1))) two)
    one)

later-trans : (a b c i j k : ℕ) → is_earlier b j a i ≡ false → is_earlier c k b j ≡ false → is_earlier c k a i ≡ false
later-trans a b c i j k first second =
    let one : IsLater b j a i = subst (λ (is : Bool). Says is b j a i) first (said b j a i) in
    let two : IsLater c k b j = subst (λ (is : Bool). Says is c k b j) second (said c k b j) in
    isnt (is_earlier c k a i) c k a i (said c k a i)
    (⊎_elim
    (λ (behind : a < b). inl (⊎_elim (λ (far : b < c). omega (arith, far, behind)) (λ (at : (b ≡ c) × (j ≤ k)). omega (arith, at.0, behind)) two))
    (λ (at : (a ≡ b) × (i ≤ j)).
    ⊎_elim (λ (far : b < c). inl (omega (arith, far, at.0))) (λ (same : (b ≡ c) × (j ≤ k)). inr (omega (arith, same.0, at.0), omega (arith, same.1, at.1))) two)
    one)

-- Of three refusals one is told, in whatever order they are asked

abbrev one_if : Bool → Refusal → Refusal → Refusal
one_if is refusal other = if is then other else refusal

earlier : (a b c : Refusal) (ba cb : Bool) → is_told_before b a ≡ ba → is_told_before c b ≡ cb
    → one_if (is_told_before (one_if cb b c) a) a (one_if cb b c) ≡ one_if (is_told_before c (one_if ba a b)) (one_if ba a b) c
earlier a b c true true one two =
    let three : is_told_before c a ≡ true =
    earlier-trans a.token b.token c.token (error_number a.constraint) (error_number b.constraint) (error_number c.constraint) one two in
    ap (λ (is : Bool). one_if is a c) three ∙ ap (λ (is : Bool). one_if is b c) (sym two)
earlier a b c true false one two = ap (λ (is : Bool). one_if is a b) one ∙ ap (λ (is : Bool). one_if is b c) (sym two)
earlier a b c false true one two = refl
earlier a b c false false one two =
    let three : is_told_before c a ≡ false =
    later-trans a.token b.token c.token (error_number a.constraint) (error_number b.constraint) (error_number c.constraint) one two in
    ap (λ (is : Bool). one_if is a b) one ∙ ap (λ (is : Bool). one_if is a c) (sym three)

abbrev first_of : Option Refusal → Option Refusal → Option Refusal
first_of None other = other
first_of (Some refusal) other = Some (lesser_refusal refusal other)

first_of-assoc : (told : Option Refusal) (refusal : Refusal) (others : Option Refusal)
    → first_of (told_with told refusal) others ≡ first_of told (Some (lesser_refusal refusal others))
first_of-assoc None refusal others = refl
first_of-assoc (Some told) refusal None = refl
first_of-assoc (Some told) refusal (Some other) =
    ap Some (sym (earlier told refusal other (is_told_before refusal told) (is_told_before other refusal) refl refl))

told_all : (told : Option Refusal) (refusals : List Refusal) → told_behind told refusals ≡ first_of told (refusal_told refusals)
told_all None [] = refl
told_all (Some told) [] = refl
told_all told (refusal ∷ refusals) = told_all (told_with told refusal) refusals ∙ first_of-assoc told refusal (refusal_told refusals)

pub told-all : (refusals : List Refusal) → told_behind None refusals ≡ refusal_told refusals
told-all refusals = told_all None refusals
