-- The least broken constraint stands before all others.
use Rattle.std.proofs.Common.{◌≡◌, ℕ, ◌<◌, ◌≤◌, ◌⊎◌, inr, Bool, true, false, ◌&&◌, ◌||◌, nat_lt, nat_eq, if◌then◌else◌, List, [], ◌∷◌, Contains, Option, Some, None, refl, arith}
use Rattle.std.specs.List.{AllByRecursion}
use Rattle.std.proofs.lemmas.List.Elements.{Contains-append_left, Contains-append_right}
use Rattle.std.proofs.lemmas.Bool.Decides.{nat_tests}
use Rattle.std.proofs.lemmas.Bool.{ltb-true, ltb-false}
use Rattle.vocabulary.specs.Errors.{error_number}
use Rattle.meaning_typing.specs.Failures.{Broken}
use Rattle.meaning_rules.specs.Rules.{goes_before, lesser, least_broken, lower, least_token}
use Rattle.meaning_rules.specs.laws.Least.{StandsBefore, IsLeastOf, LeastStandsFirst, IsLeastToken, LeastTokenIsFirst}

first-in : {X : Type 0} (x : X) (xs : List X) → Contains (x ∷ xs) x
first-in x xs = Contains-append_left (x ∷ []) xs x (0, omega arith, refl)

later-in : {X : Type 0} (x y : X) (ys : List X) → Contains ys x → Contains (y ∷ ys) x
later-in x y ys is = Contains-append_right (y ∷ []) ys x is

-- The order

-- by tokens and numbers alone
by-numbers : (t u m n : ℕ) → (nat_lt t u || (nat_eq t u && nat_lt m n)) ≡ true → (t < u) ⊎ ((t ≡ u) × (m ≤ n))
by-numbers t u m n is = grind (arith, nat_tests)

by-none : (t u m n : ℕ) → (nat_lt t u || (nat_eq t u && nat_lt m n)) ≡ false → (u < t) ⊎ ((u ≡ t) × (n ≤ m))
by-none t u m n is = grind (arith, nat_tests)

before-itself : (broken : Broken) → StandsBefore broken broken
before-itself broken = inr (refl, omega arith)

before-behind : (broken other third : Broken) → StandsBefore broken other → StandsBefore other third → StandsBefore broken third
before-behind broken other third one two = grind arith

before-all : (broken other : Broken) (others : List Broken) → StandsBefore broken other → AllByRecursion (StandsBefore other) others → AllByRecursion (StandsBefore broken) others
before-all broken other [] before all = all
before-all broken other (third ∷ others) before all = (before-behind broken other third before all.0, before-all broken other others before all.1)

-- Of one more

with-one : (broken : Broken) (others : List Broken) (least : Option Broken) → IsLeastOf others least → IsLeastOf (broken ∷ others) (lesser (Some broken) least)
with-one broken others None none = (first-in broken others, (before-itself broken, all-of others none))
  where
    all-of : (others : List Broken) → others ≡ [] → AllByRecursion (StandsBefore broken) others
    all-of [] none = record {}
    all-of (other ∷ others) none = absurd (cc none)
with-one broken others (Some least) is = by-test broken others least is (goes_before least broken) refl
  where
    by-test : (broken : Broken) (others : List Broken) (least : Broken) → IsLeastOf others (Some least) → (test : Bool) → goes_before least broken ≡ test
        → IsLeastOf (broken ∷ others) (if test then Some least else Some broken)
    by-test broken others least is true goes =
        (later-in least broken others is.0, (by-numbers least.token broken.token (error_number least.constraint) (error_number broken.constraint) goes, is.1))
    by-test broken others least is false stays =
        let before : StandsBefore broken least = by-none least.token broken.token (error_number least.constraint) (error_number broken.constraint) stays in
        (first-in broken others, (before-itself broken, before-all broken least others before is.1))

pub least_stands_first : LeastStandsFirst
least_stands_first [] = refl
least_stands_first (broken ∷ others) = with-one broken others (least_broken others) (least_stands_first others)

-- Tokens

lower-all : (token least : ℕ) (tokens : List ℕ) → token ≤ least → AllByRecursion (λ other. least ≤ other) tokens → AllByRecursion (λ other. token ≤ other) tokens
lower-all token least [] below all = all
lower-all token least (other ∷ tokens) below all = (omega (arith, below, all.0), lower-all token least tokens below all.1)

token-by :
    (token : ℕ) (tokens : List ℕ) (least : ℕ) → IsLeastToken tokens (Some least) → (test : Bool) → nat_lt least token ≡ test
    → IsLeastToken (token ∷ tokens) (Some (if test then least else token))
token-by token tokens least is true goes = (later-in least token tokens is.0, (omega (arith, ltb-true least token goes), is.1))
token-by token tokens least is false stays = (
  first-in token tokens,
  (omega arith, lower-all token least tokens (omega (arith, ltb-false least token stays)) is.1),
)

with-token : (token : ℕ) (tokens : List ℕ) (least : Option ℕ) → IsLeastToken tokens least → IsLeastToken (token ∷ tokens) (Some (lower token least))
with-token token [] None none = (first-in token [], (omega arith, record {}))
with-token token (other ∷ tokens) None none = absurd (cc none)
with-token token tokens (Some least) is = token-by token tokens least is (nat_lt least token) refl

pub least_token_is_first : LeastTokenIsFirst
least_token_is_first [] = refl
least_token_is_first (token ∷ tokens) = with-token token tokens (least_token tokens) (least_token_is_first tokens)
