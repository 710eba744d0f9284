-- What holds of the least of the constraints that are broken, and of the least of the tokens at which a limit is passed.
use Rattle.std.specs.Prelude.{◌≡◌, ◌⊎◌, ℕ, ◌<◌, ◌≤◌, List, [], Contains, Option, Some, None}
use Rattle.std.specs.List.{AllByRecursion}
use Rattle.vocabulary.specs.Errors.{error_number}
use Rattle.meaning_typing.specs.Failures.{Broken}
use Rattle.meaning_rules.specs.Rules.{least_broken, least_token}

-- at an earlier token, or at the same one with a number that isn't greater
abbrev pub StandsBefore : Broken → Broken → Type 0
StandsBefore broken other =
    (broken.token < other.token)
    ⊎ ((broken.token ≡ other.token) × (error_number broken.constraint ≤ error_number other.constraint))

-- one of them that stands before all, or none where there are none
abbrev pub IsLeastOf : List Broken → Option Broken → Type 0
IsLeastOf broken None = broken ≡ []
IsLeastOf broken (Some least) = Contains broken least × AllByRecursion (StandsBefore least) broken

abbrev pub LeastStandsFirst : Type 0
LeastStandsFirst = (broken : List Broken) → IsLeastOf broken (least_broken broken)

-- one that isn't behind any, or none where there are none
abbrev pub IsLeastToken : List ℕ → Option ℕ → Type 0
IsLeastToken tokens None = tokens ≡ []
IsLeastToken tokens (Some least) = Contains tokens least × AllByRecursion (λ token. least ≤ token) tokens

abbrev pub LeastTokenIsFirst : Type 0
LeastTokenIsFirst = (tokens : List ℕ) → IsLeastToken tokens (least_token tokens)
