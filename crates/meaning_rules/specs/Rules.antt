-- What is told of a unit, of all that fails in it and all that it breaks.
use Rattle.std.specs.Prelude.{ℕ, zero, suc, Bool, ◌||◌, ◌&&◌, nat_lt, nat_le, nat_eq, List, [], ◌∷◌, ◌++◌, Option, Some, None, if◌then◌else◌}
use Rattle.vocabulary.specs.Errors.{error_number}
use Rattle.meaning_typing.specs.Failures.{Failure, Broken}

-- What nodes have, one after the other

module _ {A : Type 0} (of_node : ℕ → List A) where
  -- what the first so many nodes have
  abbrev pub gathered : ℕ → List A
  gathered zero = []
  gathered (suc count) = gathered count ++ of_node count

-- The least broken constraint

-- at an earlier token, or there with a lower number
abbrev pub goes_before : Broken → Broken → Bool
goes_before broken other =
    nat_lt broken.token other.token
    || (nat_eq broken.token other.token && nat_lt (error_number broken.constraint) (error_number other.constraint))

-- of two, where the other one goes only if it is before
abbrev pub lesser : Option Broken → Option Broken → Option Broken
lesser None other = other
lesser (Some broken) None = Some broken
lesser (Some broken) (Some other) = if goes_before other broken then Some other else Some broken

-- the least of them; of two at one token with one number the first
abbrev pub least_broken : List Broken → Option Broken
least_broken [] = None
least_broken (broken ∷ others) = lesser (Some broken) (least_broken others)

abbrev pub lower : ℕ → Option ℕ → ℕ
lower token None = token
lower token (Some other) = if nat_lt other token then other else token

-- the least token
abbrev pub least_token : List ℕ → Option ℕ
least_token [] = None
least_token (token ∷ tokens) = Some (lower token (least_token tokens))

-- What is told

pub data Judgement : Type 0 where
  -- nothing is broken, and these rules fail
  Holds : (listing : List Failure) → Judgement
  BreaksConstraint : Broken → Judgement
  -- an object is too large, and no constraint is broken at a token up to there
  PassesObjectSize : Judgement

-- the first of what a unit breaks and passes: a limit stands behind the constraints at its token
abbrev pub first_refusal : Option Broken → (limit : Option ℕ) → Option Judgement
first_refusal None None = None
first_refusal (Some broken) None = Some (BreaksConstraint broken)
first_refusal None (Some token) = Some PassesObjectSize
first_refusal (Some broken) (Some token) = if nat_le broken.token token then Some (BreaksConstraint broken) else Some PassesObjectSize
