-- Passed steps that break a rule, and the least of them.
use Rattle.std.specs.Prelude.{◌≡◌, ◌≢◌, ◌⊎◌, ℕ, ◌≤◌, ℤ, pos, ◌+ℤ◌, ◌-ℤ◌, ◌≤ℤ◌, Bool, false, ◌&&◌, ◌||◌, nat_eq, nat_lt, int_lt, min, Option, Some, None, List, if◌then◌else◌}
use Rattle.std.specs.Ordering.{int_eq}
use Rattle.meaning_paths.specs.Steps.{Step, Point, Add, Call, End, token_of}
use Rattle.meaning_paths.specs.ContextRules as rules
use Rattle.meaning_paths.specs.ContextRules.{IsTooLow}
use Rattle.step_counts.specs.declared.counts.Counts.{Counts}
use Rattle.step_counts.specs.declared.counts.Counts.TheVariants.{Never, One, Several}
use Rattle.context_walk.specs.declared.scan.Exit.{Exit}
use Rattle.context_walk.specs.Passed.{Passed, Has}

-- What steps say

-- a point with several counts
abbrev pub SeveralIn : List Passed → ℕ → Type 0
SeveralIn passed token = (moment : Bool) × Has passed (Point token moment) Several

-- a point with different counts at two places
abbrev pub ConflictIn : List Passed → ℕ → Type 0
ConflictIn passed token = (moment : Bool) × (one other : ℤ) × Has passed (Point token moment) (One one) × Has passed (Point token moment) (One other) × (one ≢ other)

abbrev pub DifferIn : List Passed → ℕ → Type 0
DifferIn passed token = SeveralIn passed token ⊎ ConflictIn passed token

-- a step to which paths come too low
abbrev pub LowIn : (key : ℕ) → List Passed → ℕ → Type 0
LowIn key passed token = (step : Step) × (comes : ℤ) × Has passed step (One comes) × (token_of step ≡ token) × IsTooLow key step comes

-- a leaving with another count
abbrev pub WrongIn : (leaves : ℤ) → List Passed → ℕ → ℤ → Type 0
WrongIn leaves passed token found = Has passed (End token) (One found) × (found ≢ leaves)

-- Leavings

-- a token, and the count with which a path leaves there
pub record Leaving : Type 0 where
  pub token : ℕ
  pub found : ℤ

abbrev pub seen_end : Option Exit → Option Leaving
seen_end None = None
seen_end (Some exit) = Some (record { token = exit.token; found = exit.found })

-- by tokens, and then by counts
abbrev pub IsNoLater : Leaving → Leaving → Type 0
IsNoLater exit other = (exit.token ≤ other.token) × (exit.token ≡ other.token → exit.found ≤ℤ other.found)

-- the least leaving of which it holds, or none
abbrev pub IsLeastExit : (ℕ → ℤ → Type 0) → Option Leaving → Type 0
IsLeastExit P None = (token : ℕ) (found : ℤ) → P token found → ⊥
IsLeastExit P (Some least) = P least.token least.found × ((token : ℕ) (found : ℤ) → P token found → IsNoLater least (record { token = token; found = found }))

-- What one step says

abbrev pub several_of : Step → Counts → Option ℕ
several_of (Point token moment) Several = Some token
several_of (Point token moment) Never = None
several_of (Point token moment) (One count) = None
several_of (Add token key by) comes = None
several_of (Call token key enters leaves) comes = None
several_of (End token) comes = None

abbrev pub several_at : Passed → Option ℕ
several_at entry = several_of entry.step entry.comes

abbrev pub is_too_low : (key : ℕ) → Step → ℤ → Bool
is_too_low key (Point token moment) comes = false
is_too_low key (Add token other by) comes = nat_eq other key && int_lt (comes +ℤ by) (pos 0)
is_too_low key (Call token other enters leaves) comes = nat_eq other key && (int_lt comes enters || int_lt (comes +ℤ (leaves -ℤ enters)) (pos 0))
is_too_low key (End token) comes = false

abbrev pub too_low_of : (key : ℕ) → Step → Counts → Option ℕ
too_low_of key step Never = None
too_low_of key step (One count) = if is_too_low key step count then Some (token_of step) else None
too_low_of key step Several = None

abbrev pub too_low_at : (key : ℕ) → Passed → Option ℕ
too_low_at key entry = too_low_of key entry.step entry.comes

abbrev pub wrong_end_of : (leaves : ℤ) → Step → Counts → Option Leaving
wrong_end_of leaves (Point token moment) comes = None
wrong_end_of leaves (Add token key by) comes = None
wrong_end_of leaves (Call token key enters out) comes = None
wrong_end_of leaves (End token) Never = None
wrong_end_of leaves (End token) (One found) = if int_eq found leaves then None else Some (record { token = token; found = found })
wrong_end_of leaves (End token) Several = None

abbrev pub wrong_end_at : (leaves : ℤ) → Passed → Option Leaving
wrong_end_at leaves entry = wrong_end_of leaves entry.step entry.comes

-- The lower of two

abbrev pub lower : Option ℕ → Option ℕ → Option ℕ
lower None other = other
lower (Some token) None = Some token
lower (Some token) (Some other) = Some (min token other)

abbrev pub is_earlier : Leaving → Leaving → Bool
is_earlier exit other = nat_lt exit.token other.token || (nat_eq exit.token other.token && int_lt exit.found other.found)

abbrev pub lower_end : Option Leaving → Option Leaving → Option Leaving
lower_end None other = other
lower_end (Some exit) None = Some exit
lower_end (Some exit) (Some other) = Some (if is_earlier other exit then other else exit)

-- The answer

abbrev pub answered : (different fall : Option ℕ) → (wrong : Option Leaving) → rules.ContextAnswer
answered (Some token) fall wrong = rules.Different token
answered None (Some token) wrong = rules.Below token
answered None None (Some exit) = rules.WrongExit exit.token exit.found
answered None None None = rules.Balanced
