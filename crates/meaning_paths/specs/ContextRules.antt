-- The three rules on counts, over any set of paths.
use Rattle.std.specs.Prelude.{◌≡◌, ◌≢◌, ◌⊎◌, ℕ, ◌≤◌, ℤ, pos, ◌+ℤ◌, ◌-ℤ◌, ◌≤ℤ◌, ◌<ℤ◌, Bool, Option, Some, None, List, ◌∷◌}
use Rattle.meaning_paths.specs.Steps.{Step, Point, Add, Call, End, token_of, count}

-- What is said of a set of paths: tokens are those at which a failure stands, and the count is the one with which a path leaves.
pub data ContextAnswer : Type 0 where
  Balanced : ContextAnswer
  Different : (token : ℕ) → ContextAnswer
  Below : (token : ℕ) → ContextAnswer
  WrongExit : (token : ℕ) → (found : ℤ) → ContextAnswer

-- the least number of which it holds, or none where it holds of none
abbrev pub IsLeast : (ℕ → Type 0) → Option ℕ → Type 0
IsLeast P None = (other : ℕ) → P other → ⊥
IsLeast P (Some least) = P least × ((other : ℕ) → P other → least ≤ other)

-- The step is too low where a path comes to it with this count: it leaves a count below 0, or a call meets a count below the
-- one with which its function is entered.
abbrev pub IsTooLow : (key : ℕ) → Step → ℤ → Type 0
IsTooLow key (Point token moment) comes = ⊥
IsTooLow key (Add token other by) comes = (other ≡ key) × ((comes +ℤ by) <ℤ pos 0)
IsTooLow key (Call token other enters leaves) comes = (other ≡ key) × ((comes <ℤ enters) ⊎ ((comes +ℤ (leaves -ℤ enters)) <ℤ pos 0))
IsTooLow key (End token) comes = ⊥

-- a set of paths, a key, and the count of that key with which each of them begins
module _ (IsPath : List Step → Type 0) (key : ℕ) (start : ℤ) where
  -- a path passes the step, and comes to it with this count
  abbrev pub Comes : Step → ℤ → Type 0
  Comes step comes = (path : List Step) × IsPath (step ∷ path) × (count key start path ≡ comes)

  -- two paths reach one point at this token with different counts; points are one exactly where token and flag are equal
  abbrev pub Differ : ℕ → Type 0
  Differ token = (moment : Bool) × (one other : ℤ) × Comes (Point token moment) one × Comes (Point token moment) other × (one ≢ other)

  -- a path comes too low to a step at this token
  abbrev pub Falls : ℕ → Type 0
  Falls token = (step : Step) × (comes : ℤ) × Comes step comes × (token_of step ≡ token) × IsTooLow key step comes

  -- a path leaves at this token with this count, which is another than it should be
  abbrev pub LeavesWrong : (leaves : ℤ) → ℕ → ℤ → Type 0
  LeavesWrong leaves token comes = Comes (End token) comes × (comes ≢ leaves)

  -- at the least token at which a path leaves with a wrong count, the least such count
  abbrev pub LeavesLeastWrong : (leaves : ℤ) → ℕ → ℤ → Type 0
  LeavesLeastWrong leaves token found =
      LeavesWrong leaves token found × ((other : ℕ) (comes : ℤ) → LeavesWrong leaves other comes → (token ≤ other) × (token ≡ other → found ≤ℤ comes))

  -- The answer. Different counts come before what is too low, and that before a wrong exit.
  abbrev pub IsAnswer : (leaves : ℤ) → ContextAnswer → Type 0
  IsAnswer leaves Balanced = IsLeast Differ None × IsLeast Falls None × ((token : ℕ) (comes : ℤ) → LeavesWrong leaves token comes → ⊥)
  IsAnswer leaves (Different token) = IsLeast Differ (Some token)
  IsAnswer leaves (Below token) = IsLeast Differ None × IsLeast Falls (Some token)
  IsAnswer leaves (WrongExit token found) = IsLeast Differ None × IsLeast Falls None × LeavesLeastWrong leaves token found
