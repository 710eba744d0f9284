-- What a path passes, and what that does to a count.
use Rattle.std.specs.Prelude.{ℕ, ℤ, pos, ◌+ℤ◌, ◌-ℤ◌, Bool, nat_eq, List, [], ◌∷◌, if◌then◌else◌}

-- A step of a path. Counts are kept by key, and each change is one of a key.
pub data Step : Type 0 where
  -- A point at its token. The flag tells the moment before a loop's condition, and the leaving of a `return`, from all others.
  Point : (token : ℕ) → (moment : Bool) → Step
  -- a context statement, and what it adds
  Add : (token key : ℕ) → (by : ℤ) → Step
  -- a call, and the counts with which its function is entered and left
  Call : (token key : ℕ) → (enters leaves : ℤ) → Step
  -- control leaves the function
  End : (token : ℕ) → Step

-- the token at which a step stands
abbrev pub token_of : Step → ℕ
token_of (Point token moment) = token
token_of (Add token key by) = token
token_of (Call token key enters leaves) = token
token_of (End token) = token

-- what a step adds to the count of a key: a call adds what its function is left with less what it is entered with
abbrev pub change : (key : ℕ) → Step → ℤ
change key (Point token moment) = pos 0
change key (Add token other by) = if nat_eq other key then by else pos 0
change key (Call token other enters leaves) = if nat_eq other key then leaves -ℤ enters else pos 0
change key (End token) = pos 0

-- The count behind a path that begins with this one. The last step of a path stands first.
abbrev pub count : (key : ℕ) → (start : ℤ) → List Step → ℤ
count key start [] = start
count key start (step ∷ path) = count key start path +ℤ change key step
