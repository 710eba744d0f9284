-- What numbers of nodes stand for, over the combinations that they name.
use Rattle.std.specs.Prelude.{◌≡◌, ℕ, ◌<◌, List, ◌++◌, get_or, map}
use Rattle.std.specs.List.{AllByRecursion}
use Rattle.statement_judge.specs.declared.enclosing.Enclosing.{Enclosing}
use Rattle.statement_judge.specs.Enclosing.{nothing_above}

-- nothing, where there is no such combination
abbrev pub setting_seen : (settings : List Enclosing) → ℕ → Enclosing
setting_seen settings number = get_or settings number nothing_above

abbrev pub settings_seen : (settings : List Enclosing) → List ℕ → List Enclosing
settings_seen settings numbers = map (setting_seen settings) numbers

-- the numbers are below this one
abbrev pub AreWithin : ℕ → List ℕ → Type 0
AreWithin count numbers = AllByRecursion (λ number. number < count) numbers

-- more came behind
abbrev pub IsLonger : List Enclosing → List Enclosing → Type 0
IsLonger old new = (more : List Enclosing) × (new ≡ old ++ more)
