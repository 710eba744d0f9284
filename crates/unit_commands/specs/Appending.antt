-- Lines, one behind another.
use Rattle.std.specs.Prelude.{◌≡◌, ℕ, List, ◌++◌}

-- such a line is appended
abbrev pub AppendsOne : (List ℕ → Type 0) → (old new : List ℕ) → Type 0
AppendsOne IsLine old new = (line : List ℕ) × IsLine line × (new ≡ old ++ line)
