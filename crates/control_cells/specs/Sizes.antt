-- How large the numbers are that control passes in cells.
use Rattle.std.specs.Prelude.{ℕ, ◌≤◌, List, [], ◌∷◌, unsigned_abs}
use Rattle.meaning_paths.specs.Graphs.{size_of_steps}
use Rattle.meaning_control.specs.Kinds.{ControlKind, Calling, Context}
use Rattle.meaning_control.specs.laws.Cells.{Cell}

-- the numbers that a node of this kind passes, without their signs
abbrev pub size_of_kind : ControlKind → ℕ
size_of_kind (Context by) = unsigned_abs by
size_of_kind (Calling passes outcomes) = size_of_steps passes
size_of_kind kind = 0

-- each cell passes no more than this
abbrev pub EachPassesAtMost : (most : ℕ) → List Cell → Type 0
EachPassesAtMost most [] = Unit {0}
EachPassesAtMost most (cell ∷ cells) = (size_of_kind cell.kind ≤ most) × EachPassesAtMost most cells
