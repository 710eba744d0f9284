-- What holds of the plain program that plays moves: what it plays are the runs, and no others.
use Rattle.std.specs.Prelude.{◌≡◌, ℕ, List, [], Some}
use Rattle.meaning_tree.specs.Trees.{SyntaxTree}
use Rattle.meaning_machine.specs.Outcomes.{FaultKind}
use Rattle.meaning_machine.specs.Machine.{Fault}
use Rattle.meaning_machine.specs.Runs.{World, Move, Moves, Runs, IsSafe}
use Rattle.meaning_machine.specs.plain.Playing.{outcome_of, moved_to, played, onto}

-- what is played is a run
abbrev pub PlayedIsRun : Type 0
PlayedIsRun = (unit : SyntaxTree) (moves : List Move) (world : World) → played unit moves ≡ Some world → Runs unit (onto moves []) world

-- a move leads to the world that is played, and to no other
abbrev pub MovesArePlayed : Type 0
MovesArePlayed = (unit : SyntaxTree) (before : World) (move : Move) (after : World) → Moves unit before move after → moved_to unit before move ≡ Some after

-- and what is a run is played
abbrev pub RunIsPlayed : Type 0
RunIsPlayed = (unit : SyntaxTree) (moves : List Move) (world : World) → Runs unit (onto moves []) world → played unit moves ≡ Some world

-- a unit isn't safe where some run leads to a world in which an activity's next step is a fault
abbrev pub FaultsAreUnsafe : Type 0
FaultsAreUnsafe =
    (unit : SyntaxTree) (moves : List Move) (world : World) (activity : ℕ) (kind : FaultKind) (token : ℕ)
    → Runs unit moves world → outcome_of unit world activity ≡ Some (Fault kind token) → IsSafe unit → ⊥
