-- What can be written in a line, and that it is read back.
use Rattle.std.specs.Prelude.{◌≡◌, ℕ, ◌<◌, ◌^◌, ℤ, pos, negsuc, List, [], length}
use Rattle.std.specs.List.{AllByRecursion}
use Rattle.meaning_paths.specs.Steps.{Step, Point, Add, Call, End}
use Rattle.meaning_paths.specs.Graphs.{BasicBlock}
use Rattle.control_flow.specs.declared.note.ContextNote.{ContextNote}
use Rattle.control_flow.specs.Seen.{the_key}
use Rattle.control_flow.specs.Shown.{shown_line}
use Rattle.flows.specs.Reading.{Reads}
use Rattle.flows.specs.Lines.{line_at, line_with}

-- a count of 64 bits
abbrev pub IsCount : ℤ → Type 0
IsCount (pos number) = number < 2 ^ 63
IsCount (negsuc number) = number < 2 ^ 63

abbrev pub IsToken : ℕ → Type 0
IsToken token = token < 2 ^ 32

-- a step at a token, and over the one key that there is
abbrev pub IsKept : Step → Type 0
IsKept (Point token moment) = IsToken token
IsKept (Add token key by) = IsToken token × (key ≡ the_key) × IsCount by
IsKept (Call token key enters leaves) = IsToken token × (key ≡ the_key) × IsCount enters × IsCount leaves
IsKept (End token) = IsToken token

-- the number of a block
abbrev pub IsNumber : ℕ → Type 0
IsNumber number = number < 2 ^ 30

abbrev pub IsKeptBlock : BasicBlock → Type 0
IsKeptBlock block = AllByRecursion IsKept block.steps × AllByRecursion IsNumber block.successors

-- a graph with a first block, and the counts of its function, as flows keep them
pub record IsKeptLine (graph : List BasicBlock) (note : ContextNote) : Type 0 where
  pub first : 0 < length graph
  pub blocks : AllByRecursion IsKeptBlock graph
  pub enters : IsCount note.enters
  pub leaves : IsCount note.leaves

-- each such graph is read back from the line in which it was written, and nothing is left
abbrev pub LinesAreReadBack : Type 0
LinesAreReadBack = (graph : List BasicBlock) (note : ContextNote) → IsKeptLine graph note → line_at (shown_line graph note) ≡ Reads (line_with graph note) []
