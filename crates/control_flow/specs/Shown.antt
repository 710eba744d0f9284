-- How a flow and the counts of its function stand in a line.
use Rattle.std.specs.Prelude.{ℕ, ℤ, pos, negsuc, true, false, List, [], ◌∷◌, ◌++◌, codes}
use Rattle.std.specs.Fmt.{decimal, signed_decimal}
use Rattle.meaning_paths.specs.Graphs.{BasicBlock}
use Rattle.meaning_paths.specs.Steps.{Step, Point, Add, Call, End}
use Rattle.control_flow.specs.declared.note.ContextNote.{ContextNote}

-- Steps

-- by how much a count changes, with a sign
abbrev pub shown_change : ℤ → List ℕ
shown_change (pos by) = codes "+" ++ decimal by
shown_change (negsuc by) = signed_decimal (negsuc by)

abbrev pub shown_counts : (enters leaves : ℤ) → List ℕ
shown_counts enters leaves = codes "(" ++ signed_decimal enters ++ codes "," ++ signed_decimal leaves ++ codes ")"

abbrev pub shown_step : Step → List ℕ
shown_step (Point token false) = codes "P" ++ decimal token
shown_step (Point token true) = codes "M" ++ decimal token
shown_step (Add token key by) = codes "A" ++ decimal token ++ shown_change by
shown_step (Call token key enters leaves) = codes "C" ++ decimal token ++ shown_counts enters leaves
shown_step (End token) = codes "E" ++ decimal token

-- each behind a space
abbrev pub shown_steps_behind : List Step → List ℕ
shown_steps_behind [] = []
shown_steps_behind (step ∷ steps) = codes " " ++ shown_step step ++ shown_steps_behind steps

abbrev pub shown_steps : List Step → List ℕ
shown_steps [] = codes "-"
shown_steps (step ∷ steps) = shown_step step ++ shown_steps_behind steps

-- Blocks

abbrev pub shown_numbers : List ℕ → List ℕ
shown_numbers [] = []
shown_numbers (number ∷ numbers) = codes " " ++ decimal number ++ shown_numbers numbers

abbrev pub shown_successors : List ℕ → List ℕ
shown_successors [] = []
shown_successors (number ∷ numbers) = codes " >" ++ shown_numbers (number ∷ numbers)

abbrev pub shown_block : BasicBlock → List ℕ
shown_block block = shown_steps block.steps ++ shown_successors block.successors

abbrev pub shown_blocks_behind : List BasicBlock → List ℕ
shown_blocks_behind [] = []
shown_blocks_behind (block ∷ blocks) = codes " | " ++ shown_block block ++ shown_blocks_behind blocks

abbrev pub shown_blocks : List BasicBlock → List ℕ
shown_blocks [] = []
shown_blocks (block ∷ blocks) = shown_block block ++ shown_blocks_behind blocks

-- A line

abbrev pub shown_note : ContextNote → List ℕ
shown_note note = codes " ; " ++ signed_decimal note.enters ++ codes ", " ++ signed_decimal note.leaves

abbrev pub shown_line : List BasicBlock → ContextNote → List ℕ
shown_line graph note = shown_blocks graph ++ shown_note note
