-- The steps of a graph, each with the counts with which paths come to it.
use Rattle.std.specs.Prelude.{ℕ, List, [], ◌∷◌, ◌++◌, map}
use Rattle.meaning_paths.specs.Steps.{Step, change}
use Rattle.meaning_paths.specs.Walks.{IsIn}
use Rattle.meaning_paths.specs.Graphs.{BasicBlock}
use Rattle.control_flow.specs.Seen.{step_of}
use Rattle.step_counts.specs.declared.counts.Counts.{Counts}
use Rattle.context_walk.specs.declared.passed.PassedStep.{PassedStep}
use Rattle.step_counts.specs.Counts.{shifted}

pub record Passed : Type 0 where
  pub step : Step
  pub comes : Counts

abbrev pub passed_as : PassedStep → Passed
passed_as entry = record { step = step_of entry.step; comes = entry.comes }

abbrev pub passed_seen : List PassedStep → List Passed
passed_seen passed = map passed_as passed

-- the steps of a block to which paths come with these counts
abbrev pub passed_from : (key : ℕ) → Counts → List Step → List Passed
passed_from key comes [] = []
passed_from key comes (step ∷ steps) = record { step = step; comes = comes } ∷ passed_from key (shifted comes (change key step)) steps

-- the steps of all blocks
abbrev pub passed_of : (key : ℕ) → List Counts → List BasicBlock → List Passed
passed_of key counts [] = []
passed_of key [] (block ∷ blocks) = []
passed_of key (comes ∷ counts) (block ∷ blocks) = passed_from key comes block.steps ++ passed_of key counts blocks

-- the step is passed with these counts
abbrev pub Has : List Passed → Step → Counts → Type 0
Has passed step comes = IsIn (record { step = step; comes = comes }) passed
