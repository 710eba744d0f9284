-- Counts that are brought to blocks.
use Rattle.std.specs.Prelude.{ℕ, ◌<◌, Option, Some, None, List, [], ◌∷◌, ◌++◌, slice_set}
use Rattle.step_counts.specs.declared.counts.Counts.{Counts}
use Rattle.step_counts.specs.Counts.{counts_at, grown}

-- all of these are numbers of blocks
abbrev pub AllBelow : ℕ → List ℕ → Type 0
AllBelow blocks [] = Unit {0}
AllBelow blocks (number ∷ numbers) = (number < blocks) × AllBelow blocks numbers

-- what is known once more is known of a block, if it is
abbrev pub put : Option Counts → ℕ → List Counts → List Counts
put None number counts = counts
put (Some more) number counts = slice_set counts number more

-- a block of which more is known is to be looked at
abbrev pub noted : Option Counts → ℕ → List ℕ → List ℕ
noted None number worklist = worklist
noted (Some more) number worklist = worklist ++ number ∷ []

abbrev pub spread_counts : Counts → List ℕ → List Counts → List Counts
spread_counts comes [] counts = counts
spread_counts comes (number ∷ numbers) counts = spread_counts comes numbers (put (grown (counts_at counts number) comes) number counts)

abbrev pub spread_worklist : Counts → List ℕ → List Counts → List ℕ → List ℕ
spread_worklist comes [] counts worklist = worklist
spread_worklist comes (number ∷ numbers) counts worklist =
    spread_worklist comes numbers (put (grown (counts_at counts number) comes) number counts) (noted (grown (counts_at counts number) comes) number worklist)
