-- Points that are passed with one count, in their order.
use Rattle.std.specs.Prelude.{◌≡◌, ◌≢◌, ℕ, ◌+◌, ◌*◌, List, [], ◌∷◌, ◌++◌, if◌then◌else◌}
use Rattle.meaning_paths.specs.Steps.{Step, Point, Add, Call, End}
use Rattle.meaning_paths.specs.Walks.{IsIn}
use Rattle.step_counts.specs.declared.counts.Counts.{Counts}
use Rattle.step_counts.specs.declared.counts.Counts.TheVariants.{Never, One, Several}
use Rattle.context_walk.specs.declared.different.Met.{Met}
use Rattle.context_walk.specs.Passed.{Passed}

-- Where a point stands among others: they are in the order of their tokens, and of two at one token the flag comes last.
abbrev pub place_of : Met → ℕ
place_of met = met.token * 2 + (if met.moment then 1 else 0)

abbrev pub met_of : Step → Counts → List Met
met_of (Point token moment) Never = []
met_of (Point token moment) (One count) = record { token = token; moment = moment; count = count } ∷ []
met_of (Point token moment) Several = []
met_of (Add token key by) comes = []
met_of (Call token key enters leaves) comes = []
met_of (End token) comes = []

abbrev pub mets_of : List Passed → List Met
mets_of [] = []
mets_of (entry ∷ entries) = met_of entry.step entry.comes ++ mets_of entries

-- one point with two counts
abbrev pub IsConflict : Met → Met → Type 0
IsConflict one other = (one.token ≡ other.token) × (one.moment ≡ other.moment) × (one.count ≢ other.count)

-- a point of this token was met with two counts
abbrev pub ConflictAmong : List Met → ℕ → Type 0
ConflictAmong met token = (one other : Met) × IsIn one met × IsIn other met × IsConflict one other × (one.token ≡ token)
