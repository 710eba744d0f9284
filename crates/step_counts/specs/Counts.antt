-- Never, one count or several, and what steps and joins do to that.
use Rattle.std.specs.Prelude.{ℕ, ℤ, pos, ◌+ℤ◌, ◌≤ℤ◌, FitsSigned, Option, Some, None, List, [], ◌∷◌, slice_index_or, if◌then◌else◌}
use Rattle.std.specs.Int.{w64}
use Rattle.std.specs.Ordering.{int_eq}
use Rattle.meaning_paths.specs.Steps.{Step, change}
use Rattle.step_counts.specs.declared.counts.Counts.{Counts}
use Rattle.step_counts.specs.declared.counts.Counts.TheVariants.{Never, One, Several}

-- the counts behind a change
abbrev pub shifted : Counts → ℤ → Counts
shifted Never by = Never
shifted (One count) by = One (count +ℤ by)
shifted Several by = Several

-- what stands where these counts come too, if that is more
abbrev pub grown : Counts → Counts → Option Counts
grown Never Never = None
grown Never (One count) = Some (One count)
grown Never Several = Some Several
grown (One count) Never = None
grown (One count) (One other) = if int_eq count other then None else Some Several
grown (One count) Several = Some Several
grown Several comes = None

-- what is known of a block
abbrev pub counts_at : List Counts → ℕ → Counts
counts_at counts number = slice_index_or counts number Never

-- what steps add together
abbrev pub total : (key : ℕ) → List Step → ℤ
total key [] = pos 0
total key (step ∷ steps) = change key step +ℤ total key steps

-- the change fits
abbrev pub HasRoom : Counts → ℤ → Type 0
HasRoom Never by = Unit {0}
HasRoom (One count) by = FitsSigned w64 (count +ℤ by)
HasRoom Several by = Unit {0}

-- one count and numbers of this size stay within the bound
abbrev pub IsWithin : (bound own : ℕ) → Counts → Type 0
IsWithin bound own Never = Unit {0}
IsWithin bound own (One count) = ((count +ℤ pos own) ≤ℤ pos bound) × (pos own ≤ℤ (count +ℤ pos bound))
IsWithin bound own Several = Unit {0}
