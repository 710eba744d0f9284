-- What is known of blocks, and by which paths.
use Rattle.std.specs.Prelude.{◌≡◌, ◌≢◌, ℕ, ℤ, ◌+ℤ◌, List, length}
use Rattle.meaning_paths.specs.Walks.{IsIn}
use Rattle.meaning_paths.specs.Graphs.{BasicBlock, steps_at, successors_at}
use Rattle.step_counts.specs.declared.counts.Counts.{Counts}
use Rattle.step_counts.specs.declared.counts.Counts.TheVariants.{Never, One, Several}
use Rattle.step_counts.specs.Counts.{counts_at, total}

-- paths come to the start of a block with this count
pub data Arrives (graph : List BasicBlock) (key : ℕ) (start : ℤ) : ℕ → ℤ → Type 0 where
  first : Arrives graph key start 0 start
  next : {number other : ℕ} {comes goes : ℤ} → Arrives graph key start number comes → IsIn other (successors_at graph number)
      → goes ≡ comes +ℤ total key (steps_at graph number) → Arrives graph key start other goes

-- What is said of a block is shown: one count by one path, several by two that come with different counts.
abbrev pub IsShown : List BasicBlock → (key : ℕ) → (start : ℤ) → ℕ → Counts → Type 0
IsShown graph key start number Never = Unit {0}
IsShown graph key start number (One count) = Arrives graph key start number count
IsShown graph key start number Several = (one other : ℤ) × Arrives graph key start number one × Arrives graph key start number other × (one ≢ other)

-- a path may come with this count
abbrev pub Covers : Counts → ℤ → Type 0
Covers Never comes = ⊥
Covers (One count) comes = count ≡ comes
Covers Several comes = Unit {0}

-- what is said of each block is shown, and no path comes with a count that isn't told
pub record IsExact (graph : List BasicBlock) (key : ℕ) (start : ℤ) (counts : List Counts) : Type 0 where
  pub len : length counts ≡ length graph
  pub shown : (number : ℕ) → IsShown graph key start number (counts_at counts number)
  pub covers : (number : ℕ) (comes : ℤ) → Arrives graph key start number comes → Covers (counts_at counts number) comes
