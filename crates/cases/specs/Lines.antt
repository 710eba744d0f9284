-- How the lines of an archive are read.
use Rattle.std.specs.Prelude.{◌≡◌, ◌≢◌, ◌<◌, ℕ, List, ◌++◌, codes, length, slice_index, EachIndex}
use Rattle.cases.specs.declared.line.Line.{Line}
use Rattle.cases.specs.declared.line.Line.TheVariants.{Section, Escaped, NoSection, Command, Text}

-- a section can be named so: it isn't empty and has no space
abbrev pub IsName : List ℕ → Type 0
IsName name = (0 < length name) × EachIndex name (λ k. slice_index name k ≢ 32)

-- what a line is read as
abbrev pub IsReadAs : List ℕ → Line → Type 0
IsReadAs line (Section name) = (line ≡ codes "-- " ++ name.now ++ codes " --") × IsName name.now
IsReadAs line (Escaped name) = (line ≡ codes "-- " ++ name.now ++ codes " escaped --") × IsName name.now
IsReadAs line NoSection = (rest : List ℕ) × (line ≡ codes "-- " ++ rest)
IsReadAs line (Command command) = line ≡ codes "$ " ++ command.now
IsReadAs line Text = ((rest : List ℕ) → line ≢ codes "-- " ++ rest) × ((rest : List ℕ) → line ≢ codes "$ " ++ rest)
