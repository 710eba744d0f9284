-- Files by their paths.
use Rattle.std.specs.Prelude.{ℕ, List, Option}
use Rattle.std.specs.FinMap.{FinMap}
use Rattle.std.specs.FinMap as map
use Rattle.std.specs.Ordering.{nat_cmp}
use Rattle.std.specs.Cmp.Lexicographic.{slice_cmp}

-- a finite map from paths to the bytes of files
abbrev pub FileMap : Type 0
FileMap = FinMap (slice_cmp nat_cmp) (List ℕ)

-- the bytes of the file with this path, where there is one
abbrev pub file_at : FileMap → List ℕ → Option (List ℕ)
file_at files path = map.get files path
