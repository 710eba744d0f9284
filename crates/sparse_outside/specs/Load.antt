-- What a load answers, what it leaves in a buffer that was empty, and what it gave by that.
use Rattle.std.specs.Prelude.{◌≡◌, ◌≤◌, ◌<◌, ℕ, List, [], length, Option, None, Some, IsSomeAnd}
use Rattle.meaning_outside.specs.Files.{FileMap, file_at}
use Rattle.meaning_outside.specs.Loads.{Given, Loaded}
use Rattle.meaning_outside.specs.Loads as given
use Rattle.sparse_outside.specs.declared.files.Load.{Load}
use Rattle.sparse_outside.specs.declared.files.Load.TheVariants.{Whole, Missing, TooLong, Failed, NoMemory}

-- a load of at most max bytes where the map has this at the path
abbrev pub LoadGives : Option (List ℕ) → ℕ → Load → List ℕ → Type 0
LoadGives found max Whole into = (found ≡ Some into) × (length into ≤ max)
LoadGives found max Missing into = (found ≡ None) × (into ≡ [])
LoadGives found max TooLong into = IsSomeAnd found (λ bytes. max < length bytes) × (into ≡ [])
LoadGives found max NoMemory into = IsSomeAnd found (λ bytes. length bytes ≤ max) × (into ≡ [])
LoadGives found max Failed into = into ≡ []

-- the same where no map is told: the buffer alone
abbrev pub LeavesBuffer : ℕ → Load → List ℕ → Type 0
LeavesBuffer max Whole into = length into ≤ max
LeavesBuffer max Missing into = into ≡ []
LeavesBuffer max TooLong into = into ≡ []
LeavesBuffer max NoMemory into = into ≡ []
LeavesBuffer max Failed into = into ≡ []

-- a load of a path, where the map may be told
abbrev pub Loads : Option FileMap → List ℕ → ℕ → Load → List ℕ → Type 0
Loads None path max answer into = LeavesBuffer max answer into
Loads (Some files) path max answer into = LoadGives (file_at files path) max answer into

-- what a load gave by its answer and by what it left in the buffer
abbrev pub given_by : Load → (into : List ℕ) → Given
given_by Whole into = given.Whole into
given_by Missing into = given.Missing
given_by TooLong into = given.TooLong
given_by Failed into = given.Failed
given_by NoMemory into = given.NoMemory

-- the load of a path that asked for so many bytes at most
abbrev pub loaded : (path : List ℕ) (most : ℕ) → Load → (into : List ℕ) → Loaded
loaded path most answer into = record { path = path; most = most; given = given_by answer into }
