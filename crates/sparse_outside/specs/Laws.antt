-- What holds of loads and puts.
use Rattle.std.specs.Prelude.{◌≡◌, ℕ, List, ◌++◌, Some, Option}
use Rattle.meaning_outside.specs.Files.{FileMap}
use Rattle.meaning_outside.specs.Loads.{AgreesWithLoad}
use Rattle.sparse_outside.specs.declared.files.Load.{Load}
use Rattle.sparse_outside.specs.declared.sink.Put.{Put}
use Rattle.sparse_outside.specs.Load.{Loads, LeavesBuffer, loaded}
use Rattle.sparse_outside.specs.Put.{Puts, taken_of}

-- A told map agrees with every load.
abbrev pub ToldMapAgrees : Type 0
ToldMapAgrees =
    (files : FileMap) (path : List ℕ) (max : ℕ) (answer : Load) (into : List ℕ)
    → Loads (Some files) path max answer into → AgreesWithLoad files (loaded path max answer into)

-- A load leaves the buffer so, whether a map is told or not.
abbrev pub LoadLeavesBuffer : Type 0
LoadLeavesBuffer =
    (told : Option FileMap) (path : List ℕ) (max : ℕ) (answer : Load) (into : List ℕ)
    → Loads told path max answer into → LeavesBuffer max answer into

-- Where what was written is told, it grew in a put by what the put says it took.
abbrev pub ToldBytesWereTaken : Type 0
ToldBytesWereTaken =
    (old new piece : List ℕ) (answer : Put) → Puts (Some old) (Some new) piece answer → new ≡ old ++ taken_of piece answer
