-- What a put does to the bytes that were written, and what it took.
use Rattle.std.specs.Prelude.{◌≤◌, ◌<◌, ℕ, List, [], length, take, Option}
use Rattle.std.specs.Io.KnownBytes.{Appends, Keeps}
use Rattle.sparse_outside.specs.declared.sink.Put.{Put}
use Rattle.sparse_outside.specs.declared.sink.Put.TheVariants.{Took, Failed}

-- a put of a piece appends what it took, which is something, and otherwise nothing
abbrev pub Puts : Option (List ℕ) → Option (List ℕ) → List ℕ → Put → Type 0
Puts old new piece (Took n) = (0 < n) × (n ≤ length piece) × Appends old new (take n piece)
Puts old new piece Failed = Keeps old new

-- the bytes of a piece that a put says it took
abbrev pub taken_of : (piece : List ℕ) → Put → List ℕ
taken_of piece (Took n) = take n piece
taken_of piece Failed = []
