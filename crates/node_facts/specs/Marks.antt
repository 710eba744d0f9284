-- The marks of nodes, as they are kept: of each its number among those that differ.
use Rattle.std.specs.Prelude.{ℕ, ◌<◌, List, map, slice_get, unwrap_or}
use Rattle.std.specs.List.{AllByRecursion}
use Rattle.node_facts.specs.declared.marks.NodeMark.{NodeMark}
use Rattle.node_facts.specs.declared.marks.NodeMark.TheVariants as marks

-- the mark with this number
abbrev pub mark_at : List NodeMark → ℕ → NodeMark
mark_at kept number = unwrap_or (slice_get kept number) marks.Unknown

abbrev pub marks_in : List NodeMark → List ℕ → List NodeMark
marks_in kept numbers = map (mark_at kept) numbers

-- the numbers of marks are below this one
abbrev pub AreWithin : ℕ → List ℕ → Type 0
AreWithin count numbers = AllByRecursion (λ number. number < count) numbers
