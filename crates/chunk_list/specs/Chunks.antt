-- A chain of vectors, read as one list. The vectors may be of any kind: `items` says what one of them holds.
use Rattle.std.specs.Prelude.{ℕ, ◌<◌, List, [], ◌∷◌, ◌++◌, length}
use Rattle.std.specs.Global.{Vec}
use Rattle.std.specs.Vec.{with_item}

-- the values of the vectors, one vector after another
abbrev pub contents : {V X : Type 0} → (V → List X) → List V → List X
contents items [] = []
contents items (chunk ∷ chunks) = items chunk ++ contents items chunks

-- no vector of the chain is empty
abbrev pub AllFilled : {V X : Type 0} → (V → List X) → List V → Type 0
AllFilled items [] = Unit {0}
AllFilled items (chunk ∷ chunks) = (0 < length (items chunk)) × AllFilled items chunks

-- the first vector of the chain has a place i
abbrev pub IsPlaceInFront : {V X : Type 0} → (V → List X) → List V → ℕ → Type 0
IsPlaceInFront items [] i = ⊥
IsPlaceInFront items (chunk ∷ chunks) i = i < length (items chunk)

-- what a vector of std holds
abbrev pub items_of : {X : Type 0} → Vec X → List X
items_of chunk = chunk.items

-- the chain of these with w at place i of its first vector
abbrev pub with_front_item : {X : Type 0} → List (Vec X) → ℕ → X → List (Vec X)
with_front_item [] i w = []
with_front_item (chunk ∷ chunks) i w = with_item chunk i w ∷ chunks
