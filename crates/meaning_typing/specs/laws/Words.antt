-- What holds of the words among specifiers.
use Rattle.std.specs.Prelude.{◌≡◌, ℕ, List, ◌∷◌, ◌++◌}
use Rattle.meaning_typing.specs.Units.{UnitNodes}
use Rattle.meaning_typing.specs.Specifiers.{words_of}

-- two neighbours may change places
abbrev pub NeighboursMaySwap : Type 0
NeighboursMaySwap =
    (nodes : UnitNodes) (front back : List ℕ) (one other : ℕ)
    → words_of nodes (front ++ one ∷ other ∷ back) ≡ words_of nodes (front ++ other ∷ one ∷ back)
