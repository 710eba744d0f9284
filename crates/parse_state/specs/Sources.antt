-- The values that a node or a list is made of.
use Rattle.std.specs.Prelude.{◌≡◌, ℕ, Bool, true, false, ◌&&◌, nat_eq, List, [], ◌∷◌, map, reverse, take, length}
use Rattle.vocabulary.specs.declared.action.Action.{Action}
use Rattle.meaning_tree.specs.Trees.{SyntaxTree, Node, Parts}
use Rattle.meaning_grammar.specs.Sorts.{Sort, AWord, ATree, AList, action_effect}
use Rattle.meaning_derivation.specs.Values.{Value, sorts_of}
use Rattle.meaning_derivation.specs.Shapes as shapes
use Rattle.meaning_derivation.specs.Shapes.{spelling_at, parts_from}
use Rattle.parse_state.specs.declared.shape.Source.{Source}
use Rattle.parse_state.specs.declared.shape.Source.TheVariants.{OneTree, AllTrees}
use Rattle.parse_state.specs.declared.shape.Shape.{Shape}
use Rattle.parse_state.specs.declared.row.Place.{Place}
use Rattle.parse_state.specs.declared.row.Place.TheVariants as places
use Rattle.parse_state.specs.declared.row.Row.{Row}
use Rattle.parse_state.specs.Seen.{source_of}

-- the values on the top are of the sorts that the action takes
abbrev pub IsFit : Action → List Value → Type 0
IsFit action values = take (length (action_effect action).takes) (sorts_of values) ≡ (action_effect action).takes

-- each tree and each list among values of these sorts, the deepest first, is one of the sources, in that order
abbrev pub covers : List Sort → List Source → Bool
covers [] [] = true
covers [] (source ∷ sources) = false
covers (AWord ∷ sorts) sources = covers sorts sources
covers (ATree ∷ sorts) (OneTree role depth ∷ sources) = nat_eq depth (length sorts) && covers sorts sources
covers (ATree ∷ sorts) sources = false
covers (AList ∷ sorts) (AllTrees depth ∷ sources) = nat_eq depth (length sorts) && covers sorts sources
covers (AList ∷ sorts) sources = false

-- so are those of the values that are taken from the top
abbrev pub IsCovered : List Value → (takes : ℕ) → List Source → Type 0
IsCovered values takes sources = covers (reverse (take takes (sorts_of values))) sources ≡ true

-- the parts that the sources give
abbrev pub parts_given : List Value → List Source → Parts (List ℕ)
parts_given values sources = parts_from (map source_of sources) values

-- the tree of a node of this shape
abbrev pub made_tree : Shape → List Value → SyntaxTree
made_tree shape values = Node shape.kind shape.token (spelling_at shape.name values) shape.number (parts_given values shape.sources.now)

-- where a node stands
abbrev pub place_of : Place → shapes.Place
place_of places.AtFirst = shapes.AtFirst
place_of (places.AtWord depth) = shapes.AtWord depth
place_of (places.AtTree depth) = shapes.AtTree depth

-- the shape of a row's node
abbrev pub row_shape : Row → shapes.Shape
row_shape row =
    record { takes = row.takes; kind = row.kind; place = place_of row.place; name = row.name; number = row.number; sources = map source_of row.sources.now }
