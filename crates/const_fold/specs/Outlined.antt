-- What constants see of a type: the kind of an integer, and whether it is restricted.
use Rattle.std.specs.Prelude.{ℕ, List, [], ◌∷◌, Option, Some, None, map, option_map}
use Rattle.vocabulary.specs.declared.int_kind.IntKind.{IntKind}
use Rattle.meaning_types.specs.Types.{TypeTree, Typed, VoidTree, IntegerTree, RestrictedTree, no_qualifiers, no_flags}
use Rattle.c_types.specs.declared.outline.Outline.{Outline}
use Rattle.c_types.specs.declared.outline.Outline.TheVariants as outlines
use Rattle.meaning_constants.specs.Constants.{Part}
use Rattle.meaning_constants.specs.Nodes.{NodeFacts, loaded_kind}
use Rattle.const_fold.specs.declared.children.Children.{Children}
use Rattle.const_fold.specs.declared.children.Children.TheVariants as counts

-- an integer without its qualifiers, flags and identity; void stands for any other type
abbrev pub outlined : TypeTree → TypeTree
outlined (Typed (IntegerTree kind) _ _) = Typed (IntegerTree kind) no_qualifiers no_flags
outlined (Typed (RestrictedTree kind identity) _ _) = Typed (RestrictedTree kind 0) no_qualifiers no_flags
outlined (Typed base _ _) = Typed VoidTree no_qualifiers no_flags

abbrev pub outlined_part : Part → Part
outlined_part part = record { of = outlined part.of; fouled = part.fouled; number = part.number }

-- one, two or three parts; more are nothing to a constant
abbrev pub few : List (Option Part) → List (Option Part)
few (first ∷ []) = first ∷ []
few (first ∷ second ∷ []) = first ∷ second ∷ []
few (first ∷ second ∷ third ∷ []) = first ∷ second ∷ third ∷ []
few parts = []

abbrev pub outlined_facts : NodeFacts → NodeFacts
outlined_facts facts =
    record {
      kind = facts.kind;
      number = facts.number;
      parts = few (map (option_map outlined_part) facts.parts);
      enumerator = option_map outlined_part facts.enumerator;
      offset = facts.offset;
    }

-- what is loaded of a place, where that is a bit-field
abbrev pub loaded_kind_if : (width : Option ℕ) → IntKind → IntKind
loaded_kind_if None kind = kind
loaded_kind_if (Some bits) kind = loaded_kind bits kind

-- a type with this outline, as it is loaded
abbrev pub type_with : (width : Option ℕ) → Outline → TypeTree
type_with width (outlines.Integer kind) = Typed (IntegerTree (loaded_kind_if width kind)) no_qualifiers no_flags
type_with width (outlines.Restricted kind restrict) = Typed (RestrictedTree kind 0) no_qualifiers no_flags
type_with width outline = Typed VoidTree no_qualifiers no_flags

-- children, if they are one, two or three
abbrev pub few_children : List (ℕ × ℕ) → Children
few_children (first ∷ []) = counts.One first.0
few_children (first ∷ second ∷ []) = counts.Two first.0 second.0
few_children (first ∷ second ∷ third ∷ []) = counts.Three first.0 second.0 third.0
few_children children = counts.Other

-- what is known of them
abbrev pub known_children : (ℕ → Option Part) → Children → List (Option Part)
known_children known (counts.One first) = known first ∷ []
known_children known (counts.Two first second) = known first ∷ known second ∷ []
known_children known (counts.Three first second third) = known first ∷ known second ∷ known third ∷ []
known_children known counts.Other = []
