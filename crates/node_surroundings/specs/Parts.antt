-- What becomes of a list of surroundings where the parts of a node are told theirs.
use Rattle.std.specs.Prelude.{ℕ, ◌+◌, List, [], ◌∷◌, slice_set}
use Rattle.vocabulary.specs.declared.node_kind.NodeKind.{NodeKind}
use Rattle.vocabulary.specs.Roles.{role_of}
use Rattle.meaning_typing.specs.Surroundings.{Surrounding, asked}

-- parts of which the first one stands at this place
abbrev pub with_parts : NodeKind → (handle : ℕ) → Surrounding → (place : ℕ) → List (ℕ × ℕ) → List Surrounding → List Surrounding
with_parts kind handle surrounding place [] surroundings = surroundings
with_parts kind handle surrounding place (child ∷ children) surroundings =
    with_parts kind handle surrounding (place + 1) children
    (slice_set surroundings child.0 (asked kind handle place (role_of child.1) surrounding))
