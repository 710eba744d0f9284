-- Where the nodes of a tree begin in a list.
use Rattle.std.specs.Prelude.{◌↔◌, ℕ, ◌≤◌, List, [], ◌∷◌, Option, Some, None, nat_lt, if◌then◌else◌}
use Rattle.sparse_model.specs.declared.ids.NameId.{NameId}
use Rattle.meaning_tree.specs.Nodes.{NodeList}
use Rattle.meaning_tree.specs.Laid.{IsWithin}

-- the least of these handles, where there is one
abbrev pub lesser : Option ℕ → ℕ → ℕ
lesser None handle = handle
lesser (Some other) handle = if nat_lt other handle then other else handle

abbrev pub least_from : Option ℕ → List (ℕ × ℕ) → Option ℕ
least_from least [] = least
least_from least (child ∷ children) = least_from (Some (lesser least child.0)) children

-- those of the tree of a root are the nodes from the first one to the root
abbrev pub IsRunFrom : NodeList NameId → (first root : ℕ) → Type 0
IsRunFrom list first root = (part : ℕ) → IsWithin list root part ↔ ((first ≤ part) × (part ≤ root))
