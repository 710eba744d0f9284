-- What is kept of nodes, and what it is as parts.
use Rattle.std.proofs.Common.{◌≡◌, ◌≢◌, ◌≤◌, ◌-◌, arith, ℕ, Bool, if◌then◌else◌, List, [], ◌∷◌, All, Option, Some, None, length, map, option_map, slice_get, get_or, refl, sym, ap, ◌∙◌, subst, ⊎_elim}
use Rattle.std.specs.Prelude.{unwrap_or}
use Rattle.std.proofs.lemmas.Bool.{cases_lt}
use Rattle.std.proofs.lemmas.Option.{none-some, same_Some, slice_get_past, unwrap_or-slice_get}
use Rattle.std.proofs.lemmas.List.Elements.{All-get_or}
use Rattle.vocabulary.specs.declared.node_kind.NodeKind.{NodeKind}
use Rattle.sparse_model.specs.declared.ids.NameId.{NameId}
use Rattle.meaning_tree.specs.Nodes.{NodeList, end_of}
use Rattle.c_tree.specs.Seen.{HasNodeWith}
use Rattle.c_types.specs.declared.nodes.NodeType.{NodeType}
use Rattle.c_types.specs.Table.{TypeTable, IsTypeId}
use Rattle.meaning_constants.specs.Constants.{Part}
use Rattle.const_fold.specs.declared.children.Children.TheVariants as counts
use Rattle.const_fold.specs.Known.{IsKnownNode, enumerator_at, if_enumerator, is_enumerator, kept_at, part_at}
use Rattle.const_fold.specs.Outlined.{outlined_part, few, few_children, known_children}

-- each node of a list is known, and so is what is kept of none
known-or : (table : TypeTable) (kept : List (Option NodeType)) (handle : ℕ) → All (IsKnownNode table) kept → IsKnownNode table (get_or kept handle None)
known-or table kept handle all =
    ⊎_elim (λ below. All-get_or (IsKnownNode table) kept handle None below all)
    (λ past. subst (IsKnownNode table) (sym (ap (λ found. unwrap_or found None) (slice_get_past kept handle past)) ∙ unwrap_or-slice_get kept handle None) tt)
    (cases_lt handle (length kept))

pub kept-known : (table : TypeTable) (kept : List (Option NodeType)) (handle : ℕ) (node : NodeType) → All (IsKnownNode table) kept
    → kept_at kept handle ≡ Some node → IsTypeId table node.of
kept-known table kept handle node all is =
    subst (IsKnownNode table) (sym (unwrap_or-slice_get kept handle None) ∙ is) (known-or table kept handle all)

-- of few children as much is known as of the children in the list
pub known-few : (known : ℕ → Option Part) (children : List (ℕ × ℕ))
    → known_children (λ handle. option_map outlined_part (known handle)) (few_children children)
    ≡ few (map (option_map outlined_part) (map (λ child. known child.0) children))
known-few known [] = refl
known-few known (first ∷ []) = refl
known-few known (first ∷ second ∷ []) = refl
known-few known (first ∷ second ∷ third ∷ []) = refl
known-few known (first ∷ second ∷ third ∷ fourth ∷ children) = refl
