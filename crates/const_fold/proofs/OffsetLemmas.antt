-- Where designators lead.
use Rattle.std.proofs.Common.{◌≡◌, ℕ, suc, ◌≤◌, ◌+◌, ◌-◌, arith, List, [], ◌∷◌, Option, Some, None, option_map, slice_get, drop, refl, sym, ap, ◌∙◌}
use Rattle.std.proofs.lemmas.Option.{none-some, same_Some, slice_get_past}
use Rattle.std.specs.Prelude.{zero}
use Rattle.sparse_model.specs.declared.ids.NameId.{NameId}
use Rattle.meaning_tree.specs.Nodes.{NodeList, end_of}
use Rattle.c_types.specs.declared.nodes.NodeType.{NodeType}
use Rattle.c_layout.specs.Sizes.{Told}
use Rattle.c_types.specs.Table.{TypeTable}
use Rattle.meaning_constants.specs.Constants.{Part}
use Rattle.meaning_constants.specs.Sizes.{Designator, ElementAt, Members, ObjectPart, designated, spot_along}
use Rattle.const_fold.specs.Outlined.{few_children, outlined_part}
use Rattle.const_fold.specs.Offsets.{designator_at, designator_of, designators_at, index_few, index_in, number_of}

pub index-told : (table : TypeTable) (kept : List (Option NodeType)) (children : List (ℕ × ℕ)) → index_few table kept (few_children children) ≡ index_in table kept children
index-told table kept [] = refl
index-told table kept (first ∷ []) = refl
index-told table kept (first ∷ second ∷ []) = refl
index-told table kept (first ∷ second ∷ third ∷ []) = refl
index-told table kept (first ∷ second ∷ third ∷ fourth ∷ children) = refl

pub number-outlined : (part : Option Part) → number_of (option_map outlined_part part) ≡ number_of part
number-outlined None = refl
number-outlined (Some part) = refl

-- behind the last node there is none
pub designator-past : (unit : NodeList NameId) (table : TypeTable) (kept : List (Option NodeType)) (handle : ℕ) → end_of unit ≤ handle → designator_at unit table kept handle ≡ ElementAt None
designator-past unit table kept handle past = ap (designator_of table kept) (slice_get_past unit.nodes (handle - unit.first) (omega (arith, past)))

-- one designator, and those behind it
pub designators-step : (unit : NodeList NameId) (table : TypeTable) (kept : List (Option NodeType)) (children : List (ℕ × ℕ)) (place : ℕ) (child : ℕ × ℕ) → slice_get children place ≡ Some child
    → designators_at unit table kept (drop place children) ≡ designator_at unit table kept child.0 ∷ designators_at unit table kept (drop (suc place) children)
designators-step unit table kept [] place child at = absurd (none-some child at)
designators-step unit table kept (first ∷ children) zero child at = ap (λ (c : ℕ × ℕ). designator_at unit table kept c.0 ∷ designators_at unit table kept children) (same_Some _ _ at)
designators-step unit table kept (first ∷ children) (suc place) child at = designators-step unit table kept children place child at

-- from nowhere they lead nowhere
pub along-none : (told : Told) (members : Members NameId) (designators : List (Designator NameId)) → spot_along told members designators None ≡ None
along-none told members [] = refl
along-none told members (designator ∷ designators) = refl

-- a spot leads as far behind a designator as it leads to by that one
pub walked-on : (told : Told) (members : Members NameId) (unit : NodeList NameId) (table : TypeTable) (kept : List (Option NodeType)) (children : List (ℕ × ℕ)) (place : ℕ) (child : ℕ × ℕ)
    → slice_get children place ≡ Some child → (spot : ObjectPart) (next : Option ObjectPart) → next ≡ designated told members (designator_at unit table kept child.0) spot.bytes spot.of
    → spot_along told members (designators_at unit table kept (drop (place + 1) children)) next ≡ spot_along told members (designators_at unit table kept (drop place children)) (Some spot)
walked-on told members unit table kept children place child at spot next leads =
    let behind : place + 1 ≡ suc place = omega (arith) in
    ap (λ from. spot_along told members (designators_at unit table kept (drop from children)) next) behind
    ∙ ap (spot_along told members (designators_at unit table kept (drop (suc place) children))) leads
    ∙ sym (ap (λ designators. spot_along told members designators (Some spot)) (designators-step unit table kept children place child at))
