-- What is told to the parts of a node, and what stays as it was.
use Rattle.std.proofs.Common.{◌≡◌, ℕ, zero, suc, ◌+◌, ◌<◌, List, [], ◌∷◌, Some, length, slice_get, refl, sym, ap, subst, ◌∙◌, arith, length-set}
use Rattle.std.specs.Prelude.{slice_set}
use Rattle.std.proofs.lemmas.List.{map-set}
use Rattle.std.proofs.lemmas.Option.{none-some, same_Some}
use Rattle.vocabulary.specs.declared.node_kind.NodeKind.{NodeKind}
use Rattle.vocabulary.specs.Roles.{role_of}
use Rattle.meaning_typing.specs.Surroundings.{Surrounding, asked}
use Rattle.node_surroundings.specs.declared.surrounding.Surrounding.{Surrounding as Kept}
use Rattle.node_surroundings.specs.Parts.{with_parts}
use Rattle.node_surroundings.specs.Seen.{surrounding_seen, surroundings_seen}
use Rattle.node_surroundings.proofs.ListLemmas.{slice_get-set_same, slice_get-set_other}

module _ (kind : NodeKind) (handle : ℕ) (surrounding : Surrounding) where
  pub length-with_parts : (place : ℕ) (children : List (ℕ × ℕ)) (surroundings : List Surrounding)
      → length (with_parts kind handle surrounding place children surroundings) ≡ length surroundings
  length-with_parts place [] surroundings = refl
  length-with_parts place (child ∷ children) surroundings =
      length-with_parts (place + 1) children (slice_set surroundings child.0 (asked kind handle place (role_of child.1) surrounding))
      ∙ length-set surroundings child.0 (asked kind handle place (role_of child.1) surrounding)

  -- a node that is none of the parts
  pub with_parts-other :
      (place : ℕ) (children : List (ℕ × ℕ)) (surroundings : List Surrounding) (other : ℕ)
      → ((k : ℕ) (child : ℕ × ℕ) → slice_get children k ≡ Some child → child.0 ≡ other → ⊥)
      → slice_get (with_parts kind handle surrounding place children surroundings) other ≡ slice_get surroundings other
  with_parts-other place [] surroundings other none = refl
  with_parts-other place (child ∷ children) surroundings other none =
      with_parts-other (place + 1) children (slice_set surroundings child.0 (asked kind handle place (role_of child.1) surrounding)) other
      (λ k part at. none (suc k) part at)
      ∙ slice_get-set_other surroundings child.0 other (asked kind handle place (role_of child.1) surrounding) (none 0 child refl)

  -- a part that is one only once
  pub with_parts-told :
      (place : ℕ) (children : List (ℕ × ℕ)) (surroundings : List Surrounding) (k : ℕ) (child : ℕ × ℕ)
      → slice_get children k ≡ Some child → child.0 < length surroundings
      → ((other : ℕ) (part : ℕ × ℕ) → slice_get children other ≡ Some part → part.0 ≡ child.0 → other ≡ k)
      → slice_get (with_parts kind handle surrounding place children surroundings) child.0
      ≡ Some (asked kind handle (place + k) (role_of child.1) surrounding)
  with_parts-told place [] surroundings k child at within once = absurd (none-some child at)
  with_parts-told place (first ∷ children) surroundings zero child at within once =
      let same : first ≡ child = same_Some first child at in
      let told : Surrounding = asked kind handle place (role_of first.1) surrounding in
      with_parts-other (place + 1) children (slice_set surroundings first.0 told) child.0
      (λ other part is same. absurd (omega (arith, once (suc other) part is same)))
      ∙ subst (λ (c : ℕ × ℕ). slice_get (slice_set surroundings first.0 told) c.0 ≡ Some (asked kind handle (place + 0) (role_of c.1) surrounding)) same
      (slice_get-set_same surroundings first.0 told (subst (λ (c : ℕ × ℕ). c.0 < length surroundings) (sym same) within)
      ∙ ap (λ at. Some (asked kind handle at (role_of first.1) surrounding)) (omega arith))
  with_parts-told place (first ∷ children) surroundings (suc k) child at within once =
      let told : Surrounding = asked kind handle place (role_of first.1) surrounding in
      with_parts-told (place + 1) children (slice_set surroundings first.0 told) k child at
      (omega (arith, within, length-set surroundings first.0 told))
      (λ other part is same. omega (arith, once (suc other) part is same))
      ∙ ap (λ at. Some (asked kind handle at (role_of child.1) surrounding)) (omega arith)

  -- where one part was told, the others are left
  pub one_told :
      (place : ℕ) (children rest : List (ℕ × ℕ)) (child : ℕ × ℕ) (surroundings later : List Kept) (part : Kept) (told : List Surrounding)
      → children ≡ child ∷ rest → later ≡ slice_set surroundings child.0 part → surrounding_seen part ≡ asked kind handle place (role_of child.1) surrounding
      → with_parts kind handle surrounding place children (surroundings_seen surroundings) ≡ told
      → with_parts kind handle surrounding (place + 1) rest (surroundings_seen later) ≡ told
  one_told place children rest child surroundings later part told next set seen all =
      ap (with_parts kind handle surrounding (place + 1) rest)
      (ap surroundings_seen set ∙ map-set surrounding_seen surroundings child.0 part ∙ ap (slice_set (surroundings_seen surroundings) child.0) seen)
      ∙ ap (λ parts. with_parts kind handle surrounding place parts (surroundings_seen surroundings)) (sym next) ∙ all
