-- The nodes of a unit that stand as they are written are those of its tokens and its tree, where the table of names begins with what the
-- tokens spell.
use Rattle.std.proofs.Common.{◌≡◌, ⊎_elim, ◌<◌, ℕ, Bool, List, [], ◌∷◌, length, map, slice_get, Some, All, if◌then◌else◌, refl, sym, ap, ap₂, ◌∙◌, arith}
use Rattle.std.proofs.lemmas.Bool.{cases_eq, eq-eqb, ne_eqb}
use Rattle.std.proofs.lemmas.List.Elements.{All-head, All-tail}
use Rattle.std.proofs.lemmas.Option.{same_Some, slice_get-get_or, slice_get_within, unwrap_or-slice_get}
use Rattle.sparse_model.specs.declared.ids.NameId.{NameId}
use Rattle.c_tokens.specs.Seen.{Extends, IsKnown, text_of}
use Rattle.c_tokens.specs.Spellings.{AreApart}
use Rattle.c_tokens.proofs.SeenLemmas.{IsKnown-Extends, slice_get-append}
use Rattle.c_tokens.proofs.TableLemmas.{is_among-stands}
use Rattle.meaning_tree.specs.Nodes.{TreeNode}
use Rattle.meaning_tree.specs.Listed.{renamed_node}
use Rattle.meaning_unit_nodes.specs.Numbered.{number_told, place_told, spellings_told}
use Rattle.meaning_unit_nodes.proofs.Numbers.{place_told-stands}
use Rattle.unit_names.specs.Nodes.{NodesAreThoseOfTheirTree, id_seen}

-- the spelling of a known id stands at its number
slice_get-text_of : (names : List (List ℕ)) (id : NameId) → IsKnown names id → slice_get names id.0 ≡ Some (text_of names id)
slice_get-text_of names id known = slice_get-get_or names id.0 [] known ∙ ap Some (sym (unwrap_or-slice_get names id.0 []))

module _ (told names : List (List ℕ)) (extends : Extends told names) (apart : AreApart names) (empty : slice_get names 0 ≡ Some []) where
  -- what stands among the spellings of tokens stands in the table
  stands_later : (place : ℕ) (text : List ℕ) → place < length told → slice_get told place ≡ Some text → slice_get names place ≡ Some text
  stands_later place text within stands = ap (λ (table : List (List ℕ)). slice_get table place) extends.1 ∙ slice_get-append told extends.0 place within ∙ stands

  stands_told : (id : NameId) → IsKnown told id → slice_get told id.0 ≡ Some (text_of names id)
  stands_told id known =
      sym (slice_get-append told extends.0 id.0 known) ∙ sym (ap (λ (table : List (List ℕ)). slice_get table id.0) extends.1)
      ∙ slice_get-text_of names id (IsKnown-Extends told names extends id known)

  -- a spelling that isn't empty has the number of its id
  number_of : (id : NameId) (text : List ℕ) → text ≡ text_of names id → IsKnown told id → (id.0 ≡ 0 → ⊥) → number_told told text ≡ id.0 ∷ []
  number_of id [] is known some =
      absurd (some (apart id.0 0 [] (slice_get-text_of names id (IsKnown-Extends told names extends id known) ∙ ap Some (sym is)) empty))
  number_of id (byte ∷ bytes) is known some =
      let text = byte ∷ bytes in
      let stands = stands_told id known ∙ ap Some (sym is) in
      let placed = place_told-stands told text (is_among-stands text told id.0 stands) in
      let within = place_within text placed in
      ap (λ (place : ℕ). place ∷ []) (apart (place_told told text) id.0 text (stands_later (place_told told text) text within placed) (stands_later id.0 text known stands))
    where
      place_within : (text : List ℕ) → slice_get told (place_told told text) ≡ Some text → place_told told text < length told
      place_within text placed = slice_get_within told (place_told told text) text placed

  no_number : (id : NameId) → id.0 ≡ 0 → number_told told (text_of names id) ≡ []
  no_number id zero_id =
      ap (number_told told)
      (same_Some (text_of names id) [] (sym (slice_get-text_of names id (within id zero_id)) ∙ ap (slice_get names) zero_id ∙ empty))
    where
      within : (id : NameId) → id.0 ≡ 0 → IsKnown names id
      within id zero_id = let some = slice_get_within names 0 [] empty in omega (arith, some, zero_id)

  -- the number of a name is that of its id
  name_number : (id : NameId) → IsKnown told id → number_told told (text_of names id) ≡ id_seen id
  name_number id known =
      ⊎_elim
      (λ none. no_number id none ∙ sym (ap (λ (is : Bool). if is then [] else id.0 ∷ []) (eq-eqb id.0 0 none)))
      (λ some. number_of id (text_of names id) refl known some ∙ sym (ap (λ (is : Bool). if is then [] else id.0 ∷ []) (ne_eqb id.0 0 some)))
      (cases_eq id.0 0)

  numbers : (nodes : List (TreeNode NameId)) → All (λ (node : TreeNode NameId). node.name.0 < length told) nodes
      → map (renamed_node (number_told told)) (map (renamed_node (text_of names)) nodes) ≡ map (renamed_node id_seen) nodes
  numbers [] named = refl
  numbers (node ∷ nodes) named =
      ap₂ (λ (name : List ℕ) more. record { kind = node.kind; token = node.token; name = name; number = node.number; children = node.children } ∷ more)
      (name_number node.name (All-head (λ (one : TreeNode NameId). one.name.0 < length told) node nodes named))
      (numbers nodes (All-tail (λ (one : TreeNode NameId). one.name.0 < length told) node nodes named))

pub nodes_of_tree : NodesAreThoseOfTheirTree
nodes_of_tree names toks nodes tree table written named =
    sym (numbers (spellings_told toks) names table.extends table.apart table.empty nodes named)
    ∙ ap (map (renamed_node (number_told (spellings_told toks)))) written
