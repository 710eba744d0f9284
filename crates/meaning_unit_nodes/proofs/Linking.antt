-- Names that are linked stay so under other names.
use Rattle.std.proofs.Common.{◌≡◌, ℕ, List, map, Option, Some, None, option_map, slice_get, refl, sym, ap, subst, ◌∙◌}
use Rattle.std.proofs.lemmas.Option.{none-some, same_Some, slice_get-map}
use Rattle.vocabulary.specs.declared.node_kind.NodeKind.TheVariants.{Name}
use Rattle.meaning_tree.specs.Nodes.{TreeNode}
use Rattle.meaning_tree.specs.Listed.{renamed_node}
use Rattle.meaning_unit_nodes.specs.Linked.{AreLinked, HasLink}

module _ {Spelling : Type 0} (renaming : Spelling → List ℕ) (nodes : List (TreeNode Spelling)) (linked : AreLinked nodes) where
  abbrev renamed : TreeNode Spelling → TreeNode (List ℕ)
  renamed node = renamed_node renaming node

  own-linked : (handle : ℕ) (own : TreeNode Spelling) → slice_get nodes handle ≡ Some own → own.kind ≡ Name → HasLink (map renamed nodes) handle (renamed own)
  own-linked handle own is is_name =
      let link = linked handle own is is_name in
      record {
        before = link.before;
        declaration = renamed link.declaration;
        stands = slice_get-map renamed nodes own.number ∙ ap (option_map renamed) link.stands;
        declares = link.declares;
        same = ap renaming link.same;
      }

  found-linked : (handle : ℕ) (found : Option (TreeNode Spelling)) (node : TreeNode (List ℕ)) → slice_get nodes handle ≡ found
      → option_map renamed found ≡ Some node → node.kind ≡ Name → HasLink (map renamed nodes) handle node
  found-linked handle None node is same is_name = absurd (none-some node same)
  found-linked handle (Some own) node is same is_name =
      let alike = same_Some (renamed own) node same in
      subst (HasLink (map renamed nodes) handle) alike (own-linked handle own is (ap (λ (n : TreeNode (List ℕ)). n.kind) alike ∙ is_name))

  pub names_stay_linked : AreLinked (map renamed nodes)
  names_stay_linked handle node is is_name =
      found-linked handle (slice_get nodes handle) node refl (sym (slice_get-map renamed nodes handle) ∙ is) is_name
