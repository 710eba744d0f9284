-- Where nothing was told of aggregates, no member lies anywhere.
use Rattle.std.proofs.Common.{◌≡◌, ℕ, Bool, List, [], ◌∷◌, Option, Some, None, option_map, refl, ap, ◌∙◌}
use Rattle.sparse_model.specs.declared.ids.NameId.{NameId}
use Rattle.meaning_tree.specs.Nodes.{TreeNode, NodeList}
use Rattle.meaning_types.specs.Types.{TypeTree, Typed, VoidTree, IntegerTree, RestrictedTree, PointerTree, ArrayTree, FunctionTree, AggregateTree}
use Rattle.meaning_layout.specs.Members.{FoundMember, named_member}
use Rattle.meaning_layout.specs.Sizes.{Told}
use Rattle.meaning_layout.specs.Telling.{or_incomplete}
use Rattle.meaning_constants.specs.Sizes.{Designator, Members, NamedMember, ObjectPart, offset_along, part_found, spot_along, spot_behind}
use Rattle.meaning_typing.specs.Declarators.{nothing_told}
use Rattle.meaning_typing.specs.Facts.{Fact, fact_at}
use Rattle.meaning_typing.specs.Offsets.{designators_at, known_members, offset_at, offset_of_parts, offset_from, type_in}
use Rattle.meaning_typing.specs.Units.{UnitNodes, children_at, node_at}
use Rattle.c_types.specs.declared.nodes.NodeType.{NodeType}
use Rattle.c_types.specs.Layouts.{told_in}
use Rattle.c_types.specs.Members.{is_name, names_in}
use Rattle.c_types.specs.Table.{TypeTable, type_at}
use Rattle.node_facts.specs.Known as known
use Rattle.node_facts.specs.Offsets as fold

module _ {Name : Type 0} (told : Told) (members : Members Name) where
  along-none : (designators : List (Designator Name)) → option_map (λ spot. spot.bytes) (spot_along told members designators None) ≡ None
  along-none [] = refl
  along-none (designator ∷ designators) = refl

  -- a member that lies in no aggregate
  nowhere : (name : Name) (type_ : TypeTree) (designators : List (Designator Name)) → ((number : ℕ) (is_union : Bool) → members number is_union name ≡ None)
      → offset_along told members type_ (NamedMember name ∷ designators) ≡ None
  nowhere name (Typed (AggregateTree number is_union) qualifiers flags) designators none =
      ap (λ (spot : Option ObjectPart). option_map (λ spot. spot.bytes) (spot_along told members designators (spot_behind 0 spot))) (none number is_union) ∙ along-none designators
  nowhere name (Typed VoidTree qualifiers flags) designators none = along-none designators
  nowhere name (Typed (IntegerTree kind) qualifiers flags) designators none = along-none designators
  nowhere name (Typed (RestrictedTree kind identity) qualifiers flags) designators none = along-none designators
  nowhere name (Typed (PointerTree target) qualifiers flags) designators none = along-none designators
  nowhere name (Typed (ArrayTree element count) qualifiers flags) designators none = along-none designators
  nowhere name (Typed (FunctionTree result parameters variadic) qualifiers flags) designators none = along-none designators

unlaid : (found : Option FoundMember) → part_found (or_incomplete None) found ≡ None
unlaid None = refl
unlaid (Some found) = refl

-- by the definitions
module _ (nodes : UnitNodes) (facts : List Fact) where
  said-from : (name : List ℕ) (type_ : Option TypeTree) (designators : List (Designator (List ℕ))) → offset_from nothing_told known_members name type_ designators ≡ None
  said-from name None designators = refl
  said-from name (Some type_) designators = nowhere nothing_told known_members name type_ designators (λ number is_union. refl)

  said-parts : (name : List ℕ) (children : List ℕ) → offset_of_parts nothing_told known_members nodes facts name children ≡ None
  said-parts name [] = refl
  said-parts name (first ∷ others) = said-from name (type_in (fact_at facts first)) (designators_at nodes facts others)

  pub offset_said : (handle : ℕ) → offset_at nothing_told known_members nodes facts handle ≡ None
  offset_said handle = said-parts (node_at nodes handle).name (children_at nodes handle)

-- by the table
module _ (unit : NodeList NameId) (table : TypeTable) (kept : List (Option NodeType)) (layouts : told_in table ≡ nothing_told) where
  no_member : (name : NameId) (number : ℕ) (is_union : Bool) → fold.members_of table number is_union name ≡ None
  no_member name number is_union =
      let found = named_member is_name (names_in table number) name in
      ap (λ (told : Told). part_found (or_incomplete (told number is_union)) found) layouts ∙ unlaid found

  kept-from : (name : NameId) (typed : Option NodeType) (children : List (ℕ × ℕ)) → fold.offset_from unit table kept name typed children ≡ None
  kept-from name None children = refl
  kept-from name (Some node) children =
      nowhere (told_in table) (fold.members_of table) name (type_at table node.of) (fold.designators_at unit table kept children) (no_member name)

  kept-parts : (name : NameId) (children : List (ℕ × ℕ)) → fold.offset_of_parts unit table kept name children ≡ None
  kept-parts name [] = refl
  kept-parts name (first ∷ others) = kept-from name (known.kept_at kept first.0) others

  pub offset_kept : (node : TreeNode NameId) → fold.offset_of_node unit table kept node ≡ None
  offset_kept node = kept-parts node.name node.children
