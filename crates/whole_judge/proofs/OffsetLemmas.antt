-- How far a node leads by the table of types is how far it leads by what is known of aggregates: a name is its number alone.
use Rattle.std.proofs.Common.{◌≡◌, ℕ, zero, suc, ◌-◌, ℤ, pos, negsuc, List, [], ◌∷◌, Option, Some, None, map, option_map, slice_get, get_or, refl, ap, ◌∙◌, sym, arith}
use Rattle.vocabulary.specs.declared.node_kind.NodeKind.{NodeKind}
use Rattle.vocabulary.specs.declared.node_kind.NodeKind.TheVariants as kinds
use Rattle.sparse_model.specs.declared.ids.NameId.{NameId}
use Rattle.meaning_tree.specs.Nodes.{TreeNode, NodeList, HasNode}
use Rattle.meaning_tree.specs.Listed.{renamed_node}
use Rattle.meaning_types.specs.Types.{TypeTree, Typed, VoidTree, IntegerTree, RestrictedTree, PointerTree, ArrayTree, FunctionTree, AggregateTree}
use Rattle.meaning_layout.specs.Sizes.{Told}
use Rattle.meaning_layout.specs.Telling.{or_incomplete}
use Rattle.meaning_constants.specs.Constants.{Part}
use Rattle.meaning_constants.specs.Sizes.{Designator, ElementAt, Members, NamedMember, ObjectPart, designated, part_found, spot_along, spot_behind}
use Rattle.meaning_typing.specs.Facts as meaning
use Rattle.meaning_typing.specs.Facts.{Fact, fact_at}
use Rattle.meaning_typing.specs.Offsets as offsets
use Rattle.meaning_typing.specs.Typing.{part_seen}
use Rattle.meaning_typing.specs.Units.{UnitNodes, children_at, kind_at, no_node, node_at}
use Rattle.c_types.specs.declared.nodes.NodeType.{NodeType}
use Rattle.c_types.specs.Layouts.{told_in}
use Rattle.c_types.specs.Table.{TypeTable, type_at}
use Rattle.node_facts.specs.Known as known
use Rattle.node_facts.specs.Offsets as fold
use Rattle.decl_judge.specs.Units.{named_node, nodes_of}
use Rattle.node_facts.specs.declared.fact.NodeFact.{NodeFact}
use Rattle.node_facts.specs.declared.fact.NodeFact.TheVariants as facts
use Rattle.node_facts.specs.Facts.{name_seen, node_seen, nodes_seen}
use Rattle.node_facts.specs.Kept.{node_kept}
use Rattle.expr_judge.proofs.ConstantLemmas.{part-is}
use Rattle.expr_judge.proofs.NodeLemmas.{node-is}
use Rattle.member_rows.specs.Aggregates.{aggregates_in}
use Rattle.member_rows.proofs.AggregateLemmas.{named_is, told_is}

-- the same step, to a name as it is seen
abbrev spelled : Designator NameId → Designator (List ℕ)
spelled (NamedMember name) = NamedMember (name_seen name)
spelled (ElementAt index) = ElementAt index

-- Along designators

module _ (table : TypeTable) where
  abbrev told : Told
  told = told_in table

  abbrev named : Members (List ℕ)
  named = offsets.members_named told (aggregates_in table).names

  member_same : (number : ℕ) (is_union : _) (name : NameId) → named number is_union (name_seen name) ≡ fold.members_of table number is_union name
  member_same number is_union name = ap (part_found (or_incomplete (told number is_union))) (named_is table number name)

  step_same : (designator : Designator NameId) (bytes : ℕ) (of : TypeTree)
      → designated told named (spelled designator) bytes of ≡ designated told (fold.members_of table) designator bytes of
  step_same (NamedMember name) bytes (Typed (AggregateTree number is_union) _ _) = ap (spot_behind bytes) (member_same number is_union name)
  step_same (NamedMember name) bytes of = refl
  step_same (ElementAt (Some (pos index))) bytes (Typed (ArrayTree element length) _ _) = refl
  step_same (ElementAt index) bytes of = refl

  along_same : (designators : List (Designator NameId)) (spot : Option ObjectPart)
      → spot_along told named (map spelled designators) spot ≡ spot_along told (fold.members_of table) designators spot
  along_same [] spot = refl
  along_same (designator ∷ designators) None = refl
  along_same (designator ∷ designators) (Some spot) =
      ap (spot_along told named (map spelled designators)) (step_same designator spot.bytes spot.of)
      ∙ along_same designators (designated told (fold.members_of table) designator spot.bytes spot.of)

  -- What is known of nodes

  number_same : (fact : Fact) → fold.number_of (part_seen fact) ≡ offsets.constant_in fact
  number_same meaning.Unknown = refl
  number_same (meaning.Expression expression) = refl
  number_same (meaning.Specified specifiers) = refl
  number_same (meaning.Declared declaration) = refl
  number_same (meaning.NamedType type_) = refl

  index_same : (list : List NodeFact) (children : List (ℕ × ℕ))
      → fold.index_in table (map node_kept list) children ≡ offsets.index_in (nodes_seen table list) (map (λ child. child.0) children)
  index_same list [] = refl
  index_same list (child ∷ []) =
      ap fold.number_of (part-is table list child.0) ∙ number_same (fact_at (nodes_seen table list) child.0)
  index_same list (child ∷ other ∷ children) = refl

  type_one : (fact : NodeFact) → option_map (λ (node : NodeType). type_at table node.of) (node_kept fact) ≡ offsets.type_in (node_seen table fact)
  type_one facts.Unknown = refl
  type_one (facts.Expression expression) = refl
  type_one (facts.Specified specifiers) = refl
  type_one (facts.Declared declaration) = refl
  type_one (facts.NamedType of) = refl

  type_same : (list : List NodeFact) (handle : ℕ)
      → option_map (λ (node : NodeType). type_at table node.of) (known.kept_at (map node_kept list) handle) ≡ offsets.type_in (fact_at (nodes_seen table list) handle)
  type_same [] handle = refl
  type_same (fact ∷ list) zero = type_one fact
  type_same (fact ∷ list) (suc handle) = type_same list handle

  -- Designators

  -- what a node designates by itself
  abbrev by_node : List Fact → NodeKind → TreeNode (List ℕ) → Designator (List ℕ)
  by_node seen kinds.MemberDesignator node = NamedMember node.name
  by_node seen kinds.IndexDesignator node = ElementAt (offsets.index_in seen (map (λ child. child.0) node.children))
  by_node seen kind node = ElementAt None

  by_node_same : (nodes : UnitNodes) (seen : List Fact) (handle : ℕ) (kind : NodeKind)
      → by_node seen kind (node_at nodes handle) ≡ offsets.designator_by nodes seen handle kind
  by_node_same nodes seen handle kinds.MemberDesignator = refl
  by_node_same nodes seen handle kinds.IndexDesignator = refl
  by_node_same nodes seen handle kind = refl

  module _ (list : List NodeFact) where
    of_kind : (kind : NodeKind) (node : TreeNode NameId)
        → spelled (fold.designator_by table (map node_kept list) kind node) ≡ by_node (nodes_seen table list) kind (named_node node)
    of_kind kinds.MemberDesignator node = refl
    of_kind kinds.IndexDesignator node = ap ElementAt (index_same list node.children)
    of_kind kind node = refl

    in_list : (nodes : List (TreeNode NameId)) (handle : ℕ)
        → spelled (fold.designator_of table (map node_kept list) (slice_get nodes handle))
        ≡ by_node (nodes_seen table list) (get_or (map named_node nodes) handle no_node).kind (get_or (map named_node nodes) handle no_node)
    in_list [] handle = refl
    in_list (node ∷ nodes) zero = of_kind node.kind node
    in_list (node ∷ nodes) (suc handle) = in_list nodes handle

    module _ (unit : NodeList NameId) (whole : unit.first ≡ 0) where
      one_same : (handle : ℕ) → spelled (fold.designator_at unit table (map node_kept list) handle)
          ≡ offsets.designator_by (nodes_of unit) (nodes_seen table list) handle (kind_at (nodes_of unit) handle)
      one_same handle =
          let same : handle - unit.first ≡ handle = omega (arith, whole) in
          ap (λ place. spelled (fold.designator_of table (map node_kept list) (slice_get unit.nodes place))) same
          ∙ in_list unit.nodes handle
          ∙ by_node_same (nodes_of unit) (nodes_seen table list) handle (kind_at (nodes_of unit) handle)

      all_same : (children : List (ℕ × ℕ)) → map spelled (fold.designators_at unit table (map node_kept list) children)
          ≡ offsets.designators_at (nodes_of unit) (nodes_seen table list) (map (λ child. child.0) children)
      all_same [] = refl
      all_same (child ∷ children) = λ i. one_same child.0 i ∷ all_same children i

      -- Offsets

      from_same : (name : NameId) (typed : Option NodeType) (children : List (ℕ × ℕ))
          → fold.offset_from unit table (map node_kept list) name typed children
          ≡ offsets.offset_from told named (name_seen name) (option_map (λ (node : NodeType). type_at table node.of) typed)
          (map spelled (fold.designators_at unit table (map node_kept list) children))
      from_same name None children = refl
      from_same name (Some node) children =
          ap (option_map (λ spot. spot.bytes))
          (sym
          (along_same (NamedMember name ∷ fold.designators_at unit table (map node_kept list) children)
          (Some (record { bytes = 0; of = type_at table node.of }))))

      parts_same : (name : NameId) (children : List (ℕ × ℕ))
          → fold.offset_of_parts unit table (map node_kept list) name children
          ≡ offsets.offset_of_parts told named (nodes_of unit) (nodes_seen table list) (name_seen name) (map (λ child. child.0) children)
      parts_same name [] = refl
      parts_same name (first ∷ others) =
          from_same name (known.kept_at (map node_kept list) first.0) others
          ∙ (λ i. offsets.offset_from told named (name_seen name) (type_same list first.0 i) (all_same others i))

      pub offset_same : (handle : ℕ) (node : TreeNode NameId) → HasNode unit handle node
          → fold.offset_of_node unit table (map node_kept list) node
          ≡ offsets.offset_at (aggregates_in table).told (offsets.members_named (aggregates_in table).told (aggregates_in table).names) (nodes_of unit)
          (nodes_seen table list) handle
      offset_same handle node has =
          parts_same node.name node.children
          ∙ ap
          (λ (n : TreeNode (List ℕ)). offsets.offset_of_parts told named (nodes_of unit) (nodes_seen table list) n.name (map (λ child. child.0) n.children))
          (sym (node-is unit whole handle node has))
          ∙ ap
          (λ (layouts : Told). offsets.offset_at layouts (offsets.members_named layouts (aggregates_in table).names) (nodes_of unit) (nodes_seen table list) handle)
          (sym (told_is table))
