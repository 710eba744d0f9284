-- The constant of a node, as it is folded over what is kept, is that of the definitions, and what its row gives has its kind.
use Rattle.std.proofs.Common.{◌≡◌, ◌≢◌, inl, inr, ℕ, ◌-◌, ◌<◌, Bool, true, false, if◌then◌else◌, length, ◌++◌, List, [], ◌∷◌, All, Option, Some, None, map, option_map, refl, sym, ap, ◌∙◌, subst, arith}
use Rattle.std.proofs.lemmas.Option.{slice_get_cases}
use Rattle.vocabulary.specs.declared.node_kind.NodeKind.{NodeKind}
use Rattle.vocabulary.specs.declared.node_kind.NodeKind.TheVariants as kinds
use Rattle.sparse_model.specs.declared.ids.NameId.{NameId}
use Rattle.meaning_tree.specs.Nodes.{TreeNode, NodeList, HasNode, end_of}
use Rattle.meaning_layout.specs.Sizes.{Told}
use Rattle.meaning_constants.specs.Constants.{Constant, Part, own_constant, size_constant}
use Rattle.meaning_constants.specs.Nodes.{NodeFacts, fold_of, folded, loaded_type, node_constant, with_part}
use Rattle.meaning_constants.specs.Sizes.{Sizes, sizes_by}
use Rattle.meaning_constants.specs.laws.Nodes.{FitsItsKind}
use Rattle.meaning_constants.proofs.Nodes.{node_constants_fit}
use Rattle.meaning_typing.specs.Aggregates.{KnownAggregates}
use Rattle.meaning_typing.specs.Facts.{Fact, Unknown, Expression, NamedType, fact_at}
use Rattle.meaning_typing.specs.OffsetRows.{OffsetStep, ToMember, Walk, field_broken, is_led, offset_by, offset_row, steps_of, walk_from}
use Rattle.meaning_typing.specs.Offsets.{members_named, offset_at}
use Rattle.meaning_typing.specs.Operations.{operation_of}
use Rattle.meaning_typing.specs.Rows.{known, unless_broken}
use Rattle.meaning_typing.specs.Surroundings.{Surrounding}
use Rattle.meaning_typing.specs.Typing.{part_fact, part_seen, token_at}
use Rattle.meaning_typing.specs.Units.{UnitNodes, children_at, children_from, kind_at, node_at}
use Rattle.meaning_typing.specs.WholeTyping.{enumerator_part, whole_operation_row, whole_row_of}
use Rattle.c_types.specs.declared.nodes.NodeType.{NodeType}
use Rattle.c_types.specs.Table.{TypeTable}
use Rattle.node_facts.specs.Known.{enumerator_at, folded_answer, node_facts}
use Rattle.node_facts.specs.Offsets.{offset_of_node}
use Rattle.node_facts.specs.Sized.{sized_constant, sized_constant_at, sizes_in}
use Rattle.decl_judge.specs.Units.{nodes_of}
use Rattle.meaning_operands.specs.Failures.{Broken}
use Rattle.node_facts.specs.declared.fact.NodeFact.{NodeFact}
use Rattle.node_facts.specs.Facts.{nodes_seen}
use Rattle.node_facts.specs.Kept.{node_kept}
use Rattle.expr_judge.specs.Constants.{bits_folded, bits_of}
use Rattle.expr_judge.specs.Operators.{HasKindOf}
use Rattle.expr_judge.proofs.ConstantLemmas.{answered, no_enumerator, parts-are}
use Rattle.expr_judge.proofs.NodeLemmas.{node-is}
use Rattle.expr_judge.proofs.OperatorConstants.{a_size, by_kind, facts_with, kind_has, none_has, number_has, one, size_known, unless_has}
use Rattle.expr_judge.proofs.OperatorLemmas.{all-fit, none-fits}
use Rattle.member_rows.specs.Aggregates.{aggregates_in}
use Rattle.member_rows.proofs.AggregateLemmas.{told_is}
use Rattle.whole_judge.specs.Constants.{constant_of_node}
use Rattle.whole_judge.proofs.OffsetLemmas.{offset_same}

-- what is known of a node with these parts, which names no enumerator
abbrev facts_by : (list : List Fact) → NodeKind → (number : ℕ) → (children : List (ℕ × ℕ)) → (offset : Option ℕ) → NodeFacts
facts_by list kind number children offset =
    record { kind = kind; number = number; parts = map (λ child. part_seen (fact_at list child)) (map (λ child. child.0) children); enumerator = None; offset = offset }

-- the enumerator is nothing to a node that is no name
apart : (sizes : Sizes) (kind : NodeKind) (number : ℕ) (parts : List (Option Part)) (offset : Option ℕ) (one other : Option Part) → kind ≢ kinds.Name
    → folded sizes (fold_of kind) (record { kind = kind; number = number; parts = parts; enumerator = one; offset = offset })
    ≡ folded sizes (fold_of kind) (record { kind = kind; number = number; parts = parts; enumerator = other; offset = offset })
apart sizes kinds.Name number parts offset one other different = absurd (different refl)
apart sizes kind number parts offset one other different = refl

module _ (unit : NodeList NameId) (whole : unit.first ≡ 0) (table : TypeTable) (list : List NodeFact) where
  abbrev aggregates : KnownAggregates
  aggregates = aggregates_in table

  abbrev nodes : UnitNodes
  nodes = nodes_of unit

  abbrev seen : List Fact
  seen = nodes_seen table list

  abbrev led_to : (handle : ℕ) → Option ℕ
  led_to handle = offset_at aggregates.told (members_named aggregates.told aggregates.names) nodes seen handle

  facts_are : (node : TreeNode NameId) (offset : Option ℕ) → node.kind ≢ kinds.Name
      → node_facts unit table (map node_kept list) offset node ≡ facts_by seen node.kind node.number node.children offset
  facts_are node offset other =
      λ i. record {
        kind = node.kind;
        number = node.number;
        parts = parts-are table list node.children i;
        enumerator = no_enumerator node.kind (enumerator_at unit table (map node_kept list) node.number) other i;
        offset = offset;
      }

  constant_told : (surroundings : List Surrounding) (handle : ℕ) (node : TreeNode NameId) → HasNode unit handle node → kind_at nodes handle ≢ kinds.Name
      → sized_constant_at unit table (map node_kept list) handle ≡ constant_of_node aggregates nodes surroundings seen handle
  constant_told surroundings handle node has other =
      let is = node-is unit whole handle node has in
      let own : node.kind ≢ kinds.Name = λ same. other (ap (λ n. n.kind) is ∙ same) in
      let this = node_at nodes handle in
      ap (sized_constant unit table (map node_kept list)) has.1
      ∙ ap (node_constant (sizes_in table)) (facts_are node (offset_of_node unit table (map node_kept list) node) own)
      ∙ ap (λ offset. node_constant (sizes_in table) (facts_by seen node.kind node.number node.children offset)) (offset_same table list unit whole handle node has)
      ∙ ap (λ (n : TreeNode (List ℕ)). node_constant (sizes_in table) (facts_by seen n.kind n.number n.children (led_to handle))) (sym is)
      ∙ ap (λ (told : Told). node_constant (sizes_by told) (facts_by seen this.kind this.number this.children (led_to handle))) (sym (told_is table))
      ∙ apart (sizes_by aggregates.told) this.kind this.number (map (λ child. part_seen (fact_at seen child)) (children_at nodes handle)) (led_to handle) None
      (enumerator_part nodes surroundings seen this.number) other

  pub bits_told : (kept : List (Option NodeType)) (surroundings : List Surrounding) (handle : ℕ) → handle < end_of unit → kind_at nodes handle ≢ kinds.Name
      → kept ≡ map node_kept list
      → bits_folded (folded_answer (sized_constant_at unit table kept handle)) ≡ bits_of (constant_of_node aggregates nodes surroundings seen handle)
  bits_told kept surroundings handle within other same =
      answered (sized_constant_at unit table kept handle)
      ∙ ap (λ l. bits_of (sized_constant_at unit table l handle)) same
      ∙ ap bits_of (elim ((slice_get_cases unit.nodes (handle - unit.first)).1) [
        | inl found ↦ constant_told surroundings handle found.0 (omega (arith, whole), found.2) other
        | inr past ↦ absurd (omega (arith, within, past.0))
      ])

-- Its number is one of its kind
pub whole_constant_fits : (table : TypeTable) (list : List NodeFact) (aggregates : KnownAggregates) (nodes : UnitNodes) (surroundings : List Surrounding) (handle : ℕ)
    → kind_at nodes handle ≢ kinds.Name → FitsItsKind (constant_of_node aggregates nodes surroundings (nodes_seen table list) handle)
whole_constant_fits table list aggregates nodes surroundings handle other =
    let seen = nodes_seen table list in
    let this = node_at nodes handle in
    let offset = offset_at aggregates.told (members_named aggregates.told aggregates.names) nodes seen handle in
    subst FitsItsKind
    (apart (sizes_by aggregates.told) this.kind this.number (map (λ child. part_seen (fact_at seen child)) (children_at nodes handle)) offset None
    (enumerator_part nodes surroundings seen this.number) other)
    (node_constants_fit (sizes_by aggregates.told) (facts_by seen this.kind this.number this.children offset) (all-fit table list (children_at nodes handle)) (none-fits table))

-- What the row of a node gives has the kind of its constant

module _ (aggregates : KnownAggregates) (nodes : UnitNodes) (surroundings : List Surrounding) (facts : List Fact) (handle : ℕ) (enumerator : Option Part) (offset : Option ℕ) where
  abbrev sizes : Sizes
  sizes = sizes_by aggregates.told

  abbrev constant : NodeKind → Option Constant
  constant kind = folded sizes (fold_of kind) (facts_with nodes facts handle enumerator offset)

  operator_has : (kind : NodeKind) → HasKindOf (whole_operation_row aggregates nodes facts handle (operation_of kind)).fact (constant kind)
  operator_has kinds.PostIncrement = none_has _
  operator_has kinds.PostDecrement = none_has _
  operator_has kinds.PreIncrement = none_has _
  operator_has kinds.PreDecrement = none_has _
  operator_has kinds.MultiplicationAssignment = none_has _
  operator_has kinds.DivisionAssignment = none_has _
  operator_has kinds.RemainderAssignment = none_has _
  operator_has kinds.AdditionAssignment = none_has _
  operator_has kinds.SubtractionAssignment = none_has _
  operator_has kinds.LeftShiftAssignment = none_has _
  operator_has kinds.RightShiftAssignment = none_has _
  operator_has kinds.BitwiseAndAssignment = none_has _
  operator_has kinds.BitwiseExclusiveOrAssignment = none_has _
  operator_has kinds.BitwiseOrAssignment = none_has _
  operator_has kind = by_kind aggregates.told sizes nodes facts handle enumerator offset kind

  -- in parentheses
  own_has : (fact : Fact) → HasKindOf fact (with_part (part_seen fact) own_constant)
  own_has (Expression expression) =
      kind_has (Expression expression) (loaded_type expression.width expression.type_) _
      (λ kind is. number_has (Expression expression) expression.constant _ (λ number. is))
  own_has fact = tt

  -- of an offset
  led_has : (broken : List Broken) (test : Bool) → HasKindOf (unless_broken broken (if test then a_size else Unknown)) (size_constant offset)
  led_has broken true = size_known offset broken
  led_has broken false = unless_has broken Unknown (size_constant offset) tt

  walk_has : (token : ℕ) (walk : Walk) → HasKindOf (offset_by token walk).fact (size_constant offset)
  walk_has token walk = led_has (walk.broken ++ field_broken token walk.reached) (is_led walk.reached)

  offset_has : (token : ℕ) (name : List ℕ) (fact : Fact) (steps : List OffsetStep) → HasKindOf (offset_row aggregates token name fact steps).fact (size_constant offset)
  offset_has token name (NamedType type_) steps =
      walk_has token
      (walk_from aggregates (ToMember token name ∷ steps) (Some (record { of = type_; width = None; bytes = Some 0; is_known = true })))
  offset_has token name fact steps = tt

  pub row_has : (kind : NodeKind) → kind ≢ kinds.Name → HasKindOf (whole_row_of aggregates nodes surroundings facts handle kind).fact (constant kind)
  row_has kinds.Name other = absurd (other refl)
  row_has (kinds.IntegerConstant kind) other = refl
  row_has (kinds.CharacterConstant kind) other = refl
  row_has kinds.Parenthesized other = one facts (length nodes) own_constant (λ fact. known fact) (node_at nodes handle).children own_has
  row_has kinds.BuiltinOffsetof other = offset_has (token_at nodes handle) (node_at nodes handle).name (part_fact nodes facts handle 0) (steps_of nodes facts (children_from nodes handle 1))
  row_has kinds.StringLiteral other = tt
  row_has kinds.Member other = none_has _
  row_has kinds.PointerMember other = none_has _
  row_has kinds.Subscript other = none_has _
  row_has kinds.Call other = none_has _
  row_has kinds.Address other = none_has _
  row_has kinds.Indirection other = none_has _
  row_has kinds.Assignment other = none_has _
  row_has kinds.Specifiers other = none_has _
  row_has kinds.StructSpecifier other = none_has _
  row_has kinds.UnionSpecifier other = none_has _
  row_has kinds.EnumSpecifier other = none_has _
  row_has kinds.Enumerator other = none_has _
  row_has kinds.BitFieldWidth other = none_has _
  row_has kinds.Declarator other = none_has _
  row_has kinds.ArrayDeclarator other = tt
  row_has kinds.FunctionDeclarator other = tt
  row_has kinds.Parameter other = none_has _
  row_has kinds.TypedefName other = none_has _
  row_has kinds.TypeName other = none_has _
  row_has kinds.TypeofType other = none_has _
  row_has kinds.TypeofExpression other = none_has _
  row_has kinds.StaticAssertion other = none_has _
  row_has kinds.TranslationUnit other = tt
  row_has kinds.ReturnStatement other = none_has _
  row_has kind other = operator_has kind
