-- Which nodes `whole_judge` answers, and what parts of a unit stand before.
use Rattle.std.proofs.Common.{◌≡◌, ◌≢◌, ℕ, zero, suc, ◌<◌, ◌≤◌, false, true≢false, List, [], ◌∷◌, All, map, length, slice_get, inl, inr, refl, sym, ap, subst, ◌∙◌, arith}
use Rattle.std.proofs.lemmas.List.Elements.{All-cons, All-head, All-nil, All-tail}
use Rattle.std.proofs.lemmas.Option.{slice_get_cases}
use Rattle.vocabulary.specs.declared.node_kind.NodeKind.{NodeKind}
use Rattle.vocabulary.specs.declared.node_kind.NodeKind.TheVariants as kinds
use Rattle.sparse_model.specs.declared.ids.NameId.{NameId}
use Rattle.meaning_tree.specs.Nodes.{ChildrenStandBefore, HasNode, NodeList, TreeNode}
use Rattle.meaning_typing.specs.EnumRows.{is_enumerator}
use Rattle.meaning_typing.specs.Units.{UnitNodes, kind_at, no_node, node_at}
use Rattle.decl_judge.specs.Units.{nodes_of}
use Rattle.expr_judge.proofs.NodeLemmas.{children-are, length-nodes}
use Rattle.specifier_judge.specs.Kinds.{is_of_specifiers}
use Rattle.whole_judge.specs.Kinds.{is_of_unit}
use Rattle.node_judge.specs.Bodies.{PartsStandBefore}
use Rattle.node_judge.specs.Rows.{is_of_facts}

-- all that no other rows answer
pub not_of_unit : (kind : NodeKind) → is_of_specifiers kind ≡ false → kind ≢ kinds.Declarator → kind ≢ kinds.TranslationUnit → is_of_facts kind ≡ false
    → is_of_unit kind ≡ false
not_of_unit kinds.Specifiers specifies declares ends facts = absurd (true≢false specifies)
not_of_unit kinds.StructSpecifier specifies declares ends facts = absurd (true≢false specifies)
not_of_unit kinds.UnionSpecifier specifies declares ends facts = absurd (true≢false specifies)
not_of_unit kinds.EnumSpecifier specifies declares ends facts = absurd (true≢false specifies)
not_of_unit kinds.Enumerator specifies declares ends facts = absurd (true≢false specifies)
not_of_unit kinds.TypedefName specifies declares ends facts = absurd (true≢false specifies)
not_of_unit kinds.TypeofType specifies declares ends facts = absurd (true≢false specifies)
not_of_unit kinds.TypeofExpression specifies declares ends facts = absurd (true≢false specifies)
not_of_unit kinds.TypeName specifies declares ends facts = absurd (true≢false specifies)
not_of_unit kinds.Declarator specifies declares ends facts = absurd (declares refl)
not_of_unit kinds.TranslationUnit specifies declares ends facts = absurd (ends refl)
not_of_unit kinds.ArrayDeclarator specifies declares ends facts = absurd (true≢false facts)
not_of_unit kinds.FunctionDeclarator specifies declares ends facts = absurd (true≢false facts)
not_of_unit kinds.Parameter specifies declares ends facts = absurd (true≢false facts)
not_of_unit kinds.BitFieldWidth specifies declares ends facts = absurd (true≢false facts)
not_of_unit kinds.StaticAssertion specifies declares ends facts = absurd (true≢false facts)
not_of_unit kinds.ReturnStatement specifies declares ends facts = absurd (true≢false facts)
not_of_unit kind specifies declares ends facts = refl

-- one of these is there
pub not_of_facts : (kind : NodeKind) → kind ≢ kinds.ArrayDeclarator → kind ≢ kinds.FunctionDeclarator → kind ≢ kinds.Parameter
    → kind ≢ kinds.BitFieldWidth → kind ≢ kinds.StaticAssertion → kind ≢ kinds.ReturnStatement → is_of_facts kind ≡ false
not_of_facts kinds.ArrayDeclarator array list parameter width assertion returns = absurd (array refl)
not_of_facts kinds.FunctionDeclarator array list parameter width assertion returns = absurd (list refl)
not_of_facts kinds.Parameter array list parameter width assertion returns = absurd (parameter refl)
not_of_facts kinds.BitFieldWidth array list parameter width assertion returns = absurd (width refl)
not_of_facts kinds.StaticAssertion array list parameter width assertion returns = absurd (assertion refl)
not_of_facts kinds.ReturnStatement array list parameter width assertion returns = absurd (returns refl)
not_of_facts kind array list parameter width assertion returns = refl

-- Parts

-- behind the nodes there is none
none_behind : (nodes : UnitNodes) (handle : ℕ) → length nodes ≤ handle → node_at nodes handle ≡ no_node
none_behind [] handle behind = refl
none_behind (node ∷ nodes) zero behind = absurd (omega (arith, behind))
none_behind (node ∷ nodes) (suc handle) behind = none_behind nodes handle (omega (arith, behind))

pub no_enumerator_behind : (nodes : UnitNodes) (handle : ℕ) → length nodes ≤ handle → false ≡ is_enumerator (kind_at nodes handle)
no_enumerator_behind nodes handle behind = ap (λ (node : TreeNode (List ℕ)). is_enumerator node.kind) (sym (none_behind nodes handle behind))

module _ (first handle : ℕ) where
  handles_before : (children : List (ℕ × ℕ)) → All (λ child. (first ≤ child.0) × (child.0 < handle)) children
      → All (λ child. child < handle) (map (λ child. child.0) children)
  handles_before [] all = All-nil (λ child. child < handle)
  handles_before (child ∷ children) all =
      All-cons (λ child. child < handle) child.0 (map (λ child. child.0) children)
      (All-head (λ (child : ℕ × ℕ). (first ≤ child.0) × (child.0 < handle)) child children all).1
      (handles_before children (All-tail (λ (child : ℕ × ℕ). (first ≤ child.0) × (child.0 < handle)) child children all))

pub parts_before : (unit : NodeList NameId) → unit.first ≡ 0 → ChildrenStandBefore unit → PartsStandBefore (nodes_of unit)
parts_before unit whole order handle =
    elim (slice_get_cases unit.nodes handle).1 [
      | inl found ↦
          let has : HasNode unit handle found.0 = (omega (arith, whole), ap (slice_get unit.nodes) (omega (arith, whole)) ∙ found.2) in
          subst (All (λ child. child < handle)) (children-are unit whole handle found.0 has)
          (handles_before unit.first handle found.0.children (order handle found.0 has))
      | inr past ↦
          subst (λ (node : TreeNode (List ℕ)). All (λ child. child < handle) (map (λ child. child.0) node.children))
          (sym (none_behind (nodes_of unit) handle (omega (arith, past.0, length-nodes unit whole))))
          (All-nil (λ child. child < handle))
    ]
