-- What is told of refusals, how nodes stand, and what is kept of a declarator.
use Rattle.std.proofs.Common.{◌≡◌, ℕ, zero, suc, ◌-◌, ◌<◌, ◌≤◌, Bool, true, false, List, [], ◌∷◌, All, Option, Some, None, map, option_map, slice_get, if◌then◌else◌, refl, sym, ap, subst, ◌∙◌, arith, append-nil}
use Rattle.std.proofs.lemmas.List.Elements.{All-nil, All-weaker}
use Rattle.std.proofs.lemmas.Option.{none-some, same_Some}
use Rattle.sparse_model.specs.declared.failure.Failure.{Failure}
use Rattle.sparse_model.specs.declared.ids.NameId.{NameId}
use Rattle.meaning_rules.specs.Rules.{least_broken, lesser}
use Rattle.meaning_tree.specs.Nodes.{ChildrenStandBefore, HasNode, NodeList, TreeNode}
use Rattle.meaning_types.specs.Types.{TypeTree}
use Rattle.meaning_typing.specs.Facts.{Fact}
use Rattle.meaning_typing.specs.Surroundings.{Surrounding}
use Rattle.meaning_typing.specs.Units.{UnitNodes, unit_list}
use Rattle.meaning_initializers.specs.Plans.{Refusal}
use Rattle.meaning_initializers.specs.Reading.{is_told_before, lesser_refusal, refusal_told}
use Rattle.meaning_initialized.specs.Rows.{completed_otherwise, refused_so}
use Rattle.c_types.specs.Table.{TypeTable}
use Rattle.decl_judge.specs.Units.{named_node, nodes_of}
use Rattle.expr_judge.specs.Parts.{declaration_in}
use Rattle.expression_rows.specs.Arguments.{Appends}
use Rattle.expression_rows.specs.Rows.{IsKnownFailure}
use Rattle.init_judge.specs.Said.{broken_of}
use Rattle.node_facts.specs.declared.fact.NodeFact.{NodeFact}
use Rattle.node_facts.specs.declared.fact.NodeFact.TheVariants as kept
use Rattle.node_facts.specs.Facts.{node_seen}

-- Refusals

told_of : (refusal : Refusal) (other : Option Refusal) → Some (broken_of (lesser_refusal refusal other)) ≡ lesser (Some (broken_of refusal)) (option_map broken_of other)
told_of refusal None = refl
told_of refusal (Some other) = by (is_told_before other refusal)
  where
    by : (test : Bool) → Some (broken_of (if test then other else refusal)) ≡ (if test then Some (broken_of other) else Some (broken_of refusal))
    by true = refl
    by false = refl

-- of several one is told: the least that is broken
pub told_least : (refusals : List Refusal) → least_broken (refused_so refusals) ≡ option_map broken_of (refusal_told refusals)
told_least [] = refl
told_least (refusal ∷ refusals) = ap (lesser (Some (broken_of refusal))) (told_least refusals) ∙ sym (told_of refusal (refusal_told refusals))

-- Nodes

named-at : (nodes : List (TreeNode NameId)) (place : ℕ) (node : TreeNode (List ℕ)) → slice_get (map named_node nodes) place ≡ Some node
    → (own : TreeNode NameId) × (slice_get nodes place ≡ Some own) × (named_node own ≡ node)
named-at [] place node is = absurd (none-some node is)
named-at (first ∷ nodes) zero node is = (first, refl, same_Some _ _ is)
named-at (first ∷ nodes) (suc place) node is = named-at nodes place node is

pub order_named : (unit : NodeList NameId) → unit.first ≡ 0 → ChildrenStandBefore unit → ChildrenStandBefore (unit_list (nodes_of unit))
order_named unit whole order handle node has =
    let place : handle - unit.first ≡ handle = omega (arith, whole) in
    let found = named-at unit.nodes handle node (ap (slice_get (nodes_of unit)) (omega arith) ∙ has.1) in
    let own : HasNode unit handle found.0 = (omega (arith, whole), ap (slice_get unit.nodes) place ∙ found.1) in
    subst (λ (one : TreeNode (List ℕ)). All (λ child. (0 ≤ child.0) × (child.0 < handle)) one.children) found.2
    (All-weaker (λ (child : ℕ × ℕ). (unit.first ≤ child.0) × (child.0 < handle)) (λ child. (0 ≤ child.0) × (child.0 < handle))
    (λ child stands. (omega arith, stands.1)) found.0.children (order handle found.0 own))

-- Declarators

pub appends_none : (table : TypeTable) (found : List Failure) → Appends table found found []
appends_none table found = ([], sym (append-nil found), refl, All-nil (IsKnownFailure table))

module _ (table : TypeTable) (nodes : UnitNodes) (surroundings : List Surrounding) (known : List Fact) (declarator : ℕ) (complete : TypeTree) where
  -- where nothing is declared, nothing fails
  pub none_otherwise : (fact : NodeFact) → declaration_in fact ≡ None
      → completed_otherwise nodes surroundings known declarator complete (node_seen table fact) ≡ []
  none_otherwise kept.Unknown none = refl
  none_otherwise (kept.Expression expression) none = refl
  none_otherwise (kept.Specified said) none = refl
  none_otherwise (kept.Declared declaration) none = absurd (none-some declaration (sym none))
  none_otherwise (kept.NamedType of) none = refl
