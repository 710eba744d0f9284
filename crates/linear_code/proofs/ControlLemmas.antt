-- What a node is to control, by what all nodes of its unit are.
use Rattle.std.proofs.Common.{◌≡◌, ℕ, suc, ◌+◌, ◌<◌, ◌≤◌, ◌⊎◌, inl, inr, All, Bool, true, false, ◌||◌, nat_eq, nat_lt, is_some, List, [], ◌∷◌, Option, Some, None, option_map, map, length, slice_get, if◌then◌else◌, refl, sym, ap, ap₂, subst, ◌∙◌, arith}
use Rattle.std.proofs.lemmas.Bool.{cases_lt, lt-ltb, ltb-true}
use Rattle.std.proofs.lemmas.List.{get_or_past, length-map}
use Rattle.std.proofs.lemmas.Option.{get_or_from_slice_get, slice_get-map, slice_get_cases}
use Rattle.vocabulary.specs.declared.node_kind.NodeKind.{NodeKind}
use Rattle.vocabulary.specs.declared.node_kind.NodeKind.TheVariants as kinds
use Rattle.sparse_model.specs.declared.ids.NameId.{NameId}
use Rattle.meaning_tree.specs.Nodes.{TreeNode, NodeList, HasNode, ChildrenStandBefore}
use Rattle.meaning_typing.specs.ContextSums.{ContextSums}
use Rattle.meaning_typing.specs.Evaluation.{evaluated_among, evaluated_of}
use Rattle.meaning_typing.specs.Units.{UnitNodes, no_node, node_at, kind_at, children_at}
use Rattle.meaning_control.specs.Kinds.{Calling, Sequence}
use Rattle.meaning_control.specs.Nodes.{JudgedUnit, NodeControl, nothing_there, arranged, call_steps, called, control_at, control_kind, control_node, control_where, controls_of, either_way, nodes_of as nodes_in, parts_where, passed_of, tests, unknown_value}
use Rattle.meaning_control.specs.Functions.{body_of, statement_of}
use Rattle.meaning_control.specs.States.{ControlNode, kind_of, parts_of, token_at}
use Rattle.meaning_control.specs.laws.Changes.{AreAmong}
use Rattle.decl_judge.specs.Units.{named_node}
use Rattle.linear_code.specs.Cells.{controls_in, node_where}
use Rattle.linear_code.specs.Kinds.{called_noted}
use Rattle.linear_code.specs.Known.{KnownFacts, function_note, judged_unit, note_of}
use Rattle.linear_code.proofs.NameLemmas.{control-later, kind-past, kind-within, no-control}
use Rattle.linear_code.proofs.QuietLemmas.{evaluated-of-in, get-in, passed-in}

first-of : (one other : Bool) → one ≡ true → (one || other) ≡ true
first-of true other is = refl
first-of false other is = absurd (cc is)

last-of : (one other : Bool) → other ≡ true → (one || other) ≡ true
last-of true other is = refl
last-of false other is = is

either-of : (one other : Bool) → (one || other) ≡ true → (one ≡ true) ⊎ (other ≡ true)
either-of true other is = inl refl
either-of false other is = inr is

module _ (list : NodeList NameId) (known : KnownFacts) (whole : list.first ≡ 0) (order : ChildrenStandBefore list) where
  abbrev unit : JudgedUnit
  unit = judged_unit list known

  -- Which nodes stand before one

  -- a handle below this one, or one that no node has
  abbrev is_before : (bound : ℕ) → ℕ → Bool
  is_before bound k = nat_lt k bound || nat_lt (length unit.nodes) (k + 1)

  below-before : (bound k : ℕ) → k < bound → is_before bound k ≡ true
  below-before bound k below = first-of (nat_lt k bound) (nat_lt (length unit.nodes) (k + 1)) (lt-ltb k bound below)

  past-before : (bound k : ℕ) → length unit.nodes ≤ k → is_before bound k ≡ true
  past-before bound k past = last-of (nat_lt k bound) (nat_lt (length unit.nodes) (k + 1)) (lt-ltb (length unit.nodes) (k + 1) (omega (arith, past)))

  before-is : (bound k : ℕ) → is_before bound k ≡ true → (k < bound) ⊎ (length unit.nodes ≤ k)
  before-is bound k is =
      elim (either-of (nat_lt k bound) (nat_lt (length unit.nodes) (k + 1)) is) [
        | inl below ↦ inl (ltb-true k bound below)
        | inr past ↦ inr (omega (arith, ltb-true (length unit.nodes) (k + 1) past))
      ]

  all-before : (bound handle : ℕ) (children : List (ℕ × ℕ)) → handle ≤ bound → All (λ child. (list.first ≤ child.0) × (child.0 < handle)) children
      → AreAmong (is_before bound) (map (λ child. child.0) children)
  all-before bound handle [] within before = tt
  all-before bound handle (child ∷ children) within before = (
    below-before bound child.0 (omega (arith, within, (before 0 child (omega arith)).1)),
    all-before bound handle children within (λ k default below. before (suc k) default (omega (arith, below))),
  )

  no-children : (bound handle : ℕ) → length unit.nodes ≤ handle → AreAmong (is_before bound) (children_at unit.nodes handle)
  no-children bound handle past =
      subst (λ (node : TreeNode (List ℕ)). AreAmong (is_before bound) (map (λ child. child.0) node.children)) (sym (get_or_past unit.nodes handle no_node past)) tt

  children-before : (bound handle : ℕ) → handle ≤ bound → AreAmong (is_before bound) (children_at unit.nodes handle)
  children-before bound handle within =
      elim (slice_get_cases list.nodes handle).1 [
        | inl found ↦
            let has : HasNode list handle found.0 = (omega (arith, whole), ap (slice_get list.nodes) (omega (arith, whole)) ∙ found.2) in
            let is : node_at unit.nodes handle ≡ named_node found.0 =
            get_or_from_slice_get unit.nodes handle (named_node found.0) no_node (slice_get-map named_node list.nodes handle ∙ ap (option_map named_node) found.2)
            in
            subst (λ (node : TreeNode (List ℕ)). AreAmong (is_before bound) (map (λ child. child.0) node.children)) (sym is)
            (all-before bound handle found.0.children within (order handle found.0 has))
        | inr past ↦ no-children bound handle (omega (arith, past.0, length-map list.nodes named_node))
      ]

  closed-before : (bound handle : ℕ) → is_before bound handle ≡ true → AreAmong (is_before bound) (children_at unit.nodes handle)
  closed-before bound handle is =
      elim (before-is bound handle is) [
        | inl below ↦ children-before bound handle (omega (arith, below))
        | inr past ↦ no-children bound handle past
      ]

  -- what control passes of a node does
  passed-before : (handle : ℕ) → AreAmong (is_before handle) (passed_of unit handle (kind_at unit.nodes handle))
  passed-before handle =
      passed-in unit (is_before handle) (past-before handle) (closed-before handle) handle (kind_at unit.nodes handle)
      (children-before handle handle (omega arith))

  -- What is known of those before a node is known of all

  control-same : (count handle : ℕ) → count ≤ length unit.nodes → is_before count handle ≡ true
      → control_at (controls_of unit count) handle ≡ control_at (controls_in unit) handle
  control-same count handle few is =
      elim (before-is count handle is) [
        | inl below ↦
            control-later unit count handle below ∙ sym (control-later unit (length unit.nodes) handle (omega (arith, few, below)))
        | inr past ↦
            no-control unit count handle (omega (arith, few, past)) ∙ sym (no-control unit (length unit.nodes) handle past)
      ]

  parts-same : (count : ℕ) → count ≤ length unit.nodes → (kind : NodeKind) (is_tested : Bool) (place : ℕ) (parts : List ℕ) → AreAmong (is_before count) parts
      → parts_where (controls_of unit count) kind is_tested place parts ≡ parts_where (controls_in unit) kind is_tested place parts
  parts-same count few kind is_tested place [] among = refl
  parts-same count few kind is_tested place (part ∷ parts) among =
      ap₂ (λ control (others : List ControlNode). control_where control (tests kind is_tested place (nat_eq (length parts) 0)) ∷ others)
      (control-same count part few among.0) (parts-same count few kind is_tested (place + 1) parts among.1)

  -- A node

  node-is : (handle : ℕ) (is_tested : Bool) → handle < length unit.nodes
      → node_where unit handle is_tested ≡ control_node unit (controls_of unit handle) handle is_tested (kind_at unit.nodes handle)
  node-is handle true within = ap (λ (control : NodeControl). control.tested) (control-later unit (length unit.nodes) handle within)
  node-is handle false within = ap (λ (control : NodeControl). control.plain) (control-later unit (length unit.nodes) handle within)

  no-node-is : (handle : ℕ) (is_tested : Bool) → length unit.nodes ≤ handle → node_where unit handle is_tested ≡ nothing_there.plain
  no-node-is handle true past = ap (λ (control : NodeControl). control.tested) (no-control unit (length unit.nodes) handle past)
  no-node-is handle false past = ap (λ (control : NodeControl). control.plain) (no-control unit (length unit.nodes) handle past)

  pub kind-is : (handle : ℕ) (is_tested : Bool) → handle < length unit.nodes
      → kind_of (node_where unit handle is_tested) ≡ control_kind unit (controls_of unit handle) handle is_tested (kind_at unit.nodes handle)
  kind-is handle is_tested within = ap kind_of (node-is handle is_tested within)

  pub no-kind-is : (handle : ℕ) (is_tested : Bool) → length unit.nodes ≤ handle → kind_of (node_where unit handle is_tested) ≡ Sequence
  no-kind-is handle is_tested past = ap kind_of (no-node-is handle is_tested past)

  pub token-is : (handle : ℕ) (is_tested : Bool) → token_at (node_where unit handle is_tested) ≡ (node_at unit.nodes handle).token
  token-is handle is_tested =
      elim (cases_lt handle (length unit.nodes)) [
        | inl within ↦ ap token_at (node-is handle is_tested within)
        | inr past ↦ ap token_at (no-node-is handle is_tested past) ∙ sym (ap (λ (node : TreeNode (List ℕ)). node.token) (get_or_past unit.nodes handle no_node past))
      ]

  -- what isn't there has no parts
  none-passed : (handle : ℕ) → length unit.nodes ≤ handle → passed_of unit handle (kind_at unit.nodes handle) ≡ []
  none-passed handle past =
      ap (passed_of unit handle) (kind-past unit.nodes handle past)
      ∙ ap (evaluated_of unit.nodes unit.facts handle) (kind-past unit.nodes handle past)
      ∙ ap (λ (node : TreeNode (List ℕ)). evaluated_among node.children) (get_or_past unit.nodes handle no_node past)

  abbrev all_parts : (handle : ℕ) → (is_tested : Bool) → NodeKind → (passed : List ℕ) → List ControlNode
  all_parts handle is_tested kind passed = arranged kind is_tested (parts_where (controls_in unit) kind is_tested 0 passed)

  pub parts-are : (handle : ℕ) (is_tested : Bool)
      → parts_of (node_where unit handle is_tested)
      ≡ nodes_in (all_parts handle is_tested (kind_at unit.nodes handle) (passed_of unit handle (kind_at unit.nodes handle)))
  parts-are handle is_tested =
      elim (cases_lt handle (length unit.nodes)) [
        | inl within ↦
            ap parts_of (node-is handle is_tested within)
            ∙ ap (λ parts. nodes_in (arranged (kind_at unit.nodes handle) is_tested parts))
            (parts-same handle (omega (arith, within)) (kind_at unit.nodes handle) is_tested 0 (passed_of unit handle (kind_at unit.nodes handle)) (passed-before handle))
        | inr past ↦
            ap parts_of (no-node-is handle is_tested past)
            ∙ sym (ap₂ (λ kind passed. nodes_in (all_parts handle is_tested kind passed)) (kind-past unit.nodes handle past) (none-passed handle past))
      ]

  -- The body of a function

  pub body-is : (function : ℕ) → kind_at unit.nodes function ≡ kinds.FunctionDefinition
      → parts_of (body_of unit function) ≡ parts_of (node_where unit (statement_of unit function) false)
  body-is function is =
      let within : function < length unit.nodes = kind-within unit.nodes function (λ empty. cc (sym is ∙ empty)) in
      let parts = evaluated-of-in unit (is_before function) (past-before function) (closed-before function) function (kind_at unit.nodes function)
      (children-before function function (omega arith))
      in
      ap (λ (control : NodeControl). parts_of control.plain)
      (control-same function (statement_of unit function) (omega (arith, within))
      (get-in unit (is_before function) (past-before function) (closed-before function) (evaluated_of unit.nodes unit.facts function (kind_at unit.nodes function)) 0
      (length unit.nodes) parts (past-before function (length unit.nodes) (omega arith))))

-- Calls

-- a call is there
pub call-within : (nodes : UnitNodes) (handle : ℕ) → kind_at nodes handle ≡ kinds.Call → handle < length nodes
call-within nodes handle is = kind-within nodes handle (λ empty. cc (sym is ∙ empty))

called-so : (token : ℕ) (is_tested noreturn : Bool) (sums : Option ContextSums)
    → called_noted token is_tested (Some (record { contexts = option_map note_of sums; is_noreturn = noreturn }))
    ≡ (if noreturn then Calling (call_steps token sums) []
    else (if is_some sums then Calling (call_steps token sums) (either_way is_tested) else unknown_value is_tested))
called-so token is_tested noreturn None = refl
called-so token is_tested noreturn (Some sums) = refl

pub called-is : (list : NodeList NameId) (known : KnownFacts) (token : ℕ) (is_tested : Bool) (names : Option ℕ)
    → called_noted token is_tested (option_map (function_note known) names) ≡ called (judged_unit list known) token is_tested names
called-is list known token is_tested None = refl
called-is list known token is_tested (Some function) = called-so token is_tested (known.is_noreturn function) (known.contexts function)
