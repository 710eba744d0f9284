-- Which function a node names, by what is known of the nodes before it.
use Rattle.std.proofs.Common.{◌≡◌, ℕ, zero, suc, ◌+◌, ◌<◌, ◌≤◌, ◌⊎◌, inl, inr, Bool, true, false, nat_lt, is_some, List, [], ◌∷◌, ◌++◌, Option, Some, None, option_map, map, length, get_or, slice_get, if◌then◌else◌, refl, sym, ap, subst, ◌∙◌, arith, All, length-append}
use Rattle.std.proofs.lemmas.Bool.{cases_lt, le-ltb, lt-ltb}
use Rattle.std.proofs.lemmas.List.{get_or_past, get_or_push, get_or-map, length-map}
use Rattle.std.proofs.lemmas.Option.{get_or_from_slice_get, slice_get-map, slice_get_cases}
use Rattle.vocabulary.specs.declared.node_kind.NodeKind.{NodeKind}
use Rattle.vocabulary.specs.declared.node_kind.NodeKind.TheVariants as kinds
use Rattle.sparse_model.specs.declared.ids.NameId.{NameId}
use Rattle.meaning_tree.specs.Nodes.{TreeNode, NodeList, HasNode, ChildrenStandBefore}
use Rattle.meaning_typing.specs.Units.{UnitNodes, no_node, node_at, kind_at, child_at}
use Rattle.meaning_typing.specs.ContextSums.{ContextSums}
use Rattle.meaning_typing.specs.Facts.{fact_at}
use Rattle.meaning_control.specs.Nodes.{JudgedUnit, NodeControl, nothing_there, control_at, control_of, controls_of, declares_function, named_by}
use Rattle.decl_judge.specs.Units.{named_node, nodes_of}
use Rattle.linear_code.specs.Changes.{changes, has_contexts, has_contexts_noted}
use Rattle.linear_code.specs.Known.{KnownFacts, function_note, function_of_kind, judged_unit, named_at, note_of}

-- Nodes

-- a node of some kind is there
pub kind-within : (nodes : UnitNodes) (handle : ℕ) → (kind_at nodes handle ≡ kinds.EmptyDeclaration → ⊥) → handle < length nodes
kind-within nodes handle other =
    elim (cases_lt handle (length nodes)) [
      | inl within ↦ within
      | inr past ↦ absurd (other (ap (λ (node : TreeNode (List ℕ)). node.kind) (get_or_past nodes handle no_node past)))
    ]

pub kind-past : (nodes : UnitNodes) (handle : ℕ) → length nodes ≤ handle → kind_at nodes handle ≡ kinds.EmptyDeclaration
kind-past nodes handle past = ap (λ (node : TreeNode (List ℕ)). node.kind) (get_or_past nodes handle no_node past)

-- a child stands before its parent, or isn't there
abbrev IsBeforeOrNone : UnitNodes → (parent child : ℕ) → Type 0
IsBeforeOrNone nodes parent child = (child < parent) ⊎ (length nodes ≤ child)

child-of : (nodes : UnitNodes) (children : List (ℕ × ℕ)) (parent place : ℕ) → All (λ child. child.0 < parent) children
    → IsBeforeOrNone nodes parent (get_or (map (λ child. child.0) children) place (length nodes))
child-of nodes children parent place before =
    elim (cases_lt place (length children)) [
      | inl within ↦
          inl
          (subst (λ (k : ℕ). k < parent) (sym (get_or-map (λ (child : ℕ × ℕ). child.0) children place (0, 0) (length nodes) within)) (before place (0, 0) within))
      | inr past ↦
          inr
          (subst (λ (k : ℕ). length nodes ≤ k)
          (sym (get_or_past (map (λ (child : ℕ × ℕ). child.0) children) place (length nodes) (omega (arith, past, length-map children (λ (child : ℕ × ℕ). child.0)))))
          (omega arith))
    ]

pub child-before : (unit : NodeList NameId) → unit.first ≡ 0 → ChildrenStandBefore unit → (parent place : ℕ)
    → IsBeforeOrNone (nodes_of unit) parent (child_at (nodes_of unit) parent place)
child-before unit whole order parent place =
    elim (slice_get_cases unit.nodes parent).1 [
      | inl found ↦
          let has : HasNode unit parent found.0 = (omega (arith, whole), ap (slice_get unit.nodes) (omega (arith, whole)) ∙ found.2) in
          let is : node_at (nodes_of unit) parent ≡ named_node found.0 =
          get_or_from_slice_get (nodes_of unit) parent (named_node found.0) no_node (slice_get-map named_node unit.nodes parent ∙ ap (option_map named_node) found.2)
          in
          subst (λ (node : TreeNode (List ℕ)). IsBeforeOrNone (nodes_of unit) parent (get_or (map (λ child. child.0) node.children) place (length (nodes_of unit)))) (sym is)
          (child-of (nodes_of unit) found.0.children parent place (λ k d within. (order parent found.0 has k d within).1))
      | inr past ↦
          let is : node_at (nodes_of unit) parent ≡ no_node =
          get_or_past (nodes_of unit) parent no_node (omega (arith, past.0, length-map unit.nodes named_node)) in
          subst (λ (node : TreeNode (List ℕ)). IsBeforeOrNone (nodes_of unit) parent (get_or (map (λ child. child.0) node.children) place (length (nodes_of unit)))) (sym is)
          (inr (omega arith))
    ]

-- What is known of nodes

-- an element stays where one more joins the list
get_or-more : {X : Type 0} (xs : List X) (x d : X) (k : ℕ) → k < length xs → get_or (xs ++ x ∷ []) k d ≡ get_or xs k d
get_or-more [] x d k within = absurd (omega (arith, within))
get_or-more (first ∷ xs) x d zero within = refl
get_or-more (first ∷ xs) x d (suc k) within = get_or-more xs x d k (omega (arith, within))

this_or_before : (handle count : ℕ) → handle < suc count → (handle ≡ count) ⊎ (handle < count)
this_or_before handle count below = grind (arith, below)

module _ (unit : JudgedUnit) where
  counted : (count : ℕ) → length (controls_of unit count) ≡ count
  counted zero = refl
  counted (suc count) = omega (arith, length-append (controls_of unit count) (control_of unit (controls_of unit count) count ∷ []), counted count)

  -- what a node is stays where more are known
  pub control-later : (count handle : ℕ) → handle < count → control_at (controls_of unit count) handle ≡ control_of unit (controls_of unit handle) handle
  control-later zero handle below = absurd (omega (arith, below))
  control-later (suc count) handle below =
      elim (this_or_before handle count below) [
        | inl same ↦
            get_or_push (controls_of unit count) (control_of unit (controls_of unit count) count) nothing_there handle (omega (arith, counted count, same))
            ∙ ap (λ (k : ℕ). control_of unit (controls_of unit k) k) (sym same)
        | inr before ↦
            get_or-more (controls_of unit count) (control_of unit (controls_of unit count) count) nothing_there handle (omega (arith, counted count, before))
            ∙ control-later count handle before
      ]

  pub no-control : (count handle : ℕ) → count ≤ handle → control_at (controls_of unit count) handle ≡ nothing_there
  no-control count handle past = get_or_past (controls_of unit count) handle nothing_there (omega (arith, counted count, past))

  -- what a node names, over those before it
  pub named-row : (handle : ℕ) → named_at unit handle ≡ named_by unit (controls_of unit handle) handle (kind_at unit.nodes handle)
  named-row handle =
      elim (cases_lt handle (length unit.nodes)) [
        | inl within ↦ ap (λ (control : NodeControl). control.names) (control-later (length unit.nodes) handle within)
        | inr past ↦
            ap (λ (control : NodeControl). control.names) (no-control (length unit.nodes) handle past)
            ∙ ap (named_by unit (controls_of unit handle) handle) (sym (kind-past unit.nodes handle past))
      ]

  -- and over some more
  pub named-over : (count handle : ℕ) → count ≤ length unit.nodes → (handle < count) ⊎ (length unit.nodes ≤ handle)
      → (control_at (controls_of unit count) handle).names ≡ named_at unit handle
  named-over count handle few (inl below) =
      ap (λ (control : NodeControl). control.names)
      (control-later count handle below ∙ sym (control-later (length unit.nodes) handle (omega (arith, few, below))))
  named-over count handle few (inr past) =
      ap (λ (control : NodeControl). control.names) (no-control count handle (omega (arith, few, past)) ∙ sym (no-control (length unit.nodes) handle past))

  -- parentheses name what stands in them
  pub named-inside : (handle : ℕ) → (child_at unit.nodes handle 0 < handle) ⊎ (length unit.nodes ≤ child_at unit.nodes handle 0)
      → kind_at unit.nodes handle ≡ kinds.Parenthesized → named_at unit handle ≡ named_at unit (child_at unit.nodes handle 0)
  named-inside handle child is =
      let within : handle < length unit.nodes = kind-within unit.nodes handle (λ empty. cc (sym is ∙ empty)) in
      named-row handle ∙ ap (named_by unit (controls_of unit handle) handle) is
      ∙ named-over handle (child_at unit.nodes handle 0) (omega (arith, within)) child

-- Functions

note-if : (known : KnownFacts) (number : ℕ) (test : Bool)
    → option_map (function_note known) (if test then Some number else None) ≡ (if test then Some (function_note known number) else None)
note-if known number true = refl
note-if known number false = refl

noted : (known : KnownFacts) (unit : NodeList NameId) (controls : List NodeControl) (handle : ℕ) (kind : NodeKind) → (kind ≡ kinds.Parenthesized → ⊥)
    → option_map (function_note known) (named_by (judged_unit unit known) controls handle kind) ≡ function_of_kind known (nodes_of unit) handle kind
noted known unit controls handle kinds.Name other =
    note-if known (node_at (nodes_of unit) handle).number (declares_function (fact_at known.facts (node_at (nodes_of unit) handle).number))
noted known unit controls handle kinds.Parenthesized other = absurd (other refl)
noted known unit controls handle kind other = refl

pub named-note : (known : KnownFacts) (unit : NodeList NameId) (handle : ℕ) → (kind_at (nodes_of unit) handle ≡ kinds.Parenthesized → ⊥)
    → function_of_kind known (nodes_of unit) handle (kind_at (nodes_of unit) handle) ≡ option_map (function_note known) (named_at (judged_unit unit known) handle)
named-note known unit handle other =
    sym (ap (option_map (function_note known)) (named-row (judged_unit unit known) handle)
    ∙ noted known unit (controls_of (judged_unit unit known) handle) handle (kind_at (nodes_of unit) handle) other)

-- Contexts

some-mapped : (sums : Option ContextSums) → is_some (option_map note_of sums) ≡ is_some sums
some-mapped None = refl
some-mapped (Some sums) = refl

contexts-noted : (known : KnownFacts) (unit : NodeList NameId) (names : Option ℕ)
    → has_contexts_noted (option_map (function_note known) names) ≡ has_contexts (judged_unit unit known) names
contexts-noted known unit None = refl
contexts-noted known unit (Some function) = some-mapped (known.contexts function)

-- a call changes counts where the function that it names has contexts
pub call-changes : (known : KnownFacts) (unit : NodeList NameId) (handle : ℕ) → unit.first ≡ 0 → ChildrenStandBefore unit
    → kind_at (nodes_of unit) handle ≡ kinds.Call
    → has_contexts_noted (option_map (function_note known) (named_at (judged_unit unit known) (child_at (nodes_of unit) handle 0)))
    ≡ changes (judged_unit unit known) handle (kind_at (nodes_of unit) handle)
call-changes known unit handle whole order is =
    let within : handle < length (nodes_of unit) = kind-within (nodes_of unit) handle (λ empty. cc (sym is ∙ empty)) in
    contexts-noted known unit (named_at (judged_unit unit known) (child_at (nodes_of unit) handle 0))
    ∙ ap (has_contexts (judged_unit unit known))
    (sym (named-over (judged_unit unit known) handle (child_at (nodes_of unit) handle 0) (omega (arith, within)) (child-before unit whole order handle 0)))
    ∙ ap (changes (judged_unit unit known) handle) (sym is)

-- How deep parentheses may still be

abbrev pub depth : (count handle : ℕ) → ℕ
depth count handle = if nat_lt handle count then handle + 1 else 0

pub depth-falls : (count handle child : ℕ) → handle < count → (child < handle) ⊎ (count ≤ child) → depth count child < depth count handle
depth-falls count handle child within (inl before) =
    by (nat_lt child count) (nat_lt handle count) (lt-ltb child count (omega (arith, within, before))) (lt-ltb handle count within)
  where
    by : (one other : Bool) → one ≡ true → other ≡ true → (if one then child + 1 else 0) < (if other then handle + 1 else 0)
    by true true is same = omega (arith, before)
    by false other is same = absurd (cc is)
    by one false is same = absurd (cc same)
depth-falls count handle child within (inr past) =
    by (nat_lt child count) (nat_lt handle count) (le-ltb child count past) (lt-ltb handle count within)
  where
    by : (one other : Bool) → one ≡ false → other ≡ true → (if one then child + 1 else 0) < (if other then handle + 1 else 0)
    by false true is same = omega arith
    by true other is same = absurd (cc is)
    by one false is same = absurd (cc same)
