-- The parts that control passes: told child by child they are those of the definition.
use Rattle.std.proofs.Common.{◌≡◌, ℕ, zero, suc, ◌<◌, inl, inr, Bool, true, false, ◌&&◌, ◌||◌, nat_eq, List, [], ◌∷◌, ◌++◌, Some, option_map, slice_get, if◌then◌else◌, refl, sym, ap, ap₂, ◌∙◌, arith}
use Rattle.std.specs.List.{filter, list_any}
use Rattle.std.proofs.lemmas.Bool.{eq-eqb, ne_eqb}
use Rattle.std.proofs.lemmas.List.{get_or_past, length-map}
use Rattle.std.proofs.lemmas.Option.{none-some, same_Some, get_or_from_slice_get, slice_get-map, slice_get_cases}
use Rattle.vocabulary.specs.declared.node_kind.NodeKind.{NodeKind}
use Rattle.vocabulary.specs.declared.node_kind.NodeKind.TheVariants as kinds
use Rattle.vocabulary.specs.Roles.{role_of}
use Rattle.sparse_model.specs.declared.ids.NameId.{NameId}
use Rattle.meaning_tree.specs.Nodes.{TreeNode, NodeList, HasNode, ChildrenStandBefore, end_of}
use Rattle.meaning_tree.specs.Laid.{IsChildAt, IsLaid}
use Rattle.meaning_typing.specs.Evaluation.{evaluated_among, evaluated_of, is_automatic}
use Rattle.meaning_typing.specs.Facts.{Fact, fact_at}
use Rattle.meaning_typing.specs.Surroundings.{evaluates}
use Rattle.meaning_typing.specs.Units.{UnitNodes, no_node, node_at, kind_at, child_at}
use Rattle.meaning_control.specs.Nodes.{initializer_first, initializer_or, initializers_of, passed_of}
use Rattle.decl_judge.specs.Units.{handles_of, named_node, nodes_of}
use Rattle.linear_code.specs.Known.{KnownFacts, judged_unit}
use Rattle.linear_code.specs.Passed.{KnowsLists, evaluated_so, initializers_waited, is_attribute_list, is_initializer, is_object, objects_among}
use Rattle.linear_code.proofs.RunLemmas.{child-below, child-is}

-- Objects

module _ (facts : List Fact) where
  abbrev automatic : ℕ → Bool
  automatic part = is_automatic (fact_at facts part)

  -- those among the parts that are evaluated
  pub objects-are : (children : List (ℕ × ℕ)) → filter automatic (evaluated_among children) ≡ objects_among facts children
  objects-are [] = refl
  objects-are (child ∷ children) = by (objects-are children) (evaluates (role_of child.1)) (automatic child.0) refl
    where
      by : filter automatic (evaluated_among children) ≡ objects_among facts children → (evaluated is : Bool) → is ≡ automatic child.0
          → filter automatic (if evaluated then child.0 ∷ evaluated_among children else evaluated_among children)
          ≡ (if evaluated && is then child.0 ∷ objects_among facts children else objects_among facts children)
      by rest true true same =
          ap (λ test. if test then child.0 ∷ filter automatic (evaluated_among children) else filter automatic (evaluated_among children)) (sym same)
          ∙ ap (λ others. child.0 ∷ others) rest
      by rest true false same =
          ap (λ test. if test then child.0 ∷ filter automatic (evaluated_among children) else filter automatic (evaluated_among children)) (sym same)
          ∙ rest
      by rest false is same = rest

  any-of : (one other : Bool) → one ≡ false → other ≡ false → (one || other) ≡ false
  any-of true other is also = absurd (cc is)
  any-of false other is also = also

  any-first : (one other : Bool) → one ≡ true → (one || other) ≡ true
  any-first true other is = refl
  any-first false other is = absurd (cc is)

  any-last : (one other : Bool) → other ≡ true → (one || other) ≡ true
  any-last true other is = refl
  any-last false other is = is

  -- a handle that no child has, or none that is an object, isn't among them
  not-among : (x : ℕ) (children : List (ℕ × ℕ))
      → ((k : ℕ) (child : ℕ × ℕ) → slice_get children k ≡ Some child → child.0 ≡ x → is_object facts child ≡ false)
      → list_any (nat_eq x) (objects_among facts children) ≡ false
  not-among x [] none = refl
  not-among x (first ∷ children) none = by (not-among x children (λ k child at. none (suc k) child at)) (is_object facts first) (none 0 first refl)
    where
      by : list_any (nat_eq x) (objects_among facts children) ≡ false → (is : Bool) → (first.0 ≡ x → is ≡ false)
          → list_any (nat_eq x) (if is then first.0 ∷ objects_among facts children else objects_among facts children) ≡ false
      by rest true other =
          any-of (nat_eq x first.0) (list_any (nat_eq x) (objects_among facts children)) (ne_eqb x first.0 (λ same. cc (other (sym same)))) rest
      by rest false other = rest

  -- and that of an object is
  is-among : (x : ℕ) (children : List (ℕ × ℕ)) (k : ℕ) (child : ℕ × ℕ) → slice_get children k ≡ Some child → child.0 ≡ x → is_object facts child ≡ true
      → list_any (nat_eq x) (objects_among facts children) ≡ true
  is-among x [] k child at same is = absurd (none-some child at)
  is-among x (first ∷ children) zero child at same is =
      by (is_object facts first) (ap (is_object facts) (same_Some first child at) ∙ is)
    where
      by : (one : Bool) → one ≡ true → list_any (nat_eq x) (if one then first.0 ∷ objects_among facts children else objects_among facts children) ≡ true
      by true given =
          any-first (nat_eq x first.0) (list_any (nat_eq x) (objects_among facts children))
          (eq-eqb x first.0 (sym (ap (λ (c : ℕ × ℕ). c.0) (same_Some first child at) ∙ same)))
      by false given = absurd (cc given)
  is-among x (first ∷ children) (suc k) child at same is = by (is-among x children k child at same is) (is_object facts first)
    where
      by : list_any (nat_eq x) (objects_among facts children) ≡ true → (one : Bool) → list_any (nat_eq x) (if one then first.0 ∷ objects_among facts children else objects_among facts children) ≡ true
      by rest true = any-last (nat_eq x first.0) (list_any (nat_eq x) (objects_among facts children)) rest
      by rest false = rest

  -- where no two children have one handle, a child is among them exactly where it is an object
  among-is : (all : List (ℕ × ℕ)) → ((j k : ℕ) (c d : ℕ × ℕ) → slice_get all j ≡ Some c → slice_get all k ≡ Some d → c.0 ≡ d.0 → c ≡ d)
      → (k : ℕ) (child : ℕ × ℕ) → slice_get all k ≡ Some child → list_any (nat_eq child.0) (objects_among facts all) ≡ is_object facts child
  among-is all apart k child at = by (is_object facts child) refl
    where
      by : (is : Bool) → is_object facts child ≡ is → list_any (nat_eq child.0) (objects_among facts all) ≡ is
      by true is = is-among child.0 all k child at refl is
      by false is = not-among child.0 all (λ j other has same. ap (is_object facts) (apart j k other child has at same) ∙ is)

-- Initializers

module _ (nodes : UnitNodes) (facts : List Fact) (lists : KnowsLists nodes facts) where
  -- those of the objects among children
  abbrev by_place : List (ℕ × ℕ) → List ℕ
  by_place [] = []
  by_place (child ∷ children) = (if is_object facts child then initializer_first nodes (handles_of children) else []) ++ by_place children

  one-waits : (kind : NodeKind) (waits is : Bool) (part : ℕ) (first rest : List ℕ) → (kind ≡ kinds.AttributeList → is ≡ false)
      → (if waits && is_initializer kind then part ∷ [] else []) ++ ((if is || (waits && is_attribute_list kind) then first else []) ++ rest)
      ≡ (if waits then initializer_or kind part first else []) ++ ((if is then first else []) ++ rest)
  one-waits kinds.Initializer true true part first rest list = refl
  one-waits kinds.Initializer true false part first rest list = refl
  one-waits kinds.Initializer false true part first rest list = refl
  one-waits kinds.Initializer false false part first rest list = refl
  one-waits kinds.AttributeList waits true part first rest list = absurd (cc (list refl))
  one-waits kinds.AttributeList true false part first rest list = refl
  one-waits kinds.AttributeList false false part first rest list = refl
  one-waits kind true true part first rest list = refl
  one-waits kind true false part first rest list = refl
  one-waits kind false true part first rest list = refl
  one-waits kind false false part first rest list = refl

  no-object : (child : ℕ × ℕ) → kind_at nodes child.0 ≡ kinds.AttributeList → is_object facts child ≡ false
  no-object child is = by (evaluates (role_of child.1)) (is_automatic (fact_at facts child.0)) (lists child.0 is)
    where
      by : (one other : Bool) → other ≡ false → (one && other) ≡ false
      by true other same = same
      by false other same = refl

  waited-is : (waits : Bool) (children : List (ℕ × ℕ))
      → initializers_waited nodes facts waits children ≡ (if waits then initializer_first nodes (handles_of children) else []) ++ by_place children
  waited-is true [] = refl
  waited-is false [] = refl
  waited-is waits (child ∷ children) =
      ap (λ (rest : List ℕ). (if waits && is_initializer (kind_at nodes child.0) then child.0 ∷ [] else []) ++ rest)
      (waited-is (is_object facts child || (waits && is_attribute_list (kind_at nodes child.0))) children)
      ∙ one-waits (kind_at nodes child.0) waits (is_object facts child) child.0 (initializer_first nodes (handles_of children)) (by_place children) (no-object child)

  -- as the definition has them, by what is among objects
  by-place-is : (objects : List ℕ) (children : List (ℕ × ℕ))
      → ((k : ℕ) (child : ℕ × ℕ) → slice_get children k ≡ Some child → list_any (nat_eq child.0) objects ≡ is_object facts child)
      → by_place children ≡ initializers_of nodes objects (handles_of children)
  by-place-is objects [] known = refl
  by-place-is objects (child ∷ children) known =
      ap₂ (λ test rest. (if test then initializer_first nodes (handles_of children) else []) ++ rest) (sym (known 0 child refl))
      (by-place-is objects children (λ k other at. known (suc k) other at))

-- Nodes

-- no two children of a node have one handle
module _ (list : NodeList NameId) (whole : list.first ≡ 0) (order : ChildrenStandBefore list) (laid : IsLaid list) where
  apart-in : (handle : ℕ) (node : TreeNode NameId) → HasNode list handle node → handle < end_of list → (j k : ℕ) (c d : ℕ × ℕ)
      → slice_get node.children j ≡ Some c → slice_get node.children k ≡ Some d → c.0 ≡ d.0 → c ≡ d
  apart-in handle node has inside j k c d at too same =
      let one : IsChildAt list handle j c.0 = (c.1, child-is list whole order handle j node has ∙ at) in
      let other : IsChildAt list handle k c.0 = (d.1, child-is list whole order handle k node has ∙ too ∙ ap (λ (h : ℕ). Some (h, d.1)) (sym same)) in
      let parent = laid.parents c.0 (omega (arith, whole)) (omega (arith, inside, child-below list whole order handle j c.0 one)) in
      let places : j ≡ k = (parent.3 handle j one).1 ∙ sym (parent.3 handle k other).1 in
      same_Some c d (sym at ∙ ap (slice_get node.children) places ∙ too)

  pub children-apart : (handle j k : ℕ) (c d : ℕ × ℕ) → slice_get (node_at (nodes_of list) handle).children j ≡ Some c
      → slice_get (node_at (nodes_of list) handle).children k ≡ Some d → c.0 ≡ d.0 → c ≡ d
  children-apart handle j k c d at too same =
      elim (slice_get_cases list.nodes handle).1 [
        | inl found ↦
            let has : HasNode list handle found.0 = (omega (arith, whole), ap (slice_get list.nodes) (omega (arith, whole)) ∙ found.2) in
            let is : node_at (nodes_of list) handle ≡ named_node found.0 =
            get_or_from_slice_get (nodes_of list) handle (named_node found.0) no_node (slice_get-map named_node list.nodes handle ∙ ap (option_map named_node) found.2)
            in
            let at' = ap (λ (node : TreeNode (List ℕ)). slice_get node.children j) (sym is) ∙ at in
            let too' = ap (λ (node : TreeNode (List ℕ)). slice_get node.children k) (sym is) ∙ too in
            apart-in handle found.0 has (omega (arith, whole, found.1)) j k c d at' too' same
        | inr past ↦
            absurd (none-some c
            (ap (λ (node : TreeNode (List ℕ)). slice_get node.children j) (sym (get_or_past (nodes_of list) handle no_node (omega (arith, past.0, length-map list.nodes named_node))))
            ∙ at))
      ]

  module _ (known : KnownFacts) (lists : KnowsLists (nodes_of list) known.facts) where
    -- a declaration
    pub declaration-passed : (handle : ℕ) → kind_at (nodes_of list) handle ≡ kinds.Declaration
        → initializers_waited (nodes_of list) known.facts false (node_at (nodes_of list) handle).children
        ≡ passed_of (judged_unit list known) handle (kind_at (nodes_of list) handle)
    declaration-passed handle is =
        let children = (node_at (nodes_of list) handle).children in
        waited-is (nodes_of list) known.facts lists false children
        ∙ by-place-is (nodes_of list) known.facts lists (evaluated_of (nodes_of list) known.facts handle kinds.Declaration) children
        (λ k child at.
        ap (list_any (nat_eq child.0)) (objects-are known.facts children)
        ∙ among-is known.facts children (children-apart handle) k child at)
        ∙ ap (λ kind. initializers_of (nodes_of list) (evaluated_of (nodes_of list) known.facts handle kind) (handles_of children)) (sym is)
        ∙ ap (passed_of (judged_unit list known) handle) (sym is)

  -- what is evaluated
  evaluated-is : (facts : List Fact) (handle : ℕ) (kind : NodeKind) → evaluated_so (nodes_of list) facts handle kind ≡ evaluated_of (nodes_of list) facts handle kind
  evaluated-is facts handle kinds.Declaration = sym (objects-are facts (node_at (nodes_of list) handle).children)
  evaluated-is facts handle kind = refl

  -- the items of a statement expression
  pub statements-passed : (known : KnownFacts) (handle : ℕ) → kind_at (nodes_of list) handle ≡ kinds.StatementExpression
      → evaluated_so (nodes_of list) known.facts (child_at (nodes_of list) handle 0) (kind_at (nodes_of list) (child_at (nodes_of list) handle 0))
      ≡ passed_of (judged_unit list known) handle (kind_at (nodes_of list) handle)
  statements-passed known handle is =
      evaluated-is known.facts (child_at (nodes_of list) handle 0) (kind_at (nodes_of list) (child_at (nodes_of list) handle 0))
      ∙ ap (passed_of (judged_unit list known) handle) (sym is)
