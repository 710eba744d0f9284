-- Where no node of a body changes counts, none that control meets in it does.
use Rattle.std.proofs.Common.{◌≡◌, ℕ, zero, suc, ◌+◌, ◌<◌, ◌≤◌, ◌⊎◌, inl, inr, Bool, true, false, ◌&&◌, ◌||◌, nat_eq, nat_lt, is_some, List, [], ◌∷◌, ◌++◌, Option, Some, None, option_map, map, length, get_or, slice_get, if◌then◌else◌, refl, sym, ap, subst, ◌∙◌, arith}
use Rattle.std.specs.List.{filter, list_any}
use Rattle.std.proofs.lemmas.Bool.{lt-ltb, ltb-true}
use Rattle.std.proofs.lemmas.List.{get_or_past, length-map}
use Rattle.std.proofs.lemmas.Option.{none-some, get_or_from_slice_get, slice_get-map, slice_get_cases}
use Rattle.vocabulary.specs.declared.node_kind.NodeKind.{NodeKind}
use Rattle.vocabulary.specs.declared.node_kind.NodeKind.TheVariants as kinds
use Rattle.vocabulary.specs.Roles.{role_of}
use Rattle.sparse_model.specs.declared.ids.NameId.{NameId}
use Rattle.meaning_tree.specs.Nodes.{TreeNode, NodeList, HasNode}
use Rattle.meaning_tree.specs.Laid.{IsChildAt, IsWithin, itself, in_child}
use Rattle.meaning_typing.specs.ContextSums.{ContextSums}
use Rattle.meaning_typing.specs.Evaluation.{evaluated_among, evaluated_of, is_automatic, under_address}
use Rattle.meaning_typing.specs.Facts.{fact_at}
use Rattle.meaning_typing.specs.Surroundings.{evaluates}
use Rattle.meaning_typing.specs.Units.{no_node, node_at, kind_at, child_at, children_at}
use Rattle.meaning_control.specs.Nodes.{JudgedUnit, control_at, controls_of, initializer_first, initializer_or, initializers_of, passed_of}
use Rattle.meaning_control.specs.Functions.{statement_of}
use Rattle.meaning_control.specs.laws.Changes.{AreAmong, AreWithoutContexts, NamesNone, NodeKeepsCounts}
use Rattle.decl_judge.specs.Units.{named_node}
use Rattle.linear_code.specs.Changes.{changes, has_contexts}
use Rattle.linear_code.specs.Known.{KnownFacts, judged_unit}
use Rattle.linear_code.specs.Quiet.{IsQuiet}
use Rattle.linear_code.proofs.NameLemmas.{kind-past}
use Rattle.linear_code.proofs.RunLemmas.{child-is, within-trans}

-- What is passed is among the nodes of which the children are

module _ (unit : JudgedUnit) (is_among : ℕ → Bool) (past : (k : ℕ) → length unit.nodes ≤ k → is_among k ≡ true)
    (closed : (handle : ℕ) → is_among handle ≡ true → AreAmong is_among (children_at unit.nodes handle)) where
  append-among : (front back : List ℕ) → AreAmong is_among front → AreAmong is_among back → AreAmong is_among (front ++ back)
  append-among [] back one other = other
  append-among (part ∷ front) back one other = (one.0, append-among front back one.1 other)

  if-among : (test : Bool) (parts : List ℕ) → AreAmong is_among parts → AreAmong is_among (if test then parts else [])
  if-among true parts among = among
  if-among false parts among = tt

  one-among : (test : Bool) (part : ℕ) (parts : List ℕ) → is_among part ≡ true → AreAmong is_among parts → AreAmong is_among (if test then part ∷ parts else parts)
  one-among true part parts first others = (first, others)
  one-among false part parts first others = others

  evaluated-in : (children : List (ℕ × ℕ)) → AreAmong is_among (map (λ child. child.0) children) → AreAmong is_among (evaluated_among children)
  evaluated-in [] among = tt
  evaluated-in (child ∷ children) among =
      one-among (evaluates (role_of child.1)) child.0 (evaluated_among children) among.0 (evaluated-in children among.1)

  filter-in : (test : ℕ → Bool) (parts : List ℕ) → AreAmong is_among parts → AreAmong is_among (filter test parts)
  filter-in test [] among = tt
  filter-in test (part ∷ parts) among = one-among (test part) part (filter test parts) among.0 (filter-in test parts among.1)

  first-or-in : (kind : NodeKind) (part : ℕ) (behind : List ℕ) → is_among part ≡ true → AreAmong is_among behind → AreAmong is_among (initializer_or kind part behind)
  first-or-in kinds.Initializer part behind first others = (first, tt)
  first-or-in kinds.AttributeList part behind first others = others
  first-or-in kind part behind first others = tt

  first-in : (parts : List ℕ) → AreAmong is_among parts → AreAmong is_among (initializer_first unit.nodes parts)
  first-in [] among = tt
  first-in (part ∷ parts) among = first-or-in (kind_at unit.nodes part) part (initializer_first unit.nodes parts) among.0 (first-in parts among.1)

  initializers-in : (objects parts : List ℕ) → AreAmong is_among parts → AreAmong is_among (initializers_of unit.nodes objects parts)
  initializers-in objects [] among = tt
  initializers-in objects (part ∷ parts) among =
      append-among (if list_any (nat_eq part) objects then initializer_first unit.nodes parts else []) (initializers_of unit.nodes objects parts)
      (if-among (list_any (nat_eq part) objects) (initializer_first unit.nodes parts) (first-in parts among.1)) (initializers-in objects parts among.1)

  pub get-in : (parts : List ℕ) (place otherwise : ℕ) → AreAmong is_among parts → is_among otherwise ≡ true → is_among (get_or parts place otherwise) ≡ true
  get-in [] place otherwise among last = last
  get-in (part ∷ parts) zero otherwise among last = among.0
  get-in (part ∷ parts) (suc place) otherwise among last = get-in parts place otherwise among.1 last

  child-in : (handle place : ℕ) → AreAmong is_among (children_at unit.nodes handle) → is_among (child_at unit.nodes handle place) ≡ true
  child-in handle place among = get-in (children_at unit.nodes handle) place (length unit.nodes) among (past (length unit.nodes) (omega arith))

  under-in : (kind : NodeKind) (operand : ℕ) → is_among operand ≡ true → AreAmong is_among (under_address unit.nodes kind operand)
  under-in kinds.Indirection operand among = (child-in operand 0 (closed operand among), tt)
  under-in kind operand among = (among, tt)

  pub evaluated-of-in : (handle : ℕ) (kind : NodeKind) → AreAmong is_among (children_at unit.nodes handle)
      → AreAmong is_among (evaluated_of unit.nodes unit.facts handle kind)
  evaluated-of-in handle kinds.StringLiteral among = tt
  evaluated-of-in handle kinds.Declaration among =
      filter-in (λ part. is_automatic (fact_at unit.facts part)) (evaluated_among (node_at unit.nodes handle).children)
      (evaluated-in (node_at unit.nodes handle).children among)
  evaluated-of-in handle kinds.Address among = under-in (kind_at unit.nodes (child_at unit.nodes handle 0)) (child_at unit.nodes handle 0) (child-in handle 0 among)
  evaluated-of-in handle kind among = evaluated-in (node_at unit.nodes handle).children among

  pub passed-in : (handle : ℕ) (kind : NodeKind) → AreAmong is_among (children_at unit.nodes handle) → AreAmong is_among (passed_of unit handle kind)
  passed-in handle kinds.Declaration among =
      initializers-in (evaluated_of unit.nodes unit.facts handle (kind_at unit.nodes handle)) (children_at unit.nodes handle) among
  passed-in handle kinds.StatementExpression among =
      evaluated-of-in (child_at unit.nodes handle 0) (kind_at unit.nodes (child_at unit.nodes handle 0))
      (closed (child_at unit.nodes handle 0) (child-in handle 0 among))
  passed-in handle kind among = evaluated-of-in handle (kind_at unit.nodes handle) among

-- What doesn't change counts keeps them

none-if : (sums : Option ContextSums) → is_some sums ≡ false → sums ≡ None
none-if None is = refl
none-if (Some sums) is = absurd (cc is)

names-none : (unit : JudgedUnit) (names : Option ℕ) → has_contexts unit names ≡ false → NamesNone unit names
names-none unit None is = tt
names-none unit (Some function) is = none-if (unit.contexts function) is

keeps : (unit : JudgedUnit) (handle : ℕ) (kind : NodeKind) → changes unit handle kind ≡ false → NodeKeepsCounts unit handle kind
keeps unit handle kinds.ContextStatement is = absurd (cc is)
keeps unit handle kinds.Call is = names-none unit (control_at (controls_of unit handle) (child_at unit.nodes handle 0)).names is
keeps unit handle kind is = tt

-- The nodes of a body, and what isn't there

is-either : (one other : Bool) → (one || other) ≡ true → (one ≡ true) ⊎ (other ≡ true)
is-either true other is = inl refl
is-either false other is = inr is

is-both : (one other : Bool) → (one && other) ≡ true → (one ≡ true) × (other ≡ true)
is-both true other is = (refl, is)
is-both false other is = absurd (cc is)

both-are : (one other : Bool) → one ≡ true → other ≡ true → (one && other) ≡ true
both-are true other is also = also
both-are false other is also = absurd (cc is)

first-is : (one other : Bool) → one ≡ true → (one || other) ≡ true
first-is true other is = refl
first-is false other is = absurd (cc is)

last-is : (one other : Bool) → other ≡ true → (one || other) ≡ true
last-is true other is = refl
last-is false other is = is

module _ (list : NodeList NameId) (known : KnownFacts) (function : ℕ) (quiet : IsQuiet list known function) where
  abbrev unit : JudgedUnit
  unit = judged_unit list known

  abbrev root : ℕ
  root = statement_of unit function

  -- how many nodes the body has: its run begins so many before its end
  abbrev pub among : (size : ℕ) → ℕ → Bool
  among size k = (nat_lt root (k + size) && nat_lt k (root + 1)) || nat_lt (length unit.nodes) (k + 1)

  module _ (size : ℕ) (run : (part : ℕ) → (IsWithin list root part → (root < part + size) × (part ≤ root)) × ((root < part + size) × (part ≤ root) → IsWithin list root part)) where
    within-among : (k : ℕ) → IsWithin list root k → among size k ≡ true
    within-among k within =
        let bounds = (run k).0 within in
        first-is (nat_lt root (k + size) && nat_lt k (root + 1)) (nat_lt (length unit.nodes) (k + 1))
        (both-are (nat_lt root (k + size)) (nat_lt k (root + 1)) (lt-ltb root (k + size) bounds.0) (lt-ltb k (root + 1) (omega (arith, bounds.1))))

    past-among : (k : ℕ) → length unit.nodes ≤ k → among size k ≡ true
    past-among k past =
        last-is (nat_lt root (k + size) && nat_lt k (root + 1)) (nat_lt (length unit.nodes) (k + 1)) (lt-ltb (length unit.nodes) (k + 1) (omega (arith, past)))

    among-is : (k : ℕ) → among size k ≡ true → IsWithin list root k ⊎ (length unit.nodes ≤ k)
    among-is k is = by (is-either (nat_lt root (k + size) && nat_lt k (root + 1)) (nat_lt (length unit.nodes) (k + 1)) is)
      where
        by : ((nat_lt root (k + size) && nat_lt k (root + 1)) ≡ true) ⊎ (nat_lt (length unit.nodes) (k + 1) ≡ true) → IsWithin list root k ⊎ (length unit.nodes ≤ k)
        by (inl inside) =
            let tests = is-both (nat_lt root (k + size)) (nat_lt k (root + 1)) inside in
            inl ((run k).1 (ltb-true root (k + size) tests.0, omega (arith, ltb-true k (root + 1) tests.1)))
        by (inr past) = inr (omega (arith, ltb-true (length unit.nodes) (k + 1) past))

    -- a child of a node
    is-child : (handle place : ℕ) (child : ℕ × ℕ) → slice_get (node_at unit.nodes handle).children place ≡ Some child → IsChildAt list handle place child.0
    is-child handle place child at =
        elim (slice_get_cases list.nodes handle).1 [
          | inl found ↦
              let has : HasNode list handle found.0 = (omega (arith, quiet.whole), ap (slice_get list.nodes) (omega (arith, quiet.whole)) ∙ found.2) in
              let is : node_at unit.nodes handle ≡ named_node found.0 =
              get_or_from_slice_get unit.nodes handle (named_node found.0) no_node (slice_get-map named_node list.nodes handle ∙ ap (option_map named_node) found.2)
              in
              (child.1, child-is list quiet.whole quiet.order handle place found.0 has ∙ ap (λ (node : TreeNode (List ℕ)). slice_get node.children place) (sym is) ∙ at)
          | inr past ↦
              absurd (none-some child
              (ap (λ (node : TreeNode (List ℕ)). slice_get node.children place) (sym (get_or_past unit.nodes handle no_node (omega (arith, past.0, length-map list.nodes named_node))))
              ∙ at))
        ]

    all-among : (children : List (ℕ × ℕ)) → ((place : ℕ) (child : ℕ × ℕ) → slice_get children place ≡ Some child → among size child.0 ≡ true)
        → AreAmong (among size) (map (λ child. child.0) children)
    all-among [] each = tt
    all-among (child ∷ children) each = (each 0 child refl, all-among children (λ place other at. each (suc place) other at))

    children-among : (handle : ℕ) → among size handle ≡ true → AreAmong (among size) (children_at unit.nodes handle)
    children-among handle is = by (among-is handle is)
      where
        by : IsWithin list root handle ⊎ (length unit.nodes ≤ handle) → AreAmong (among size) (children_at unit.nodes handle)
        by (inl within) =
            all-among (node_at unit.nodes handle).children
            (λ place child at.
            within-among child.0
            (within-trans list quiet.whole quiet.order root handle child.0 within (in_child place child.0 (is-child handle place child at) itself)))
        by (inr past) =
            subst (λ (node : TreeNode (List ℕ)). AreAmong (among size) (map (λ child. child.0) node.children)) (sym (get_or_past unit.nodes handle no_node past)) tt

    keep-among : (handle : ℕ) → among size handle ≡ true → NodeKeepsCounts unit handle (kind_at unit.nodes handle)
    keep-among handle is = by (among-is handle is)
      where
        unchanged : IsWithin list root handle → (does : Bool) → does ≡ changes unit handle (kind_at unit.nodes handle) → does ≡ false
        unchanged within true same = absurd (quiet.none (handle, within, sym same))
        unchanged within false same = refl

        by : IsWithin list root handle ⊎ (length unit.nodes ≤ handle) → NodeKeepsCounts unit handle (kind_at unit.nodes handle)
        by (inl within) = keeps unit handle (kind_at unit.nodes handle) (unchanged within (changes unit handle (kind_at unit.nodes handle)) refl)
        by (inr past) = subst (NodeKeepsCounts unit handle) (sym (kind-past unit.nodes handle past)) tt

    pub without : AreWithoutContexts unit (among size)
    without = record {
      keep = keep-among;
      parts = λ handle is. passed-in unit (among size) past-among children-among handle (kind_at unit.nodes handle) (children-among handle is);
    }

    pub root-among : among size root ≡ true
    root-among = within-among root itself
