-- Actions that make the node of their shape make a formed tree.
use Rattle.std.proofs.Common.{◌≡◌, ℕ, ◌&&◌, ◌||◌, Bool, true, false, List, [], ◌∷◌, ◌++◌, drop, length, Option, Some, None, nat_le, nat_lt, ◌+◌, refl, sym, ap, subst, if◌then◌else◌}
use Rattle.std.proofs.lemmas.Option.{same_Some}
use Rattle.std.proofs.lemmas.Bool.{leb-true, eq-eqb}
use Rattle.vocabulary.specs.declared.role.Role.{Role}
use Rattle.meaning_tree.specs.Trees.{SyntaxTree, Parts, NoParts, with_parts}
use Rattle.meaning_tree.specs.Forms.{sort_number, sort_of_kind, kind_of, IsOf, Slot, One, slots_of, nothing, one}
use Rattle.meaning_derivation.specs.Values.{Value, TreeValue, value_at, parts_of, before}
use Rattle.meaning_derivation.specs.State.{State, Fault, ActionOutcome, Goes, Refuses, most_nodes, made_as}
use Rattle.meaning_derivation.specs.Shapes.{Source, OneTree, AllTrees, Shape, parts_from, shaped_tree}
use Rattle.meaning_forms.proofs.Slots.{is_within, within-fits, both}
use Rattle.meaning_forms.proofs.Knowledge.{Known, AWord, ATree, AList, Grown, AreOf, with_parts-none, are_of-behind}
use Rattle.meaning_forms.proofs.Effects.{known_at, before_slots, behind_slots, slots_from, made_known}
use Rattle.meaning_forms.proofs.Fronts.{Stand, stand_more, stand_same, stand_dropped, tree_stands, list_stands}

-- Outcomes

abbrev state_or : State → ActionOutcome → State
state_or s (Goes next) = next
state_or s (Refuses fault stands) = s

-- the values of a state that is reached
pub reached : (goal next : State) → Goes goal ≡ Goes next → next.values ≡ goal.values
reached goal next is = sym (ap (λ outcome. (state_or goal outcome).values) is)

reached_if :
    (test : Bool) (goal next : State) (fault : Fault) (stands : ℕ) → (if test then Goes goal else Refuses fault stands) ≡ Goes next
    → next.values ≡ goal.values
reached_if true goal next fault stands is = reached goal next is
reached_if false goal next fault stands is = absurd (cc is)

pub reached_unless :
    (test : Bool) (goal next : State) (fault : Fault) (stands : ℕ) → (if test then Refuses fault stands else Goes goal) ≡ Goes next
    → next.values ≡ goal.values
reached_unless true goal next fault stands is = absurd (cc is)
reached_unless false goal next fault stands is = reached goal next is

pub made-values : (s next : State) (count : ℕ) (value : Value) → made_as s count value ≡ Goes next → next.values ≡ value ∷ drop count s.values
made-values s next count value is =
    reached_if (nat_lt s.nodes most_nodes) (record s { values = value ∷ drop count s.values; nodes = s.nodes + 1 }) next _ _ is

-- Kinds

-- a kind is of its own sort
pub is_of_its_sort : (tree : SyntaxTree) → IsOf (sort_of_kind (kind_of tree) ∷ []) tree
is_of_its_sort tree = ap (λ test. test || false) (eq-eqb (sort_number (sort_of_kind (kind_of tree))) (sort_number (sort_of_kind (kind_of tree))) refl)

-- Sources

-- the parts of sources, without a case of its own for the last one
abbrev all_parts : List Source → List Value → Parts (List ℕ)
all_parts [] values = NoParts
all_parts (OneTree role depth ∷ sources) values = before role (value_at values depth) (all_parts sources values)
all_parts (AllTrees depth ∷ sources) values = with_parts (parts_of (value_at values depth)) (all_parts sources values)

parts_from-all : (sources : List Source) (values : List Value) → parts_from sources values ≡ all_parts sources values
parts_from-all [] values = refl
parts_from-all (OneTree role depth ∷ []) values = refl
parts_from-all (AllTrees depth ∷ []) values = sym (with_parts-none (parts_of (value_at values depth)))
parts_from-all (OneTree role depth ∷ source ∷ sources) values = ap (before role (value_at values depth)) (parts_from-all (source ∷ sources) values)
parts_from-all (AllTrees depth ∷ source ∷ sources) values = ap (with_parts (parts_of (value_at values depth))) (parts_from-all (source ∷ sources) values)

module _ (begun : Parts (List ℕ)) (known : List Known) (values rest : List Value) (stand : Stand begun known values rest) where
  before_are :
      (role : Role) (depth : ℕ) (it : Known) (more : Option (List Slot)) (slots : List Slot) (parts : Parts (List ℕ)) → known_at known depth ≡ it
      → before_slots role it more ≡ Some slots → ((left : List Slot) → more ≡ Some left → AreOf left parts)
      → AreOf slots (before role (value_at values depth) parts)
  before_are role depth AWord more slots parts at is are = absurd (cc is)
  before_are role depth (AList list) more slots parts at is are = absurd (cc is)
  before_are role depth (Grown list) more slots parts at is are = absurd (cc is)
  before_are role depth (ATree sorts) None slots parts at is are = absurd (cc is)
  before_are role depth (ATree sorts) (Some left) slots parts at is are =
      let (tree, stands, formed, of) = tree_stands begun known values rest depth sorts at stand in
      subst (λ all. AreOf all (before role (value_at values depth) parts)) (same_Some _ _ is)
      (subst (λ value. AreOf (One role sorts ∷ left) (before role value parts)) (sym stands) (one of (are left refl).0, (formed, (are left refl).1)))

  behind_are :
      (depth : ℕ) (it : Known) (more : Option (List Slot)) (slots : List Slot) (parts : Parts (List ℕ)) → known_at known depth ≡ it
      → behind_slots it more ≡ Some slots → ((left : List Slot) → more ≡ Some left → AreOf left parts)
      → AreOf slots (with_parts (parts_of (value_at values depth)) parts)
  behind_are depth AWord more slots parts at is are = absurd (cc is)
  behind_are depth (ATree sorts) more slots parts at is are = absurd (cc is)
  behind_are depth (Grown list) more slots parts at is are = absurd (cc is)
  behind_are depth (AList list) None slots parts at is are = absurd (cc is)
  behind_are depth (AList list) (Some left) slots parts at is are =
      let (own, stands, of) = list_stands begun known values rest depth list at stand in
      subst (λ all. AreOf all (with_parts (parts_of (value_at values depth)) parts)) (same_Some _ _ is)
      (subst (λ value. AreOf (list ++ left) (with_parts (parts_of value) parts)) (sym stands) (are_of-behind list left own parts of (are left refl)))

  all_parts_are : (sources : List Source) (slots : List Slot) → slots_from sources known ≡ Some slots → AreOf slots (all_parts sources values)
  all_parts_are [] slots is = subst (λ all. AreOf all NoParts) (same_Some _ _ is) (nothing, tt)
  all_parts_are (OneTree role depth ∷ sources) slots is =
      before_are role depth (known_at known depth) (slots_from sources known) slots (all_parts sources values) refl is (all_parts_are sources)
  all_parts_are (AllTrees depth ∷ sources) slots is =
      behind_are depth (known_at known depth) (slots_from sources known) slots (all_parts sources values) refl is (all_parts_are sources)

  -- the node of a shape is a formed tree
  shaped_stands :
      (shape : Shape) (slots : List Slot) (test : Bool) (after : List Known) (next : List Value) → (is_within slots (slots_of shape.kind) && nat_le shape.takes (length known)) ≡ test
      → slots_from shape.sources known ≡ Some slots
      → (if test then Some (ATree (sort_of_kind shape.kind ∷ []) ∷ drop shape.takes known) else None) ≡ Some after
      → next ≡ TreeValue (shaped_tree shape values) ∷ drop shape.takes values → Stand begun after next rest
  shaped_stands shape slots false after next tests from is same = absurd (cc is)
  shaped_stands shape slots true after next tests from is same =
      let passed = both (is_within slots (slots_of shape.kind)) (nat_le shape.takes (length known)) tests in
      let are = subst (AreOf slots) (sym (parts_from-all shape.sources values)) (all_parts_are shape.sources slots from) in
      subst (λ all. Stand begun all next rest) (same_Some _ _ is)
      (stand_same begun _ _ next rest same
      (stand_more begun (ATree (sort_of_kind shape.kind ∷ [])) _ (TreeValue (shaped_tree shape values)) _ rest
      ((within-fits slots (slots_of shape.kind) passed.0 _ are.0, are.1), is_of_its_sort (shaped_tree shape values))
      (stand_dropped begun shape.takes known values rest (leb-true _ _ passed.1) stand)))

  pub made_stands :
      (shape : Shape) (found : Option (List Slot)) (after : List Known) (next : List Value) → slots_from shape.sources known ≡ found
      → made_known shape known found ≡ Some after → next ≡ TreeValue (shaped_tree shape values) ∷ drop shape.takes values → Stand begun after next rest
  made_stands shape None after next from is same = absurd (cc is)
  made_stands shape (Some slots) after next from is same = shaped_stands shape slots _ after next refl from is same
