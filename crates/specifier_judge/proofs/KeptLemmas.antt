-- What is kept of enumerations stays, and stands for one node more.
use Rattle.std.proofs.Common.{◌≡◌, ◌⊎◌, inl, inr, ℕ, ◌+◌, ◌-◌, ◌<◌, ◌≤◌, nat_eq, Bool, true, false, List, [], All, length, map, take, get_or, slice_get, Option, Some, None, if◌then◌else◌, refl, sym, ap, subst, ◌∙◌, ⊎_elim, arith}
use Rattle.std.proofs.lemmas.Bool.Decides.{nat_tests}
use Rattle.std.proofs.lemmas.List.Elements.{All-map}
use Rattle.std.proofs.lemmas.Option.{slice_get_cases}
use Rattle.indexmap.specs.IndexMap.{get}
use Rattle.sparse_model.specs.declared.ids.NameId.{NameId}
use Rattle.meaning_tree.specs.Nodes.{TreeNode, NodeList, ChildrenStandBefore, HasNode, end_of}
use Rattle.meaning_typing.specs.EnumRows.{SeenEnumerator, enumerators_of}
use Rattle.meaning_typing.specs.Facts.{Fact}
use Rattle.meaning_typing.specs.Units.{UnitNodes, children_at}
use Rattle.decl_judge.specs.Units.{nodes_of}
use Rattle.enum_rows.specs.declared.names.Sharing.{Sharing}
use Rattle.enum_rows.specs.declared.names.Sharing.TheVariants as sharings
use Rattle.enum_rows.specs.Names.{IsSharing}
use Rattle.expr_judge.proofs.NodeLemmas.{children-are}
use Rattle.specifier_judge.specs.declared.enumerations.Enumerations.{Enumerations}
use Rattle.specifier_judge.specs.Kept.{IsKeptOf, sharing_kept, sharing_or_own}
use Rattle.specifier_judge.proofs.PartLemmas.{among-same}

-- the children of a node stand before it
module _ (unit : NodeList NameId) (whole : unit.first ≡ 0) (order : ChildrenStandBefore unit) where
  children_before : (handle : ℕ) → handle < end_of unit → All (λ child. child < handle) (children_at (nodes_of unit) handle)
  children_before handle below =
      ⊎_elim
      (λ (found : (node : TreeNode NameId) × (handle < length unit.nodes) × (slice_get unit.nodes handle ≡ Some node) × (get_or unit.nodes handle node ≡ node)).
      let has : HasNode unit handle found.0 = (omega (arith, whole), ap (slice_get unit.nodes) (omega (arith, whole)) ∙ found.2) in
      subst (λ (handles : List ℕ). All (λ child. child < handle) handles) (children-are unit whole handle found.0 has)
      (All-map (λ (child : ℕ). child < handle) (λ (child : ℕ × ℕ). child.0) found.0.children (λ i e within. (order handle found.0 has i e within).1)))
      (λ (past : (length unit.nodes ≤ handle) × (slice_get unit.nodes handle ≡ None)). absurd (omega (arith, below, whole, past.0)))
      (slice_get_cases unit.nodes handle).1

  -- so what is known of it and of later nodes isn't asked by its enumerators
  enumerators_stay : (facts : List Fact) (count handle : ℕ) → handle < count → count ≤ end_of unit
      → enumerators_of (nodes_of unit) (take count facts) handle ≡ enumerators_of (nodes_of unit) facts handle
  enumerators_stay facts count handle below within =
      among-same (nodes_of unit) facts count (children_at (nodes_of unit) handle)
      (λ i e inside. omega (arith, below, children_before handle (omega (arith, below, within)) i e inside))

-- where there are none, each has its own type
own_shared : (list : List SeenEnumerator) → list ≡ [] → IsSharing sharings.Own list
own_shared list none = subst (IsSharing sharings.Own) (sym none) refl

-- By numbers

lower : (other handle : ℕ) → other < handle + 1 → nat_eq handle other ≡ false → other < handle
lower other handle below differs = grind (arith, nat_tests)

equal : (other handle : ℕ) → nat_eq handle other ≡ true → handle ≡ other
equal other handle same = grind (arith, nat_tests)

apart : (other handle : ℕ) → handle + 1 ≤ other → nat_eq handle other ≡ false
apart other handle past = grind (arith, nat_tests)

-- One node more
module _ (unit : NodeList NameId) (whole : unit.first ≡ 0) (order : ChildrenStandBefore unit) (facts : List Fact) (handle : ℕ) (within : handle < end_of unit)
    (old : Enumerations) (kept : IsKeptOf (nodes_of unit) (take handle facts) handle old) where
  abbrev said : ℕ → List SeenEnumerator
  said other = enumerators_of (nodes_of unit) facts other

  stays : (other : ℕ) → other < handle → IsSharing (sharing_kept old other) (said other)
  stays other below =
      subst (IsSharing (sharing_kept old other)) (enumerators_stay unit whole order facts handle other below (omega (arith, within))) (kept.each other below)

  -- by whether it is that node
  each_by : (found : Option Sharing) → IsSharing (sharing_or_own found) (said handle) → (other : ℕ) → other < handle + 1 → (test : Bool)
      → nat_eq handle other ≡ test → IsSharing (sharing_or_own (if test then found else get nat_eq old.sharings other)) (said other)
  each_by found says other below true is = subst (λ (one : ℕ). IsSharing (sharing_or_own found) (said one)) (equal other handle is) says
  each_by found says other below false is = stays other (lower other handle below is)

  pub keeps_more : (new : Enumerations) (found : Option Sharing) → IsSharing (sharing_or_own found) (said handle)
      → ((other : ℕ) → get nat_eq new.sharings other ≡ (if nat_eq handle other then found else get nat_eq old.sharings other))
      → IsKeptOf (nodes_of unit) facts (handle + 1) new
  keeps_more new found says updates =
      record {
        each =
            λ other below.
            subst (λ (one : Option Sharing). IsSharing (sharing_or_own one) (said other)) (sym (updates other))
            (each_by found says other below (nat_eq handle other) refl);
        others =
            λ other past.
            updates other
            ∙ ap (λ (test : Bool). if test then found else get nat_eq old.sharings other) (apart other handle past)
            ∙ kept.others other (omega (arith, past));
      }

  none_by : (other : ℕ) (test : Bool) → nat_eq handle other ≡ test → get nat_eq old.sharings other ≡ (if test then None else get nat_eq old.sharings other)
  none_by other true is = kept.others other (omega (arith, equal other handle is))
  none_by other false is = refl

  -- one without enumerators
  pub keeps_none : said handle ≡ [] → IsKeptOf (nodes_of unit) facts (handle + 1) old
  keeps_none none = keeps_more old None (own_shared (said handle) none) (λ other. none_by other (nat_eq handle other) refl)
