-- What the plain program answers is so: by how deep it may go.
use Rattle.std.proofs.Common.{◌≡◌, Bool, true, false, ℕ, zero, suc, List, [], ◌∷◌, Option, Some, None, option_map, refl, sym, subst}
use Rattle.std.specs.Option.{option_and_then}
use Rattle.std.proofs.lemmas.Option.{same_Some}
use Rattle.meaning_types.specs.Types.{TypeTree}
use Rattle.meaning_initializers.specs.Items.{Given, Designator, Initializer, Value, Braces, Items, NoItems, Item, from_designator, moved_with}
use Rattle.meaning_initializers.specs.Parts.{Aggregates, Part, path_to, takes_whole, string_before}
use Rattle.meaning_initializers.specs.Designators as ways
use Rattle.meaning_initializers.specs.Designators.{Step, ToPart, Into, NoPart, Unknown, Way, Along, Nowhere, through, step_of, Leads, to_part, into, to_none, unknown}
use Rattle.meaning_initializers.specs.Plans.{Filled, takes, takes_none}
use Rattle.meaning_initializers.specs.Filling as relation
use Rattle.meaning_initializers.specs.Filling.{part_for, fills_on, outcome_of, Receives, a_value, a_string, a_list, Fills, whole, by_parts, stops, goes_on, is_over, FillsAlong, arrived, deeper, Ends, at_end, one_extra, designated, nowhere}
use Rattle.meaning_initializers.specs.plain.Filling.{way_by, way_found, Task, Receive, Fill, FillParts, FillAlong, End, fill_braces, fill_whole, fill_on_if, fill_part, fill_designated, fill_more, filled}
use Rattle.meaning_initializers.specs.laws.Filling.{AnswersAreOutcomes}

-- an answer that was mapped, or that another one follows

mapped : {A B : Type 0} (f : A → B) (answer : Option A) (b : B) → option_map f answer ≡ Some b → (a : A) × (answer ≡ Some a) × (f a ≡ b)
mapped f None b is = absurd (cc is)
mapped f (Some a) b is = (a, refl, same_Some (f a) b is)

chained : {A B : Type 0} (f : A → Option B) (answer : Option A) (b : B) → option_and_then f answer ≡ Some b → (a : A) × (answer ≡ Some a) × (f a ≡ Some b)
chained f None b is = absurd (cc is)
chained f (Some a) b is = (a, refl, is)

-- Ways

module _ (aggregates : Aggregates) where
  abbrev AreWays : (TypeTree → List Designator → Option Way) → Type 0
  AreWays find = (type_ : TypeTree) (designators : List Designator) (way : Way) → find type_ designators ≡ Some way → Leads aggregates type_ designators way

  way_by-leads : (find : TypeTree → List Designator → Option Way) → AreWays find → (type_ : TypeTree) (designator : Designator) (designators : List Designator) (way : Way)
      (step : Step) → step_of aggregates type_ designator.target ≡ step → way_by aggregates find designator designators step ≡ Some way
      → Leads aggregates type_ (designator ∷ designators) way
  way_by-leads find are type_ designator designators way (ToPart part) step is =
      let found = mapped (through part) (find part.type_ designators) way is in
      subst (λ (k : Way). Leads aggregates type_ (designator ∷ designators) k) found.2 (to_part step (are part.type_ designators found.0 found.1))
  way_by-leads find are type_ designator designators way (Into part) step is =
      let found = mapped (through part) (find part.type_ (designator ∷ designators)) way is in
      subst (λ (k : Way). Leads aggregates type_ (designator ∷ designators) k) found.2 (into step (are part.type_ (designator ∷ designators) found.0 found.1))
  way_by-leads find are type_ designator designators way NoPart step is =
      subst (λ (k : Way). Leads aggregates type_ (designator ∷ designators) k) (same_Some _ way is) (to_none step)
  way_by-leads find are type_ designator designators way Unknown step is =
      subst (λ (k : Way). Leads aggregates type_ (designator ∷ designators) k) (same_Some _ way is) (unknown step)

  pub ways_lead : (depth : ℕ) → AreWays (way_found aggregates depth)
  ways_lead zero type_ designators way is = absurd (cc is)
  ways_lead (suc depth) type_ [] way is = subst (λ (k : Way). Leads aggregates type_ [] k) (same_Some _ way is) ways.there
  ways_lead (suc depth) type_ (designator ∷ designators) way is =
      way_by-leads (way_found aggregates depth) (ways_lead depth) type_ designator designators way (step_of aggregates type_ designator.target) refl is

-- What is filled

module _ (aggregates : Aggregates) (is_static : Bool) where
  abbrev IsDone : Task → Filled → Type 0
  IsDone (Receive type_ path is_moved initializer) end = Receives aggregates is_static type_ path is_moved initializer end.plan
  IsDone (Fill type_ path items) end = Fills aggregates is_static type_ path items end
  IsDone (FillParts type_ path number items) end = relation.FillsParts aggregates is_static type_ path number items end
  IsDone (FillAlong type_ path way items) end = FillsAlong aggregates is_static type_ path way items end
  IsDone (End type_ path items) end = Ends aggregates is_static type_ path items end.plan

  module _ (find : TypeTree → List Designator → Option Way) (are : AreWays aggregates find) (fill : Task → Option Filled)
      (done : (task : Task) (end : Filled) → fill task ≡ Some end → IsDone task end) where
    braces_done : (type_ : TypeTree) (path : List ℕ) (is_moved : Bool) (handle token : ℕ) (items : Items) (end : Filled) (string : Option (Given × Items))
        → string_before type_ items ≡ string → fill_braces aggregates is_static find fill type_ path is_moved items string ≡ Some end
        → IsDone (Receive type_ path is_moved (Braces handle token items)) end
    braces_done type_ path is_moved handle token items end (Some string) before is =
        subst (λ (e : Filled). Receives aggregates is_static type_ path is_moved (Braces handle token items) e.plan) (same_Some _ end is) (a_string before)
    braces_done type_ path is_moved handle token items end None before is =
        let parts = chained _ (fill (FillParts type_ path 0 (moved_with is_moved items))) end is in
        let behind = mapped _ (fill (End type_ path parts.0.left)) end parts.2 in
        subst (λ (e : Filled). Receives aggregates is_static type_ path is_moved (Braces handle token items) e.plan) behind.2
        (a_list before (done (FillParts type_ path 0 (moved_with is_moved items)) parts.0 parts.1) (done (End type_ path parts.0.left) behind.0 behind.1))

    whole_done : (type_ : TypeTree) (path : List ℕ) (is_moved : Bool) (initializer : Initializer) (items : Items) (end : Filled) (test : Bool)
        → takes_whole type_ initializer ≡ test → fill_whole aggregates is_static find fill type_ path is_moved initializer items test ≡ Some end
        → Fills aggregates is_static type_ path (Item [] is_moved initializer items) end
    whole_done type_ path is_moved initializer items end true takes is =
        let found = mapped _ (fill (Receive type_ path is_moved initializer)) end is in
        subst (λ (e : Filled). Fills aggregates is_static type_ path (Item [] is_moved initializer items) e) found.2
        (whole takes (done (Receive type_ path is_moved initializer) found.0 found.1))
    whole_done type_ path is_moved initializer items end false takes is =
        by_parts takes (done (FillParts type_ path 0 (Item [] is_moved initializer items)) end is)

    on_done : (type_ : TypeTree) (path : List ℕ) (number : ℕ) (part : Part) (items : Items) (found end : Filled) (test : Bool)
        → part_for aggregates type_ number items ≡ Some part → Fills aggregates is_static part.type_ (path_to type_ path part) items found
        → fills_on type_ found ≡ test → fill_on_if aggregates is_static find fill type_ path part found test ≡ Some end
        → relation.FillsParts aggregates is_static type_ path number items end
    on_done type_ path number part items found end true next fills on is =
        let behind = mapped _ (fill (FillParts type_ path (suc part.number) found.left)) end is in
        subst (λ (e : Filled). relation.FillsParts aggregates is_static type_ path number items e) behind.2
        (goes_on next fills on (done (FillParts type_ path (suc part.number) found.left) behind.0 behind.1))
    on_done type_ path number part items found end false next fills on is =
        subst (λ (e : Filled). relation.FillsParts aggregates is_static type_ path number items e) (same_Some found end is) (is_over next fills on)

    part_done : (type_ : TypeTree) (path : List ℕ) (number : ℕ) (items : Items) (end : Filled) (part : Option Part)
        → part_for aggregates type_ number items ≡ part → fill_part aggregates is_static find fill type_ path items part ≡ Some end
        → relation.FillsParts aggregates is_static type_ path number items end
    part_done type_ path number items end None next is =
        subst (λ (e : Filled). relation.FillsParts aggregates is_static type_ path number items e) (same_Some (takes_none items) end is) (stops next)
    part_done type_ path number items end (Some part) next is =
        let found = chained _ (fill (Fill part.type_ (path_to type_ path part) items)) end is in
        on_done type_ path number part items found.0 end (fills_on type_ found.0) next (done (Fill part.type_ (path_to type_ path part) items) found.0 found.1) refl found.2

    designated_done : (type_ : TypeTree) (path : List ℕ) (designator : Designator) (designators : List Designator) (is_moved : Bool) (initializer : Initializer)
        (items : Items) (end : Filled) (way : Way) → Leads aggregates type_ (designator ∷ designators) way
        → fill_designated aggregates is_static find fill type_ path initializer items way ≡ Some end
        → Ends aggregates is_static type_ path (Item (designator ∷ designators) is_moved initializer items) end.plan
    designated_done type_ path designator designators is_moved initializer items end (Along way) leads is =
        let along = chained _ (fill (FillAlong type_ path way (Item [] true initializer items))) end is in
        let behind = mapped _ (fill (End type_ path along.0.left)) end along.2 in
        subst (λ (e : Filled). Ends aggregates is_static type_ path (Item (designator ∷ designators) is_moved initializer items) e.plan) behind.2
        (designated leads (done (FillAlong type_ path way (Item [] true initializer items)) along.0 along.1) (done (End type_ path along.0.left) behind.0 behind.1))
    designated_done type_ path designator designators is_moved initializer items end (Nowhere refusals) leads is =
        let behind = mapped _ (fill (End type_ path (from_designator items))) end is in
        subst (λ (e : Filled). Ends aggregates is_static type_ path (Item (designator ∷ designators) is_moved initializer items) e.plan) behind.2
        (nowhere leads (done (End type_ path (from_designator items)) behind.0 behind.1))

    more_done : (task : Task) (end : Filled) → fill_more aggregates is_static find fill task ≡ Some end → IsDone task end
    more_done (Receive type_ path is_moved (Value given)) end is =
        subst (λ (e : Filled). Receives aggregates is_static type_ path is_moved (Value given) e.plan) (same_Some _ end is) a_value
    more_done (Receive type_ path is_moved (Braces handle token items)) end is =
        braces_done type_ path is_moved handle token items end (string_before type_ items) refl is
    more_done (Fill type_ path NoItems) end is = absurd (cc is)
    more_done (Fill type_ path (Item (designator ∷ designators) is_moved initializer items)) end is = absurd (cc is)
    more_done (Fill type_ path (Item [] is_moved initializer items)) end is =
        whole_done type_ path is_moved initializer items end (takes_whole type_ initializer) refl is
    more_done (FillParts type_ path number items) end is = part_done type_ path number items end (part_for aggregates type_ number items) refl is
    more_done (FillAlong type_ path [] items) end is = arrived (done (Fill type_ path items) end is)
    more_done (FillAlong type_ path (part ∷ way) items) end is =
        let found = chained _ (fill (FillAlong part.type_ (path_to type_ path part) way items)) end is in
        let behind = mapped _ (fill (FillParts type_ path (suc part.number) found.0.left)) end found.2 in
        subst (λ (e : Filled). FillsAlong aggregates is_static type_ path (part ∷ way) items e) behind.2
        (deeper (done (FillAlong part.type_ (path_to type_ path part) way items) found.0 found.1)
        (done (FillParts type_ path (suc part.number) found.0.left) behind.0 behind.1))
    more_done (End type_ path NoItems) end is = subst (λ (e : Filled). Ends aggregates is_static type_ path NoItems e.plan) (same_Some _ end is) at_end
    more_done (End type_ path (Item [] is_moved initializer items)) end is =
        let behind = mapped _ (fill (End type_ path items)) end is in
        subst (λ (e : Filled). Ends aggregates is_static type_ path (Item [] is_moved initializer items) e.plan) behind.2
        (one_extra (done (End type_ path items) behind.0 behind.1))
    more_done (End type_ path (Item (designator ∷ designators) is_moved initializer items)) end is =
        let found = chained _ (find type_ (designator ∷ designators)) end is in
        designated_done type_ path designator designators is_moved initializer items end found.0 (are type_ (designator ∷ designators) found.0 found.1) found.2

  tasks_done : (find : TypeTree → List Designator → Option Way) → AreWays aggregates find → (depth : ℕ) (task : Task) (end : Filled)
      → filled aggregates is_static find depth task ≡ Some end → IsDone task end
  tasks_done find are zero task end is = absurd (cc is)
  tasks_done find are (suc depth) task end is = more_done find are (filled aggregates is_static find depth) (tasks_done find are depth) task end is

pub answers_are_outcomes : AnswersAreOutcomes
answers_are_outcomes aggregates is_static depth object initializer outcome is =
    let found = mapped _ (filled aggregates is_static (way_found aggregates depth) depth (Receive object [] false initializer)) outcome is in
    (found.0.plan, tasks_done aggregates is_static (way_found aggregates depth) (ways_lead aggregates depth) depth _ found.0 found.1, sym found.2)
