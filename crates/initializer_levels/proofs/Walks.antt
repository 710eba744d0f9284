-- What is left of a walk comes to what the whole comes to: turn by turn, from the end on.
use Rattle.std.proofs.Common.{◌≡◌, ℕ, max, Bool, true, false, ◌||◌, not, List, [], ◌∷◌, ◌++◌, Option, Some, None, refl, sym, ap, subst, ◌∙◌, arith, if◌then◌else◌}
use Rattle.std.proofs.Math.Bool.{or_assoc}
use Rattle.std.proofs.lemmas.Bool.{false≢true}
use Rattle.std.proofs.lemmas.List.{append_assoc, append-nil}
use Rattle.std.proofs.lemmas.Option.{same_Some}
use Rattle.meaning_types.specs.Types.{TypeTree}
use Rattle.meaning_initializers.specs.Items.{Given, Designator, Initializer, Value, Braces, Items, NoItems, Item, begins_undesignated, from_designator}
use Rattle.meaning_initializers.specs.Parts.{Aggregates, Part, part_from, path_to, is_array, string_before, takes_whole}
use Rattle.meaning_initializers.specs.Designators.{Way, Along, Nowhere, through, Leads, to_part, into, to_none, unknown}
use Rattle.meaning_initializers.specs.Plans.{Leaf, Refusal, Plan, no_plan, followed, refused, extra, length_with, Filled, takes, takes_none, with_parts_behind}
use Rattle.meaning_initializers.specs.Filling.{part_for, fills_on, Receives, a_value, a_string, a_list, Fills, whole, by_parts, FillsParts, stops, goes_on, is_over, FillsAlong, arrived, deeper, Ends, at_end, one_extra, designated, nowhere}
use Rattle.meaning_initializers.specs.Reading.{refusal_told}
use Rattle.initializer_levels.specs.Levels.{Level, opened, at_part, designated_part, ended, behind_part, place_along}
use Rattle.initializer_levels.specs.Turns as turns
use Rattle.initializer_levels.specs.Turns.{Found, Walk, Turned, Goes, Done, next_part, received, received_braces, filled_if, Turns}
use Rattle.initializer_levels.specs.Laws.{IsFoundOf, WalksComeToPlans}
use Rattle.initializer_levels.proofs.Telling.{told-append, told-all}
use Rattle.initializer_levels.proofs.Joining.{plan_of, same_plan, filled_of, same_filled, before, before_filled, before-assoc}

max-assoc : (a b c : ℕ) → max (max a b) c ≡ max a (max b c)
max-assoc a b c = omega arith

max-none : (a : ℕ) → max a 0 ≡ a
max-none a = omega arith

none-max : (a : ℕ) → max 0 a ≡ a
none-max a = omega arith

or-none : (a : Bool) → (a || false) ≡ a
or-none true = refl
or-none false = refl

neither : (a b : Bool) → (a || b) ≡ false → (a ≡ false) × (b ≡ false)
neither true b is = absurd (cc is)
neither false b is = (refl, is)

abbrev Found-of : List Leaf → Option Refusal → Found
Found-of leaves told = record { leaves = leaves; told = told }

module _ (aggregates : Aggregates) (is_static : Bool) where
  -- A part that takes no item counts for no length

  mutual
    none_counted : {type_ : TypeTree} {path : List ℕ} {items : Items} {filled : Filled} → Fills aggregates is_static type_ path items filled → filled.is_filled ≡ false
        → filled.plan.length ≡ 0
    none_counted (whole is plan) none = absurd (false≢true (sym none))
    none_counted (by_parts is parts) none = no_parts_counted parts none

    no_parts_counted : {type_ : TypeTree} {path : List ℕ} {number : ℕ} {items : Items} {filled : Filled}
        → FillsParts aggregates is_static type_ path number items filled → filled.is_filled ≡ false → filled.plan.length ≡ 0
    no_parts_counted (stops is) none = refl
    no_parts_counted (goes_on {part = part} {filled = filled} {behind = behind} is fills on parts) none =
        let both = neither filled.is_filled behind.is_filled none in
        ap (λ (b : Bool). max (length_with part.number b) behind.plan.length) both.0 ∙ (none-max behind.plan.length ∙ no_parts_counted parts both.1)
    no_parts_counted (is_over is fills on) none = none_counted fills none

  -- Levels

  -- what a level comes to in all, where its parts are filled so from now on
  abbrev gone : Level → Filled → Filled
  gone level filled =
      filled_of (plan_of filled.plan.leaves filled.plan.refusals (max level.length filled.plan.length)) filled.left (level.is_filled || filled.is_filled)

  abbrev braced : Level → Filled → Plan → (behind : Items) → Filled
  braced level filled plan behind =
      filled_of (plan_of (filled.plan.leaves ++ plan.leaves) (filled.plan.refusals ++ plan.refusals) (max level.length (max filled.plan.length plan.length))) behind true

  abbrev ClosesWith : Level → Option Items → (Filled → Type 0) → Filled → Type 0
  ClosesWith level None Fill closed = (filled : Filled) × Fill filled × (closed ≡ gone level filled)
  ClosesWith level (Some behind) Fill closed =
      (filled : Filled) × (plan : Plan) × Fill filled × Ends aggregates is_static level.type_ level.path filled.left plan × (closed ≡ braced level filled plan behind)

  abbrev Closes : Level → (Filled → Type 0) → Filled → Type 0
  Closes level Fill closed = ClosesWith level level.behind Fill closed

  -- how parts are filled from a level on
  abbrev FromIf : Bool → Level → Items → Filled → Type 0
  FromIf true level items filled = filled ≡ takes_none items
  FromIf false level items filled = FillsParts aggregates is_static level.type_ level.path level.number items filled

  abbrev From : Level → Items → Filled → Type 0
  From level items filled = FromIf level.is_over level items filled

  -- these levels come to this plan, where the parts of the innermost one are filled so
  abbrev RunsBy : List Level → Level → (Filled → Type 0) → Plan → Type 0
  RunsBy [] level Fill plan = (closed : Filled) × Closes level Fill closed × (plan ≡ closed.plan)
  RunsBy (outer ∷ levels) level Fill plan =
      (closed : Filled) × (rest : Plan) × Closes level Fill closed
      × RunsBy levels (behind_part outer closed.is_filled) (From (behind_part outer closed.is_filled) closed.left) rest × (plan ≡ before closed.plan rest)

  abbrev Runs : Level → List Level → Items → Plan → Type 0
  Runs level levels items plan = RunsBy levels level (From level items) plan

  -- behind the innermost level
  abbrev RunsOut : Filled → List Level → Plan → Type 0
  RunsOut closed [] plan = plan ≡ closed.plan
  RunsOut closed (outer ∷ levels) plan = (rest : Plan) × Runs (behind_part outer closed.is_filled) levels closed.left rest × (plan ≡ before closed.plan rest)

  runs_out : (levels : List Level) (level : Level) (Fill : Filled → Type 0) (closed : Filled) (plan : Plan) → Closes level Fill closed → RunsOut closed levels plan
      → RunsBy levels level Fill plan
  runs_out [] level Fill closed plan closes out = (closed, closes, out)
  runs_out (outer ∷ levels) level Fill closed plan closes out = (closed, out.0, closes, out.1, out.2)

  out_of : (levels : List Level) (level : Level) (Fill : Filled → Type 0) (plan : Plan) → RunsBy levels level Fill plan
      → (closed : Filled) × Closes level Fill closed × RunsOut closed levels plan
  out_of [] level Fill plan runs = (runs.0, runs.1, runs.2)
  out_of (outer ∷ levels) level Fill plan runs = (runs.0, runs.2, (runs.1, runs.3, runs.4))

  out_before : (levels : List Level) (plan : Plan) (closed : Filled) (rest : Plan) → RunsOut closed levels rest → RunsOut (before_filled plan closed) levels (before plan rest)
  out_before [] plan closed rest out = ap (before plan) out
  out_before (outer ∷ levels) plan closed rest out = (out.0, out.1, ap (before plan) out.2 ∙ before-assoc plan closed.plan out.0)

  -- Where a level comes to more than another one by a plan, so do the levels.
  abbrev Adds : (level : Level) → (Filled → Type 0) → Plan → (next : Level) → (Filled → Type 0) → Type 0
  Adds level Fill plan next FillNext = (closed : Filled) → Closes next FillNext closed → Closes level Fill (before_filled plan closed)

  runs_before : (levels : List Level) (level next : Level) (Fill FillNext : Filled → Type 0) (plan rest : Plan) → Adds level Fill plan next FillNext
      → RunsBy levels next FillNext rest → RunsBy levels level Fill (before plan rest)
  runs_before levels level next Fill FillNext plan rest adds runs =
      let out = out_of levels next FillNext rest runs in
      runs_out levels level Fill (before_filled plan out.0) (before plan rest) (adds out.0 out.1) (out_before levels plan out.0 rest out.2)

  -- A level and what it takes, against what another one takes
  record Joins (level next : Level) (plan : Plan) (filled more : Filled) : Type 0 where
    pub leaves : filled.plan.leaves ≡ plan.leaves ++ more.plan.leaves
    pub refusals : filled.plan.refusals ≡ plan.refusals ++ more.plan.refusals
    pub len : max level.length filled.plan.length ≡ max next.length more.plan.length
    pub left : filled.left ≡ more.left
    pub is_filled : (level.is_filled || filled.is_filled) ≡ (next.is_filled || more.is_filled)

  joined_gone : (level next : Level) (plan : Plan) (filled more : Filled) → Joins level next plan filled more → before_filled plan (gone next more) ≡ gone level filled
  joined_gone level next plan filled more joins =
      same_filled _ _ more.left filled.left _ _ (same_plan _ _ _ _ _ _ (sym joins.leaves) (sym joins.refusals) (sym joins.len)) (sym joins.left) (sym joins.is_filled)

  joined_braced : (level next : Level) (plan : Plan) (filled more : Filled) (ending : Plan) (behind : Items) → Joins level next plan filled more
      → before_filled plan (braced next more ending behind) ≡ braced level filled ending behind
  joined_braced level next plan filled more ending behind joins =
      same_filled _ _ behind behind true true
      (same_plan _ _ _ _ _ _
      (sym (append_assoc plan.leaves more.plan.leaves ending.leaves) ∙ ap (λ (l : List Leaf). l ++ ending.leaves) (sym joins.leaves))
      (sym (append_assoc plan.refusals more.plan.refusals ending.refusals) ∙ ap (λ (r : List Refusal). r ++ ending.refusals) (sym joins.refusals))
      (sym (max-assoc next.length more.plan.length ending.length) ∙ (ap (λ (n : ℕ). max n ending.length) (sym joins.len) ∙ max-assoc level.length filled.plan.length ending.length)))
      refl refl

  joins_add : (level next : Level) (plan : Plan) (Fill FillNext : Filled → Type 0)
      → ((left : Items) (ending : Plan) → Ends aggregates is_static next.type_ next.path left ending → Ends aggregates is_static level.type_ level.path left ending)
      → ((more : Filled) → FillNext more → (filled : Filled) × Fill filled × Joins level next plan filled more)
      → (behind : Option Items) (closed : Filled) → ClosesWith next behind FillNext closed → ClosesWith level behind Fill (before_filled plan closed)
  joins_add level next plan Fill FillNext ends joins None closed closes =
      let filled = joins closes.0 closes.1 in
      (filled.0, filled.1, ap (before_filled plan) closes.2 ∙ joined_gone level next plan filled.0 closes.0 filled.2)
  joins_add level next plan Fill FillNext ends joins (Some behind) closed closes =
      let filled = joins closes.0 closes.2 in (
        filled.0,
        closes.1,
        filled.1,
        subst (λ (left : Items). Ends aggregates is_static level.type_ level.path left closes.1) (sym filled.2.left) (ends closes.0.left closes.1 closes.3),
        ap (before_filled plan) closes.4 ∙ joined_braced level next plan filled.0 closes.0 closes.1 behind filled.2,
      )

  -- A part that takes items, and those behind it

  behind_joins : (level : Level) (part : Part) (filled more : Filled)
      → Joins level (behind_part (at_part part.number level) filled.is_filled) filled.plan (with_parts_behind part.number filled more) more
  behind_joins level part filled more =
      record {
        leaves = refl;
        refusals = refl;
        len = sym (max-assoc level.length (length_with part.number filled.is_filled) more.plan.length);
        left = refl;
        is_filled = sym (or_assoc level.is_filled filled.is_filled more.is_filled);
      }

  over_joins : (level : Level) (part : Part) (filled : Filled) → filled.is_filled ≡ false → filled.plan.length ≡ 0
      → Joins level (behind_part (at_part part.number level) filled.is_filled) filled.plan filled (takes_none filled.left)
  over_joins level part filled none len =
      record {
        leaves = sym (append-nil filled.plan.leaves);
        refusals = sym (append-nil filled.plan.refusals);
        len = ap (max level.length) (len ∙ ap (length_with part.number) (sym none)) ∙ sym (max-none (max level.length (length_with part.number filled.is_filled)));
        left = refl;
        is_filled = sym (or-none (level.is_filled || filled.is_filled));
      }

  part_joins : (level : Level) (items : Items) (part : Part) (filled : Filled) (goes : Bool) → part_for aggregates level.type_ level.number items ≡ Some part
      → Fills aggregates is_static part.type_ (path_to level.type_ level.path part) items filled → fills_on level.type_ filled ≡ goes
      → (more : Filled) → FromIf (not goes) (behind_part (at_part part.number level) filled.is_filled) filled.left more
      → (all : Filled) × FillsParts aggregates is_static level.type_ level.path level.number items all
      × Joins level (behind_part (at_part part.number level) filled.is_filled) filled.plan all more
  part_joins level items part filled true is fills on more from =
      (with_parts_behind part.number filled more, goes_on is fills on from, behind_joins level part filled more)
  part_joins level items part filled false is fills on more from =
      let none = (neither filled.is_filled (not (is_array level.type_)) on).0 in (
        filled,
        is_over is fills on,
        subst (λ (m : Filled). Joins level (behind_part (at_part part.number level) filled.is_filled) filled.plan filled m) (sym from)
            (over_joins level part filled none (none_counted fills none)),
      )

  next_is : (over : Bool) (found : Option Part) (part : Part) → (if over then None else found) ≡ Some part → (over ≡ false) × (found ≡ Some part)
  next_is true found part is = absurd (cc is)
  next_is false found part is = (refl, is)

  runs_part : (levels : List Level) (level : Level) (items : Items) (part : Part) (filled : Filled) (rest : Plan) → next_part aggregates level items ≡ Some part
      → Fills aggregates is_static part.type_ (path_to level.type_ level.path part) items filled
      → Runs (behind_part (at_part part.number level) filled.is_filled) levels filled.left rest → Runs level levels items (before filled.plan rest)
  runs_part levels level items part filled rest is fills runs =
      let next = behind_part (at_part part.number level) filled.is_filled in
      let found = next_is level.is_over (part_for aggregates level.type_ level.number items) part is in
      runs_before levels level next (From level items) (From next filled.left) filled.plan rest
      (joins_add level next filled.plan (From level items) (From next filled.left) (λ left ending ends. ends)
      (λ more from.
      let all = part_joins level items part filled (fills_on level.type_ filled) found.1 fills refl more from in
      (all.0, subst (λ (over : Bool). FromIf over level items all.0) (sym found.0) all.1, all.2))
      level.behind)
      runs

  -- What a walk adds where it goes on, so that what it comes to is reached

  abbrev Back : Found → Walk → (Plan → Type 0) → Type 0
  Back found walk Target =
      (added : Plan) × (walk.found ≡ turns.found_behind found added) × ((rest : Plan) → Runs walk.level walk.levels walk.items rest → Target (before added rest))

  nothing_more : (found : Found) → found ≡ turns.found_behind found no_plan
  nothing_more found = ap (λ (l : List Leaf). Found-of l found.told) (sym (append-nil found.leaves))

  -- A part in these levels takes the next item

  module _ (found : Found) (Target : Plan → Type 0) (type_ : TypeTree) (path : List ℕ) (level : Level) (levels : List Level) (behind : Items) where
    -- whatever the part takes of these items, the levels behind it come to the target
    abbrev Reaches : Items → Type 0
    Reaches items =
        (filled : Filled) → Fills aggregates is_static type_ path items filled
        → (rest : Plan) → Runs (behind_part level filled.is_filled) levels filled.left rest → Target (before filled.plan rest)

    whole_back : (is_moved : Bool) (initializer : Initializer) → takes_whole type_ initializer ≡ true → Reaches (Item [] is_moved initializer behind) → (plan : Plan)
        → Receives aggregates is_static type_ path is_moved initializer plan
        → Back found (record { found = turns.found_behind found plan; level = behind_part level true; levels = levels; items = behind }) Target
    whole_back is_moved initializer is reaches plan receives = (plan, refl, λ rest runs. reaches (takes plan behind) (whole is receives) rest runs)

    braces_back : (is_moved : Bool) (handle token : ℕ) (inner : Items) → Reaches (Item [] is_moved (Braces handle token inner) behind)
        → (string : Option (Given × Items)) → string_before type_ inner ≡ string
        → Back found (received_braces is_static found type_ path level levels is_moved inner behind string) Target
    braces_back is_moved handle token inner reaches (Some string) is = whole_back is_moved (Braces handle token inner) refl reaches _ (a_string is)
    braces_back is_moved handle token inner reaches None is = (
      no_plan,
      nothing_more found,
      λ rest runs.
          let plan = followed runs.2.0.plan runs.2.1 in
          let reached = reaches (takes plan behind) (whole refl (a_list is runs.2.2 runs.2.3)) runs.1 (subst (λ (c : Filled). Runs (behind_part level c.is_filled) levels c.left runs.1) runs.2.4 runs.3) in
          subst Target (ap (λ (c : Filled). before c.plan runs.1) (sym runs.2.4) ∙ sym runs.4) reached,
    )

    received_back : (is_moved : Bool) (initializer : Initializer) → takes_whole type_ initializer ≡ true → Reaches (Item [] is_moved initializer behind)
        → Back found (received is_static found type_ path level levels is_moved initializer behind) Target
    received_back is_moved (Value given) is reaches = whole_back is_moved (Value given) is reaches _ a_value
    received_back is_moved (Braces handle token inner) is reaches = braces_back is_moved handle token inner reaches (string_before type_ inner) refl

    filled_back : (is_moved : Bool) (initializer : Initializer) (is_whole : Bool) → takes_whole type_ initializer ≡ is_whole → Reaches (Item [] is_moved initializer behind)
        → Back found (filled_if is_static is_whole found type_ path level levels is_moved initializer behind) Target
    filled_back is_moved initializer true is reaches = received_back is_moved initializer is reaches
    filled_back is_moved initializer false is reaches = (
      no_plan,
      nothing_more found,
      λ rest runs.
          let reached = reaches runs.2.0 (by_parts is runs.2.1) runs.1 (subst (λ (c : Filled). Runs (behind_part level c.is_filled) levels c.left runs.1) runs.2.2 runs.3) in
          subst Target (ap (λ (c : Filled). before c.plan runs.1) (sym runs.2.2) ∙ sym runs.4) reached,
    )

  -- Levels to which designators lead

  abbrev Along-of : Level → List Part → Items → Filled → Type 0
  Along-of level way items filled = FillsAlong aggregates is_static level.type_ level.path way items filled

  deeper_joins : (levels : List Level) (level : Level) (part : Part) (way : List Part) (items : Items) (filled : Filled) (rest : Plan)
      → FillsAlong aggregates is_static part.type_ (path_to level.type_ level.path part) way items filled
      → Runs (behind_part (designated_part part.number level) filled.is_filled) levels filled.left rest
      → RunsBy levels level (Along-of level (part ∷ way) items) (before filled.plan rest)
  deeper_joins levels level part way items filled rest along runs =
      let next = behind_part (designated_part part.number level) filled.is_filled in
      runs_before levels level next (Along-of level (part ∷ way) items) (From next filled.left) filled.plan rest
      (joins_add level next filled.plan (Along-of level (part ∷ way) items) (From next filled.left) (λ left ending ends. ends)
      (λ more from. (
        with_parts_behind part.number filled more,
        deeper along from,
        record {
          leaves = refl;
          refusals = refl;
          len = sym (max-assoc level.length (length_with part.number filled.is_filled) more.plan.length);
          left = refl;
          is_filled = sym (or_assoc level.is_filled filled.is_filled more.is_filled);
        },
      ))
      level.behind)
      runs

  along_back : (found : Found) (initializer : Initializer) (behind : Items) (level : Level) (levels : List Level) (part : Part) (way : List Part)
      → Back found (turns.filled_place is_static found (place_along level levels part way) initializer behind)
      (λ plan. RunsBy levels level (Along-of level (part ∷ way) (Item [] true initializer behind)) plan)
  along_back found initializer behind level levels part [] =
      filled_back found (λ plan. RunsBy levels level (Along-of level (part ∷ []) (Item [] true initializer behind)) plan) part.type_ (path_to level.type_ level.path part)
      (designated_part part.number level) levels behind true initializer (takes_whole part.type_ initializer) refl
      (λ filled fills rest runs. deeper_joins levels level part [] (Item [] true initializer behind) filled rest (arrived fills) runs)
  along_back found initializer behind level levels part (next ∷ way) =
      let inner = opened part.type_ (path_to level.type_ level.path part) None in
      let back = along_back found initializer behind inner (designated_part part.number level ∷ levels) next way in (
        back.0,
        back.1,
        λ rest runs.
            let out = back.2 rest runs in
            let reached =
            deeper_joins levels level part (next ∷ way) (Item [] true initializer behind) out.2.0 out.1 out.2.1
            (subst (λ (c : Filled). Runs (behind_part (designated_part part.number level) c.is_filled) levels c.left out.1) out.2.2 out.3) in
            subst (λ (plan : Plan). RunsBy levels level (Along-of level (part ∷ next ∷ way) (Item [] true initializer behind)) plan)
            (ap (λ (c : Filled). before c.plan out.1) (sym out.2.2) ∙ sym out.4) reached,
      )

  -- The end of braces

  none_from : (level : Level) (items : Items) (over : Bool) → (if over then None else part_for aggregates level.type_ level.number items) ≡ None
      → FromIf over level items (takes_none items)
  none_from level items true is = refl
  none_from level items false is = stops is

  no_next : (level : Level) (items : Items) → next_part aggregates level items ≡ None → From level items (takes_none items)
  no_next level items is = none_from level items level.is_over is

  -- an item that no part takes as the next one
  abbrev IsNotNext : Items → Type 0
  IsNotNext items = begins_undesignated items ≡ false

  not_undesignated : (level : Level) (items : Items) (over : Bool) → IsNotNext items
      → (if over then None else part_for aggregates level.type_ level.number items) ≡ None
  not_undesignated level items true is = refl
  not_undesignated level items false is = ap (λ (b : Bool). if b then part_from aggregates level.type_ level.number else None) is

  not_next : (level : Level) (items : Items) → IsNotNext items → From level items (takes_none items)
  not_next level items is = no_next level items (not_undesignated level items level.is_over is)

  -- where the level is over, behind items that have no place
  ended_braced : (level : Level) (refusals : List Refusal) (ending : Plan) (left items behind : Items)
      → before_filled (refused refusals no_plan) (braced (ended level) (takes_none left) ending behind) ≡ braced level (takes_none items) (refused refusals ending) behind
  ended_braced level refusals ending left items behind =
      same_filled _ _ behind behind true true
      (same_plan _ _ _ _ _ _ refl (ap (λ (r : List Refusal). r ++ ending.refusals) (append-nil refusals)) refl) refl refl

  extra_adds : (level : Level) (refusals : List Refusal) (items left : Items) (b : Option Items) (behind : Items) → b ≡ Some behind → From level items (takes_none items)
      → ((ending : Plan) → Ends aggregates is_static level.type_ level.path left ending → Ends aggregates is_static level.type_ level.path items (refused refusals ending))
      → (closed : Filled) → ClosesWith (ended level) b (From (ended level) left) closed → ClosesWith level b (From level items) (before_filled (refused refusals no_plan) closed)
  extra_adds level refusals items left None behind is from ends closed closes = absurd (cc is)
  extra_adds level refusals items left (Some outer) behind is from ends closed closes = (
    takes_none items,
    refused refusals closes.1,
    from,
    ends closes.1 (subst (λ (m : Filled). Ends aggregates is_static level.type_ level.path m.left closes.1) closes.2 closes.3),
    ap (before_filled (refused refusals no_plan)) (closes.4 ∙ ap (λ (m : Filled). braced (ended level) m closes.1 outer) closes.2)
        ∙ ended_braced level refusals closes.1 left items outer,
  )

  extra_back : (levels : List Level) (level : Level) (refusals : List Refusal) (items left behind : Items) (rest : Plan) → level.behind ≡ Some behind → From level items (takes_none items)
      → ((ending : Plan) → Ends aggregates is_static level.type_ level.path left ending → Ends aggregates is_static level.type_ level.path items (refused refusals ending))
      → Runs (ended level) levels left rest → Runs level levels items (before (refused refusals no_plan) rest)
  extra_back levels level refusals items left behind rest is from ends runs =
      runs_before levels level (ended level) (From level items) (From (ended level) left) (refused refusals no_plan) rest
      (extra_adds level refusals items left level.behind behind is from ends) runs

  -- designators in the braces of a level
  designated_braced : (level : Level) (filled : Filled) (ending : Plan) (items behind : Items)
      → braced level filled ending behind ≡ braced level (takes_none items) (followed filled.plan ending) behind
  designated_braced level filled ending items behind =
      same_filled _ _ behind behind true true
      (same_plan _ _ _ _ _ _ refl refl (ap (max level.length) (sym (none-max (max filled.plan.length ending.length))))) refl refl

  designated_closes : (level : Level) (b : Option Items) (behind : Items) (way : List Part) (designator : Designator) (designators : List Designator) (is_moved : Bool)
      (initializer : Initializer) (items : Items) → b ≡ Some behind → Leads aggregates level.type_ (designator ∷ designators) (Along way)
      → (closed : Filled) → ClosesWith level b (Along-of level way (Item [] true initializer items)) closed
      → ClosesWith level b (From level (Item (designator ∷ designators) is_moved initializer items)) closed
  designated_closes level None behind way designator designators is_moved initializer items is leads closed closes = absurd (cc is)
  designated_closes level (Some outer) behind way designator designators is_moved initializer items is leads closed closes =
      let whole_items = Item (designator ∷ designators) is_moved initializer items in (
        takes_none whole_items,
        followed closes.0.plan closes.1,
        not_next level whole_items refl,
        designated leads closes.2 closes.3,
        closes.4 ∙ designated_braced level closes.0 closes.1 whole_items outer,
      )

  designated_back : (levels : List Level) (level : Level) (behind : Items) (way : List Part) (designator : Designator) (designators : List Designator) (is_moved : Bool)
      (initializer : Initializer) (items : Items) (plan : Plan) → level.behind ≡ Some behind → Leads aggregates level.type_ (designator ∷ designators) (Along way)
      → RunsBy levels level (Along-of level way (Item [] true initializer items)) plan
      → Runs level levels (Item (designator ∷ designators) is_moved initializer items) plan
  designated_back levels level behind way designator designators is_moved initializer items plan is leads runs =
      let out = out_of levels level (Along-of level way (Item [] true initializer items)) plan runs in
      runs_out levels level (From level (Item (designator ∷ designators) is_moved initializer items)) out.0 plan
      (designated_closes level level.behind behind way designator designators is_moved initializer items is leads out.0 out.1) out.2

  -- Behind a level

  abbrev TurnsBack : Walk → Turned → Type 0
  TurnsBack walk (Goes next) = Back walk.found next (λ plan. Runs walk.level walk.levels walk.items plan)
  TurnsBack walk (Done found length) = (found ≡ walk.found) × Runs walk.level walk.levels walk.items (plan_of [] [] length)

  abbrev none_of : Level → (is_filled : Bool) → Items → Filled
  none_of level is_filled left = filled_of (plan_of [] [] level.length) left is_filled

  out_back : (found : Found) (levels : List Level) (level : Level) (is_filled : Bool) (items left : Items)
      → Closes level (From level items) (none_of level is_filled left)
      → TurnsBack (record { found = found; level = level; levels = levels; items = items }) (turns.turned_out found level is_filled levels left)
  out_back found [] level is_filled items left closes = (refl, (none_of level is_filled left, closes, refl))
  out_back found (outer ∷ levels) level is_filled items left closes = (no_plan, nothing_more found, λ rest runs. (none_of level is_filled left, rest, closes, runs, refl))

  open_closes : (level : Level) (items : Items) (b : Option Items) → b ≡ None → From level items (takes_none items)
      → ClosesWith level b (From level items) (none_of level level.is_filled items)
  open_closes level items (Some behind) is from = absurd (cc is)
  open_closes level items None is from =
      (takes_none items, from, same_filled _ _ items items _ _ (same_plan _ _ _ _ _ _ refl refl (sym (max-none level.length))) refl (sym (or-none level.is_filled)))

  braces_close : (level : Level) (b : Option Items) (behind : Items) → b ≡ Some behind → ClosesWith level b (From level NoItems) (none_of level true behind)
  braces_close level None behind is = absurd (cc is)
  braces_close level (Some outer) behind is = (
    takes_none NoItems,
    no_plan,
    not_next level NoItems refl,
    at_end,
    same_filled _ _ behind outer true true (same_plan _ _ _ _ _ _ refl refl (sym (max-none level.length) ∙ ap (max level.length) (sym (none-max 0))))
        (sym (same_Some outer behind is)) refl,
  )

  -- Turns

  abbrev Begins : Way → Type 0
  Begins (Along []) = ⊥
  Begins (Along (part ∷ way)) = Unit {0}
  Begins (Nowhere refusals) = Unit {0}

  through_begins : (part : Part) (way : Way) → Begins (through part way)
  through_begins part (Along way) = tt
  through_begins part (Nowhere refusals) = tt

  way_begins : {type_ : TypeTree} {designator : Designator} {designators : List Designator} {way : Way} → Leads aggregates type_ (designator ∷ designators) way → Begins way
  way_begins (to_part {part = part} {way = way} is leads) = through_begins part way
  way_begins (into {part = part} {way = way} is leads) = through_begins part way
  way_begins (to_none is) = tt
  way_begins (unknown is) = tt

  way_back : (found : Found) (levels : List Level) (level : Level) (behind : Items) (designator : Designator) (designators : List Designator) (is_moved : Bool)
      (initializer : Initializer) (items : Items) (way : Way) → level.behind ≡ Some behind → Leads aggregates level.type_ (designator ∷ designators) way
      → Back found (turns.turned_along is_static found level levels initializer items way)
      (λ plan. Runs level levels (Item (designator ∷ designators) is_moved initializer items) plan)
  way_back found levels level behind designator designators is_moved initializer items (Along []) is leads = absurd (way_begins leads)
  way_back found levels level behind designator designators is_moved initializer items (Along (part ∷ way)) is leads =
      let back = along_back found initializer items level levels part way in (
        back.0,
        back.1,
        λ rest runs. designated_back levels level behind (part ∷ way) designator designators is_moved initializer items (before back.0 rest) is leads (back.2 rest runs),
      )
  way_back found levels level behind designator designators is_moved initializer items (Nowhere refusals) is leads =
      let whole_items = Item (designator ∷ designators) is_moved initializer items in (
        refused refusals no_plan,
        refl,
        λ rest runs. extra_back levels level refusals whole_items (from_designator items) behind rest is (not_next level whole_items refl) (λ ending ends. nowhere leads ends) runs,
      )

  turn_back : {walk : Walk} {next : Turned} → Turns aggregates is_static walk next → TurnsBack walk next
  turn_back (turns.part {found = found} {level = level} {levels = levels} {is_moved = is_moved} {initializer = initializer} {items = items} {next = next} is) =
      filled_back found (λ plan. Runs level levels (Item [] is_moved initializer items) plan) next.type_ (path_to level.type_ level.path next) (at_part next.number level) levels items
      is_moved initializer (takes_whole next.type_ initializer) refl
      (λ filled fills rest runs. runs_part levels level (Item [] is_moved initializer items) next filled rest is fills runs)
  turn_back (turns.out {found = found} {level = level} {levels = levels} {items = items} is unbraced) =
      out_back found levels level level.is_filled items items (open_closes level items level.behind unbraced (no_next level items is))
  turn_back (turns.closed {found = found} {level = level} {levels = levels} {behind = behind} is) =
      out_back found levels level true NoItems behind (braces_close level level.behind behind is)
  turn_back (turns.none {found = found} {level = level} {levels = levels} {is_moved = is_moved} {initializer = initializer} {items = items} {behind = behind} is braces) =
      let whole_items = Item [] is_moved initializer items in (
        refused (extra initializer) no_plan,
        refl,
        λ rest runs. extra_back levels level (extra initializer) whole_items items behind rest braces (no_next level whole_items is) (λ ending ends. one_extra ends) runs,
      )
  turn_back (turns.designated {found = found} {level = level} {levels = levels} {designator = designator} {designators = designators} {is_moved = is_moved}
      {initializer = initializer} {items = items} {behind = behind} {way = way} is leads) =
      way_back found levels level behind designator designators is_moved initializer items way is leads

  -- Whole walks

  -- what was found so far, with this plan, comes to that
  record LeadsOn (found : Found) (plan : Plan) (end : Found) (length : ℕ) : Type 0 where
    pub leaves : found.leaves ++ plan.leaves ≡ end.leaves
    pub told : turns.told_behind found.told plan.refusals ≡ end.told
    pub len : plan.length ≡ length

  abbrev IsLeft : Walk → Found → ℕ → Type 0
  IsLeft walk end length = (plan : Plan) × Runs walk.level walk.levels walk.items plan × LeadsOn walk.found plan end length

  leads_behind : (found : Found) (added rest : Plan) (end : Found) (length : ℕ) → LeadsOn (turns.found_behind found added) rest end length
      → LeadsOn found (before added rest) end length
  leads_behind found added rest end length leads =
      record {
        leaves = sym (append_assoc found.leaves added.leaves rest.leaves) ∙ leads.leaves;
        told = told-append found.told added.refusals rest.refusals ∙ leads.told;
        len = leads.len;
      }

  left_behind : (walk next : Walk) (end : Found) (length : ℕ) → TurnsBack walk (Goes next) → IsLeft next end length → IsLeft walk end length
  left_behind walk next end length back left = (
    before back.0 left.0,
    back.2 left.0 left.1,
    leads_behind walk.found back.0 left.0 end length (subst (λ (f : Found). LeadsOn f left.0 end length) back.1 left.2),
  )

  is_left : {walk : Walk} {end : Found} {length : ℕ} → turns.Comes aggregates is_static walk end length → IsLeft walk end length
  is_left {walk = walk} {end = end} {length = length} (turns.done turn) =
      let back = turn_back turn in (
        plan_of [] [] length,
        back.1,
        record { leaves = append-nil walk.found.leaves ∙ ap (λ (f : Found). f.leaves) (sym back.0); told = ap (λ (f : Found). f.told) (sym back.0); len = refl },
      )
  is_left {walk = walk} {end = end} {length = length} (turns.turned {next = next} turn comes) =
      left_behind walk next end length (turn_back turn) (is_left comes)

  received_of : (object : TypeTree) (handle token : ℕ) (items : Items) (end : Found) (length : ℕ) → string_before object items ≡ None
      → IsLeft (turns.begun object items) end length
      → (plan : Plan) × Receives aggregates is_static object [] false (Braces handle token items) plan × IsFoundOf plan end length
  received_of object handle token items end length none left =
      let closes = left.1.1 in
      let plan = followed closes.0.plan closes.1 in
      let same : left.0 ≡ plan =
      left.1.2 ∙ (ap (λ (c : Filled). c.plan) closes.4 ∙ same_plan _ _ _ _ _ _ refl refl (none-max (max closes.0.plan.length closes.1.length))) in (
        plan,
        a_list none closes.2 closes.3,
        record {
          leaves = ap (λ (p : Plan). p.leaves) (sym same) ∙ left.2.leaves;
          told = ap (λ (p : Plan). refusal_told p.refusals) (sym same) ∙ (sym (told-all left.0.refusals) ∙ left.2.told);
          len = ap (λ (p : Plan). p.length) (sym same) ∙ left.2.len;
        },
      )

pub walks_come_to_plans : WalksComeToPlans
walks_come_to_plans aggregates is_static object handle token items found length none comes =
    received_of aggregates is_static object handle token items found length none (is_left aggregates is_static comes)
