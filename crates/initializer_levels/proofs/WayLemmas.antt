-- Ways part by part: what completes the rest of a way completes the whole.
use Rattle.std.proofs.Common.{◌≡◌, ℕ, zero, suc, All, ◌+◌, ◌-◌, ◌<◌, ◌≤◌, List, [], ◌∷◌, ◌++◌, drop, length, map, take, refl, sym, ap, subst, ◌∙◌, arith}
use Rattle.std.proofs.Math.Seq.{drop-cons}
use Rattle.std.proofs.lemmas.List.{append-nil, drop_all, get_or-map, get_or-take, length-map, length-take, map-append}
use Rattle.meaning_types.specs.Types.{TypeTree}
use Rattle.meaning_typing.specs.Facts.{Fact}
use Rattle.meaning_typing.specs.Units.{UnitNodes, child_at, children_at, node_at}
use Rattle.meaning_initializers.specs.Items.{Designator}
use Rattle.meaning_initializers.specs.Parts.{Aggregates, Part}
use Rattle.meaning_initializers.specs.Designators.{Way, Along, Nowhere, through, Leads, there, to_part, into, to_none, unknown, step_of, ToPart, Into, NoPart, Unknown}
use Rattle.meaning_initializers.specs.Plans.{Refusal, no_part}
use Rattle.meaning_initializers.specs.Reading.{designator_at, designators_of, parts_before_last}
use Rattle.std.proofs.lemmas.List.Elements.{All-append}
use Rattle.c_types.specs.Table.{TypeTable}
use Rattle.initializer_levels.specs.declared.parts.Part as kept
use Rattle.initializer_levels.specs.Items.{parts_count}
use Rattle.initializer_levels.specs.Parts.{IsKnownPart, part_seen}
use Rattle.initializer_levels.specs.Ways.{Completes, all_through}

all_through-more : (parts : List Part) (part : Part) (way : Way) → all_through (parts ++ part ∷ []) way ≡ all_through parts (through part way)
all_through-more [] part way = refl
all_through-more (first ∷ parts) part way = ap (through first) (all_through-more parts part way)

all_through-along : (parts more : List Part) → all_through parts (Along more) ≡ Along (parts ++ more)
all_through-along [] more = refl
all_through-along (first ∷ parts) more = ap (through first) (all_through-along parts more)

all_through-nowhere : (parts : List Part) (refusals : List Refusal) → all_through parts (Nowhere refusals) ≡ Nowhere refusals
all_through-nowhere [] refusals = refl
all_through-nowhere (first ∷ parts) refusals = ap (through first) (all_through-nowhere parts refusals)

module _ (aggregates : Aggregates) (of : TypeTree) (all : List Designator) (within : TypeTree) (parts : List Part) where
  pub whole_way : (designators : List Designator) → designators ≡ [] → Completes aggregates within of designators all parts → Leads aggregates of all (Along parts)
  whole_way designators is completes =
      subst (Leads aggregates of all) (all_through-along parts [] ∙ ap Along (append-nil parts))
      (completes (Along []) (subst (λ (ds : List Designator). Leads aggregates within ds (Along [])) (sym is) there))

  module _ (designator : Designator) (designators left : List Designator) (is : left ≡ designator ∷ designators) (completes : Completes aggregates within of left all parts) where
    abbrev leads_first : (way : Way) → Leads aggregates within (designator ∷ designators) way → Leads aggregates of all (all_through parts way)
    leads_first way leads = completes way (subst (λ (ds : List Designator). Leads aggregates within ds way) (sym is) leads)

    pub over_part : (part : Part) → ToPart part ≡ step_of aggregates within designator.target
        → Completes aggregates part.type_ of designators all (parts ++ part ∷ [])
    over_part part step rest leads =
        subst (Leads aggregates of all) (sym (all_through-more parts part rest)) (leads_first (through part rest) (to_part (sym step) leads))

    pub into_part : (part : Part) → Into part ≡ step_of aggregates within designator.target → Completes aggregates part.type_ of left all (parts ++ part ∷ [])
    into_part part step rest leads =
        subst (Leads aggregates of all) (sym (all_through-more parts part rest))
        (leads_first (through part rest) (into (sym step) (subst (λ (ds : List Designator). Leads aggregates part.type_ ds rest) is leads)))

    pub to_no_part : NoPart ≡ step_of aggregates within designator.target → Leads aggregates of all (Nowhere (no_part designator))
    to_no_part step =
        subst (Leads aggregates of all) (all_through-nowhere parts (no_part designator)) (leads_first (Nowhere (no_part designator)) (to_none (sym step)))

    pub to_unknown : Unknown ≡ step_of aggregates within designator.target → Leads aggregates of all (Nowhere [])
    to_unknown step = subst (Leads aggregates of all) (all_through-nowhere parts []) (leads_first (Nowhere []) (unknown (sym step)))

-- One part more

one : (table : TypeTable) (part : kept.Part) → IsKnownPart table part → All (IsKnownPart table) (part ∷ [])
one table part known zero e within = known
one table part known (suc i) e within = absurd (omega (arith, within))

pub one_part : (table : TypeTable) (parts all : List kept.Part) (part : kept.Part) → all ≡ parts ++ part ∷ [] → All (IsKnownPart table) parts → IsKnownPart table part
    → All (IsKnownPart table) all
one_part table parts all part is known so =
    subst (All (IsKnownPart table)) (sym is) (All-append (IsKnownPart table) parts (part ∷ []) known (one table part so))

pub mapped_more : (table : TypeTable) (parts all : List kept.Part) (part : kept.Part) → all ≡ parts ++ part ∷ []
    → map (part_seen table) parts ++ part_seen table part ∷ [] ≡ map (part_seen table) all
mapped_more table parts all part is = sym (ap (map (part_seen table)) is ∙ map-append (part_seen table) parts (part ∷ []))

-- The designators of an item from one on

module _ (nodes : UnitNodes) (facts : List Fact) (item : ℕ) where
  count_of : length (designators_of nodes facts item) ≡ parts_count nodes item - 1
  count_of =
      let mapped = length-map (take (parts_before_last nodes item) (children_at nodes item)) (λ handle. designator_at nodes facts handle) in
      let taken = length-take (parts_before_last nodes item) (children_at nodes item) in
      let all = length-map (node_at nodes item).children (λ (child : ℕ × ℕ). child.0) in
      omega (arith, mapped, taken, all)

  pub none_left : (at : ℕ) → parts_count nodes item - 1 ≤ at → drop at (designators_of nodes facts item) ≡ []
  none_left at past = let count = count_of in drop_all at (designators_of nodes facts item) (omega (arith, past, count))

  pub next_left : (at : ℕ) → at < parts_count nodes item - 1
      → drop at (designators_of nodes facts item) ≡ designator_at nodes facts (child_at nodes item at) ∷ drop (at + 1) (designators_of nodes facts item)
  next_left at more =
      let count = count_of in
      let none = designator_at nodes facts 0 in
      let handles = take (parts_before_last nodes item) (children_at nodes item) in
      let taken = length-take (parts_before_last nodes item) (children_at nodes item) in
      let all = length-map (node_at nodes item).children (λ (child : ℕ × ℕ). child.0) in
      let within : at < length handles = omega (arith, more, taken, all) in
      let one_more : suc at ≡ at + 1 = omega arith in
      let below : at < length (designators_of nodes facts item) = omega (arith, more, count) in
      drop-cons (designators_of nodes facts item) at none below
      ∙ (ap (λ (d : Designator). d ∷ drop (suc at) (designators_of nodes facts item))
      (get_or-map (λ handle. designator_at nodes facts handle) handles at (length nodes) none within
      ∙ ap (λ handle. designator_at nodes facts handle) (get_or-take (parts_before_last nodes item) (children_at nodes item) at (length nodes) more))
      ∙ ap (λ (n : ℕ). designator_at nodes facts (child_at nodes item at) ∷ drop n (designators_of nodes facts item)) one_more)
