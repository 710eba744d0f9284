-- An initializer has one outcome at most: by what it fills, part by part.
use Rattle.std.proofs.Common.{◌≡◌, Bool, true, ℕ, suc, List, [], ◌∷◌, refl, sym, ap, subst, ◌∙◌}
use Rattle.std.proofs.lemmas.Bool.{false≢true}
use Rattle.std.proofs.lemmas.Option.{same_Some}
use Rattle.meaning_types.specs.Types.{TypeTree}
use Rattle.meaning_initializers.specs.Items.{Given, Designator, Initializer, Items, Item}
use Rattle.meaning_initializers.specs.Parts.{Aggregates, Part, path_to}
use Rattle.meaning_initializers.specs.Designators.{Way, through, Leads, there, to_part, into, to_none, unknown}
use Rattle.meaning_initializers.specs.Plans.{Refusal, Plan, Filled, followed, refused, with_parts_behind, string_alone, takes, extra}
use Rattle.meaning_initializers.specs.Filling.{fills_on, Receives, a_value, a_string, a_list, Fills, whole, by_parts, FillsParts, stops, goes_on, is_over, FillsAlong, arrived, deeper, Ends, at_end, one_extra, designated, nowhere, outcome_of}
use Rattle.meaning_initializers.specs.laws.Filling.{OutcomesAreUnique}

module _ (aggregates : Aggregates) where
  pub only_way : {type_ : TypeTree} {designators : List Designator} {first second : Way}
      → Leads aggregates type_ designators first → Leads aggregates type_ designators second → first ≡ second
  only_way there there = refl
  only_way (to_part {designators = designators} {part = part} s w) (to_part {part = other} {way = second} t v) =
      let one : part ≡ other = cc (sym s ∙ t) in
      ap (through part) (only_way w (subst (λ (p : Part). Leads aggregates p.type_ designators second) (sym one) v)) ∙ ap (λ (p : Part). through p second) one
  only_way (to_part s w) (into t v) = absurd (cc (sym s ∙ t))
  only_way (to_part s w) (to_none t) = absurd (cc (sym s ∙ t))
  only_way (to_part s w) (unknown t) = absurd (cc (sym s ∙ t))
  only_way (into s w) (to_part t v) = absurd (cc (sym s ∙ t))
  only_way (into {designator = designator} {designators = designators} {part = part} s w) (into {part = other} {way = second} t v) =
      let one : part ≡ other = cc (sym s ∙ t) in
      ap (through part) (only_way w (subst (λ (p : Part). Leads aggregates p.type_ (designator ∷ designators) second) (sym one) v))
      ∙ ap (λ (p : Part). through p second) one
  only_way (into s w) (to_none t) = absurd (cc (sym s ∙ t))
  only_way (into s w) (unknown t) = absurd (cc (sym s ∙ t))
  only_way (to_none s) (to_part t v) = absurd (cc (sym s ∙ t))
  only_way (to_none s) (into t v) = absurd (cc (sym s ∙ t))
  only_way (to_none s) (to_none t) = refl
  only_way (to_none s) (unknown t) = absurd (cc (sym s ∙ t))
  only_way (unknown s) (to_part t v) = absurd (cc (sym s ∙ t))
  only_way (unknown s) (into t v) = absurd (cc (sym s ∙ t))
  only_way (unknown s) (to_none t) = absurd (cc (sym s ∙ t))
  only_way (unknown s) (unknown t) = refl

  module _ (is_static : Bool) where
    mutual
      only_plan : {type_ : TypeTree} {path : List ℕ} {is_moved : Bool} {initializer : Initializer} {first second : Plan}
          → Receives aggregates is_static type_ path is_moved initializer first → Receives aggregates is_static type_ path is_moved initializer second → first ≡ second
      only_plan a_value a_value = refl
      only_plan {type_ = type_} {path = path} {is_moved = is_moved} (a_string s) (a_string t) =
          ap (λ (pair : Given × Items). string_alone is_static type_ path is_moved pair.0 pair.1) (same_Some _ _ (sym s ∙ t))
      only_plan (a_string s) (a_list t p f) = absurd (cc (sym s ∙ t))
      only_plan (a_list s p e) (a_string t) = absurd (cc (sym s ∙ t))
      only_plan {type_ = type_} {path = path} (a_list {filled = filled} s p e) (a_list {plan = second} t q f) =
          let one = only_parts p q in
          ap (followed filled.plan) (only_end e (subst (λ (end : Filled). Ends aggregates is_static type_ path end.left second) (sym one) f))
          ∙ ap (λ (end : Filled). followed end.plan second) one

      only_filled : {type_ : TypeTree} {path : List ℕ} {items : Items} {first second : Filled}
          → Fills aggregates is_static type_ path items first → Fills aggregates is_static type_ path items second → first ≡ second
      only_filled (whole {items = items} s r) (whole t u) = ap (λ (plan : Plan). takes plan items) (only_plan r u)
      only_filled (whole s r) (by_parts t q) = absurd (false≢true (sym t ∙ s))
      only_filled (by_parts s p) (whole t u) = absurd (false≢true (sym s ∙ t))
      only_filled (by_parts s p) (by_parts t q) = only_parts p q

      only_parts : {type_ : TypeTree} {path : List ℕ} {number : ℕ} {items : Items} {first second : Filled}
          → FillsParts aggregates is_static type_ path number items first → FillsParts aggregates is_static type_ path number items second → first ≡ second
      only_parts (stops s) (stops t) = refl
      only_parts (stops s) (goes_on t g h q) = absurd (cc (sym s ∙ t))
      only_parts (stops s) (is_over t g h) = absurd (cc (sym s ∙ t))
      only_parts (goes_on s f c p) (stops t) = absurd (cc (sym s ∙ t))
      only_parts {type_ = type_} {path = path} {items = items} (goes_on {part = part} {filled = filled} s f c p) (goes_on {part = other} {filled = end} {behind = second} t g h q) =
          let one : part ≡ other = same_Some part other (sym s ∙ t) in
          let same : filled ≡ end = only_filled f (subst (λ (k : Part). Fills aggregates is_static k.type_ (path_to type_ path k) items end) (sym one) g) in
          let here = subst (λ (k : Part). FillsParts aggregates is_static type_ path (suc k.number) end.left second) (sym one) q in
          ap (with_parts_behind part.number filled)
          (only_parts p (subst (λ (e : Filled). FillsParts aggregates is_static type_ path (suc part.number) e.left second) (sym same) here))
          ∙ (ap (λ (e : Filled). with_parts_behind part.number e second) same ∙ ap (λ (k : Part). with_parts_behind k.number end second) one)
      only_parts {type_ = type_} {path = path} {items = items} (goes_on {part = part} {filled = filled} s f c p) (is_over {part = other} {filled = end} t g h) =
          let one : part ≡ other = same_Some part other (sym s ∙ t) in
          let same : filled ≡ end = only_filled f (subst (λ (k : Part). Fills aggregates is_static k.type_ (path_to type_ path k) items end) (sym one) g) in
          absurd (false≢true (sym h ∙ (sym (ap (fills_on type_) same) ∙ c)))
      only_parts (is_over s f c) (stops t) = absurd (cc (sym s ∙ t))
      only_parts {type_ = type_} {path = path} {items = items} (is_over {part = part} {filled = filled} s f c) (goes_on {part = other} {filled = end} t g h q) =
          let one : part ≡ other = same_Some part other (sym s ∙ t) in
          let same : filled ≡ end = only_filled f (subst (λ (k : Part). Fills aggregates is_static k.type_ (path_to type_ path k) items end) (sym one) g) in
          absurd (false≢true (sym c ∙ (ap (fills_on type_) same ∙ h)))
      only_parts {type_ = type_} {path = path} {items = items} (is_over {part = part} {filled = filled} s f c) (is_over {part = other} {filled = end} t g h) =
          let one : part ≡ other = same_Some part other (sym s ∙ t) in
          only_filled f (subst (λ (k : Part). Fills aggregates is_static k.type_ (path_to type_ path k) items end) (sym one) g)

      only_along : {type_ : TypeTree} {path : List ℕ} {way : List Part} {items : Items} {first second : Filled}
          → FillsAlong aggregates is_static type_ path way items first → FillsAlong aggregates is_static type_ path way items second → first ≡ second
      only_along (arrived f) (arrived g) = only_filled f g
      only_along {type_ = type_} {path = path} (deeper {part = part} {filled = filled} f p) (deeper {filled = end} {behind = second} g q) =
          let same : filled ≡ end = only_along f g in
          ap (with_parts_behind part.number filled)
          (only_parts p (subst (λ (e : Filled). FillsParts aggregates is_static type_ path (suc part.number) e.left second) (sym same) q))
          ∙ ap (λ (e : Filled). with_parts_behind part.number e second) same

      only_end : {type_ : TypeTree} {path : List ℕ} {items : Items} {first second : Plan}
          → Ends aggregates is_static type_ path items first → Ends aggregates is_static type_ path items second → first ≡ second
      only_end at_end at_end = refl
      only_end (one_extra {initializer = initializer} e) (one_extra f) = ap (refused (extra initializer)) (only_end e f)
      only_end {type_ = type_} {path = path} (designated {is_moved = is_moved} {initializer = initializer} {items = items} {way = way} {filled = filled} w a e) (designated {way = other} {filled = end} {plan = second} v b f) =
          let one : way ≡ other = cc (only_way w v) in
          let same : filled ≡ end =
          only_along a (subst (λ (k : List Part). FillsAlong aggregates is_static type_ path k (Item [] true initializer items) end) (sym one) b)
          in
          ap (followed filled.plan) (only_end e (subst (λ (x : Filled). Ends aggregates is_static type_ path x.left second) (sym same) f))
          ∙ ap (λ (x : Filled). followed x.plan second) same
      only_end (designated w a e) (nowhere v f) = let clash = only_way w v in absurd (cc clash)
      only_end (nowhere w e) (designated v b f) = let clash = only_way w v in absurd (cc clash)
      only_end (nowhere {refusals = refusals} w e) (nowhere {refusals = others} {plan = second} v f) =
          let one : refusals ≡ others = cc (only_way w v) in
          ap (refused refusals) (only_end e f) ∙ ap (λ (k : List Refusal). refused k second) one

pub outcomes_are_unique : OutcomesAreUnique
outcomes_are_unique aggregates is_static object initializer first second f g =
    f.2 ∙ (ap (outcome_of object) (only_plan aggregates is_static f.1 g.1) ∙ sym g.2)
