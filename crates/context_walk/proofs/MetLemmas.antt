-- Points in their order: equal ones stand side by side, so two counts of one point show between two neighbours.
use Rattle.std.proofs.Common.{◌≡◌, ◌⊎◌, inl, inr, ℕ, zero, suc, ◌+◌, ◌-◌, ◌*◌, ◌<◌, ◌≤◌, ℤ, Bool, true, false, Option, Some, None, List, [], ◌∷◌, length, get_or, if◌then◌else◌, refl, sym, ap, ◌∙◌, subst, arith}
use Rattle.std.specs.List.{Contains}
use Rattle.std.specs.List.Sorted.{IsNonDecreasingBy, IsPermutation}
use Rattle.std.proofs.lemmas.Bool.{cases_lt}
use Rattle.std.proofs.lemmas.List.Sorted.{Contains-permutation, IsPermutation-sym}
use Rattle.meaning_paths.specs.Steps.{Step, Point, Add, Call, End}
use Rattle.meaning_paths.specs.Walks.{IsIn}
use Rattle.meaning_paths.specs.ContextRules.{IsLeast}
use Rattle.meaning_paths.proofs.RuleLemmas.{equal_or_apart}
use Rattle.step_counts.specs.declared.counts.Counts.{Counts}
use Rattle.step_counts.specs.declared.counts.Counts.TheVariants.{Never, One, Several}
use Rattle.context_walk.specs.declared.different.Met.{Met}
use Rattle.context_walk.specs.Passed.{Has, Passed}
use Rattle.context_walk.specs.Scans.{ConflictIn}
use Rattle.context_walk.specs.Met.{ConflictAmong, IsConflict, met_of, mets_of, place_of}
use Rattle.context_walk.proofs.SpreadLemmas.{in-append_cases, in-append_left, in-append_right}

-- Places in lists

in-index : {X : Type 0} (x : X) (xs : List X) → IsIn x xs → (k : ℕ) × (k < length xs) × ((d : X) → get_or xs k d ≡ x)
in-index x [] there = absurd there
in-index x (y ∷ xs) (inl here) = (0, omega arith, λ d. sym here)
in-index x (y ∷ xs) (inr there) = let (k, below, is) = in-index x xs there in (suc k, omega (arith, below), is)

pub index-in : {X : Type 0} (xs : List X) (k : ℕ) (d : X) → k < length xs → IsIn (get_or xs k d) xs
index-in [] k d below = absurd (omega arith)
index-in (y ∷ xs) zero d below = inl refl
index-in (y ∷ xs) (suc k) d below = inr (index-in xs k d (omega arith))

in-Contains : {X : Type 0} (x : X) (xs : List X) → IsIn x xs → Contains xs x
in-Contains x xs there = let (k, below, is) = in-index x xs there in (k, below, is x)

Contains-in : {X : Type 0} (x : X) (xs : List X) → Contains xs x → IsIn x xs
Contains-in x xs (k, below, is) = subst (λ y. IsIn y xs) is (index-in xs k x below)

in-permuted : {X : Type 0} (x : X) (xs ys : List X) → IsPermutation xs ys → IsIn x xs → IsIn x ys
in-permuted x xs ys moved there = Contains-in x ys (Contains-permutation xs ys x moved (in-Contains x xs there))

-- Points by their places

one_place : (m n : Bool) (t u : ℕ) → t * 2 + (if m then 1 else 0) ≡ u * 2 + (if n then 1 else 0) → (t ≡ u) × (m ≡ n)
one_place true true t u same = (omega arith, refl)
one_place false false t u same = (omega arith, refl)
one_place true false t u same = absurd (omega arith)
one_place false true t u same = absurd (omega arith)

lower_place : (m n : Bool) (t u : ℕ) → t * 2 + (if m then 1 else 0) ≤ u * 2 + (if n then 1 else 0) → t ≤ u
lower_place true true t u below = omega arith
lower_place false false t u below = omega arith
lower_place true false t u below = omega arith
lower_place false true t u below = omega arith

same_place : (a b : Met) → a.token ≡ b.token → a.moment ≡ b.moment → place_of a ≡ place_of b
same_place a b tokens moments = λ i. tokens i * 2 + (if moments i then 1 else 0)

module _ (ms : List Met) (sorted : IsNonDecreasingBy place_of ms) (i : ℕ) (calm : (k : ℕ) (d : Met) → k + 1 < i → IsConflict (get_or ms k d) (get_or ms (k + 1) d) → ⊥) where
  -- up to there one point has one count
  one_count : (j n : ℕ) (d : Met) → j + n < i → j + n < length ms → place_of (get_or ms j d) ≡ place_of (get_or ms (j + n) d) → (get_or ms j d).count ≡ (get_or ms (j + n) d).count
  one_count j zero d below inside same = ap (λ k. (get_or ms k d).count) (omega arith)
  one_count j (suc n) d below inside same =
      let low = sorted j (j + n) d (omega arith) (omega arith) in
      let next : j + suc n ≡ (j + n) + 1 = omega arith in
      let there : place_of (get_or ms j d) ≡ place_of (get_or ms ((j + n) + 1) d) = same ∙ ap (λ k. place_of (get_or ms k d)) next in
      let high = sorted (j + n) ((j + n) + 1) d (omega arith) (omega arith) in
      let before = one_count j n d (omega arith) (omega arith) (omega (arith, low, high, there)) in
      let point =
      one_place (get_or ms (j + n) d).moment (get_or ms ((j + n) + 1) d).moment (get_or ms (j + n) d).token (get_or ms ((j + n) + 1) d).token
      (omega (arith, low, high, there))
      in
      elim (equal_or_apart (get_or ms (j + n) d).count (get_or ms ((j + n) + 1) d).count) [
        | inl equal ↦ before ∙ equal ∙ ap (λ k. (get_or ms k d).count) (sym next)
        | inr apart ↦ absurd (calm (j + n) d (omega arith) (point.0, point.1, apart))
      ]

  ordered_count : (j k : ℕ) (d : Met) → j ≤ k → k < i → k < length ms → place_of (get_or ms j d) ≡ place_of (get_or ms k d) → (get_or ms j d).count ≡ (get_or ms k d).count
  ordered_count j k d order below inside same =
      let is : j + (k - j) ≡ k = omega (arith, order) in
      subst (λ m. place_of (get_or ms j d) ≡ place_of (get_or ms m d) → (get_or ms j d).count ≡ (get_or ms m d).count) is
      (one_count j (k - j) d (omega (arith, is, below)) (omega (arith, is, inside))) same

  -- so a conflict has one of its two from there on
  conflict_above : (j k : ℕ) (d : Met) → j < length ms → k < length ms → IsConflict (get_or ms j d) (get_or ms k d) → (i ≤ j) ⊎ (i ≤ k)
  conflict_above j k d inside inside_too (tokens, moments, apart) =
      let same = same_place (get_or ms j d) (get_or ms k d) tokens moments in
      elim (cases_lt j i) [
        | inr above ↦ inl above
        | inl below ↦ elim (cases_lt k i) [
          | inr above ↦ inr above
          | inl below_too ↦ elim (cases_lt k j) [
            | inr after ↦ absurd (apart (ordered_count j k d after below_too inside_too same))
            | inl before ↦ absurd (apart (sym (ordered_count k j d (omega arith) below inside (sym same))))
          ]
        ]
      ]

  -- and it is no lower than what stands there
  pub no_lower : (d : Met) → (token : ℕ) → ConflictAmong ms token → (get_or ms i d).token ≤ token
  no_lower d token (a, b, in_, in_too, conflict, is) =
      let (j, inside, at_j) = in-index a ms in_ in
      let (k, inside_too, at_k) = in-index b ms in_too in
      let there : IsConflict (get_or ms j d) (get_or ms k d) = subst (λ x. IsConflict x (get_or ms k d)) (sym (at_j d)) (subst (IsConflict a) (sym (at_k d)) conflict) in
      elim (conflict_above j k d inside inside_too there) [
        | inl above ↦ omega (arith, lower_place _ _ _ _ (sorted i j d above inside), ap (λ (x : Met). x.token) (at_j d), is)
        | inr above ↦ omega (arith, lower_place _ _ _ _ (sorted i k d above inside_too), ap (λ (x : Met). x.token) (at_k d), conflict.0, is)
      ]

  -- there is none where all are calm
  pub none_at_all : length ms ≤ i → (token : ℕ) → ConflictAmong ms token → ⊥
  none_at_all all token (a, b, in_, in_too, conflict, is) =
      let (j, inside, at_j) = in-index a ms in_ in
      let (k, inside_too, at_k) = in-index b ms in_too in
      let there : IsConflict (get_or ms j a) (get_or ms k a) = subst (λ x. IsConflict x (get_or ms k a)) (sym (at_j a)) (subst (IsConflict a) (sym (at_k a)) conflict) in
      elim (conflict_above j k a inside inside_too there) [ inl above ↦ absurd (omega arith) | inr above ↦ absurd (omega arith) ]

-- What is met is what is passed

met_of-is : (step : Step) (counts : Counts) (met : Met) → IsIn met (met_of step counts) → (step ≡ Point met.token met.moment) × (counts ≡ One met.count)
met_of-is (Point token moment) Never met there = absurd there
met_of-is (Point token moment) (One count) met (inl here) = ((λ i. Point (sym here i).token (sym here i).moment), (λ i. One (sym here i).count))
met_of-is (Point token moment) (One count) met (inr never) = absurd never
met_of-is (Point token moment) Several met there = absurd there
met_of-is (Add token key by) counts met there = absurd there
met_of-is (Call token key enters leaves) counts met there = absurd there
met_of-is (End token) counts met there = absurd there

met-passed : (passed : List Passed) (met : Met) → IsIn met (mets_of passed) → Has passed (Point met.token met.moment) (One met.count)
met-passed [] met there = absurd there
met-passed (entry ∷ entries) met there =
    elim (in-append_cases met (met_of entry.step entry.comes) (mets_of entries) there) [
      | inl here ↦ (let (step, counts) = met_of-is entry.step entry.comes met here in inl (λ i. record { step = sym step i; comes = sym counts i }))
      | inr later ↦ inr (met-passed entries met later)
    ]

passed-met : (passed : List Passed) (token : ℕ) (moment : Bool) (count : ℤ) → Has passed (Point token moment) (One count) → IsIn (record { token = token; moment = moment; count = count }) (mets_of passed)
passed-met [] token moment count there = absurd there
passed-met (entry ∷ entries) token moment count (inl here) =
    in-append_left (record { token = token; moment = moment; count = count }) (met_of entry.step entry.comes) (mets_of entries)
    (subst (λ (now : Passed). IsIn (record { token = token; moment = moment; count = count }) (met_of now.step now.comes)) here (inl refl))
passed-met (entry ∷ entries) token moment count (inr there) =
    in-append_right (record { token = token; moment = moment; count = count }) (met_of entry.step entry.comes) (mets_of entries) (passed-met entries token moment count there)

module _ (passed : List Passed) (ms : List Met) (moved : IsPermutation (mets_of passed) ms) where
  among-in : (token : ℕ) → ConflictAmong ms token → ConflictIn passed token
  among-in token (a, b, in_, in_too, (tokens, moments, apart), is) =
      let one = met-passed passed a (in-permuted a ms (mets_of passed) (IsPermutation-sym (mets_of passed) ms moved) in_) in
      let other = met-passed passed b (in-permuted b ms (mets_of passed) (IsPermutation-sym (mets_of passed) ms moved) in_too) in (
        a.moment,
        a.count,
        b.count,
        subst (λ now. Has passed (Point now a.moment) (One a.count)) is one,
        subst (λ now. Has passed (Point now a.moment) (One b.count)) is (subst (λ step. Has passed step (One b.count)) (λ i. Point (sym tokens i) (sym moments i)) other),
        apart,
      )

  in-among : (token : ℕ) → ConflictIn passed token → ConflictAmong ms token
  in-among token (moment, one, other, has, has_too, apart) = (
    record { token = token; moment = moment; count = one },
    record { token = token; moment = moment; count = other },
    in-permuted _ (mets_of passed) ms moved (passed-met passed token moment one has),
    in-permuted _ (mets_of passed) ms moved (passed-met passed token moment other has_too),
    (refl, refl, apart),
    refl,
  )

  pub least-conflict : (least : Option ℕ) → IsLeast (ConflictAmong ms) least → IsLeast (ConflictIn passed) least
  least-conflict None is = λ token there. is token (in-among token there)
  least-conflict (Some least) is = (among-in least is.0, λ token there. is.1 token (in-among token there))
