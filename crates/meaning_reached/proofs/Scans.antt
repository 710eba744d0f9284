-- What the rules say of finitely many entries that tell of all steps which paths meet.
use Rattle.std.proofs.Common.{◌≡◌, ◌≢◌, ◌⊎◌, inl, inr, ℕ, ◌≤◌, ℤ, pos, ◌+ℤ◌, ◌-ℤ◌, ◌<ℤ◌, Bool, true, false, List, refl, sym, ap, subst, ◌∙◌, arith}
use Rattle.std.proofs.lemmas.Bool.Decides.{eqb_tells}
use Rattle.std.proofs.lemmas.Int.{ints, by_lt_z}
use Rattle.meaning_paths.specs.Steps.{Step, Point, Add, Call, End, token_of}
use Rattle.meaning_paths.specs.Walks.{IsIn}
use Rattle.meaning_paths.specs.ContextRules.{ContextAnswer, Balanced, Different, Below, WrongExit, Comes, Differ, Falls, LeavesWrong, IsTooLow, IsAnswer}
use Rattle.meaning_paths.proofs.RuleLemmas.{equal_or_apart}
use Rattle.meaning_reached.proofs.Least.{HasLeast, found_so, of_each, number_order, number_along, PairBelow, pair_order, pair_along}
use Rattle.meaning_reached.proofs.Entries.{Entry, Once, Often, Tells}

-- Tests

same_flag : (one other : Bool) → (one ≡ other) ⊎ (one ≢ other)
same_flag true true = inl refl
same_flag true false = inr (λ same. absurd (cc))
same_flag false true = inr (λ same. absurd (cc))
same_flag false false = inl refl

abbrev AreOnePoint : Step → Step → Type 0
AreOnePoint step other = (token : ℕ) × (moment : Bool) × (step ≡ Point token moment) × (other ≡ Point token moment)

one_point : (step other : Step) → AreOnePoint step other ⊎ (AreOnePoint step other → ⊥)
one_point (Point token moment) (Point other when) =
    elim (eqb_tells token other) [
      | inr apart ↦ inr (λ one. let tokens : token ≡ other = cc in apart.1 tokens)
      | inl same ↦
          elim (same_flag moment when) [
            | inl flags ↦ inl (token, moment, refl, (let tokens = same.1 in cc))
            | inr unlike ↦ inr (λ one. let flags : moment ≡ when = cc in unlike flags)
          ]
    ]
one_point (Point token moment) other = inr (λ one. absurd (cc))
one_point step other = inr (λ one. absurd (cc))

below_or_not : (one other : ℤ) → (one <ℤ other) ⊎ (one <ℤ other → ⊥)
below_or_not one other = by_lt_z one other (λ under. inl under) (λ over. inr (λ under. absurd (omega (arith, ints, over, under))))

either_or_not : {A B : Type 0} → A ⊎ (A → ⊥) → B ⊎ (B → ⊥) → (A ⊎ B) ⊎ (A ⊎ B → ⊥)
either_or_not (inl is) other = inl (inl is)
either_or_not (inr none) (inl is) = inl (inr is)
either_or_not (inr none) (inr neither) = inr (λ is. elim is [ inl first ↦ none first | inr second ↦ neither second ])

too_low_or_not : (key : ℕ) (step : Step) (comes : ℤ) → IsTooLow key step comes ⊎ (IsTooLow key step comes → ⊥)
too_low_or_not key (Point token moment) comes = inr (λ low. low)
too_low_or_not key (Add token other by) comes =
    elim (eqb_tells other key) [
      | inr apart ↦ inr (λ low. apart.1 low.0)
      | inl same ↦
          elim (below_or_not (comes +ℤ by) (pos 0)) [
            | inl under ↦ inl (same.1, under)
            | inr over ↦ inr (λ low. over low.1)
          ]
    ]
too_low_or_not key (Call token other enters leaves) comes =
    elim (eqb_tells other key) [
      | inr apart ↦ inr (λ low. apart.1 low.0)
      | inl same ↦
          elim (either_or_not (below_or_not comes enters) (below_or_not (comes +ℤ (leaves -ℤ enters)) (pos 0))) [
            | inl under ↦ inl (same.1, under)
            | inr over ↦ inr (λ low. over low.1)
          ]
    ]
too_low_or_not key (End token) comes = inr (λ low. low)

module _ (IsPath : List Step → Type 0) (key : ℕ) (start leaves : ℤ) (entries : List (Entry IsPath key start))
    (tell : (step : Step) (comes : ℤ) → Comes IsPath key start step comes → (entry : Entry IsPath key start) × IsIn entry entries × Tells entry step comes)
  where
    abbrev OneEntry : Type 0
    OneEntry = Entry IsPath key start

    abbrev LeastToken : (Is Found : ℕ → Type 0) → Type 0
    LeastToken Is Found = HasLeast ◌≤◌ number_order number_along Is Found

    -- Points

    abbrev DiffersAt : ℕ → Type 0
    DiffersAt token = Differ IsPath key start token

    -- two entries tell of one point with different counts
    abbrev DifferBy : (entry other : OneEntry) → ℕ → Type 0
    DifferBy entry other token =
        (moment : Bool) × (one two : ℤ) × Tells entry (Point token moment) one × Tells other (Point token moment) two × (one ≢ two)

    not_above : (step : Step) (token other : ℕ) (moment when : Bool) → step ≡ Point token moment → step ≡ Point other when → token ≤ other
    not_above step token other moment when is is_too = let same : token ≡ other = cc in omega (arith, same)

    -- a step that is reached with several counts differs, if it is a point
    differ_often : (step : Step) (one two : ℤ) → Comes IsPath key start step one → Comes IsPath key start step two → one ≢ two → (Found : ℕ → Type 0)
        → ((token : ℕ) → Found token → (moment : Bool) × (step ≡ Point token moment)) → LeastToken DiffersAt Found
    differ_often step one two arrives arrives_too apart Found of_step =
        elim (one_point step step) [
          | inr none ↦ inl (λ token found. let (moment, is) = of_step token found in none (token, moment, is, is))
          | inl (token, moment, is, is_too) ↦
              inr (
                token,
                (moment, one, two, subst (λ now. Comes IsPath key start now one) is arrives, subst (λ now. Comes IsPath key start now two) is arrives_too, apart),
                λ other found. not_above step token other moment (of_step other found).0 is (of_step other found).1,
              )
        ]

    differ_by : (entry other : OneEntry) → LeastToken DiffersAt (DifferBy entry other)
    differ_by (Often step one two arrives arrives_too apart token differs) other =
        differ_often step one two arrives arrives_too apart (DifferBy (Often step one two arrives arrives_too apart token differs) other)
        (λ token found. (found.0, found.3))
    differ_by (Once step comes arrives) (Often other one two another arrives_too apart token differs) =
        differ_often other one two another arrives_too apart (DifferBy (Once step comes arrives) (Often other one two another arrives_too apart token differs))
        (λ token found. (found.0, found.4))
    differ_by (Once step comes arrives) (Once other there arrives_too) =
        elim (one_point step other) [
          | inr none ↦ inl (λ token found. none (token, found.0, found.3.0, found.4.0))
          | inl (token, moment, is, is_other) ↦
              elim (equal_or_apart comes there) [
                | inl same ↦ inl (λ least found. found.5 (sym found.3.1 ∙ same ∙ found.4.1))
                | inr apart ↦
                    inr (
                      token,
                      (
                        moment,
                        comes,
                        there,
                        subst (λ now. Comes IsPath key start now comes) is arrives,
                        subst (λ now. Comes IsPath key start now there) is_other arrives_too,
                        apart,
                      ),
                      λ least found. not_above step token least moment found.0 is found.3.0,
                    )
              ]
        ]

    differ_least : LeastToken DiffersAt DiffersAt
    differ_least =
        found_so ◌≤◌ number_order number_along DiffersAt
        (λ token. (entry : OneEntry) × IsIn entry entries × ((other : OneEntry) × IsIn other entries × DifferBy entry other token)) DiffersAt
        (λ token differs.
        let (moment, one, two, comes, comes_too, apart) = differs in
        let (entry, among, tells) = tell (Point token moment) one comes in
        let (other, among_too, tells_too) = tell (Point token moment) two comes_too in (entry, among, (other, among_too, (moment, one, two, tells, tells_too, apart))))
        (of_each ◌≤◌ number_order number_along DiffersAt (λ entry token. (other : OneEntry) × IsIn other entries × DifferBy entry other token) entries
        (λ entry. of_each ◌≤◌ number_order number_along DiffersAt (DifferBy entry) entries (differ_by entry)))

    module _ (none : (token : ℕ) → DiffersAt token → ⊥) where
      -- What is too low

      abbrev FallsAt : ℕ → Type 0
      FallsAt token = Falls IsPath key start token

      abbrev FallsBy : OneEntry → ℕ → Type 0
      FallsBy entry token = (step : Step) × (comes : ℤ) × Tells entry step comes × (token_of step ≡ token) × IsTooLow key step comes

      falls_by : (entry : OneEntry) → LeastToken FallsAt (FallsBy entry)
      falls_by (Often step one two arrives arrives_too apart token differs) = absurd (none token differs)
      falls_by (Once step comes arrives) =
          elim (too_low_or_not key step comes) [
            | inr enough ↦
                inl (λ token found. enough (subst (λ now. IsTooLow key step now) (sym found.2.1) (subst (λ now. IsTooLow key now found.1) (sym found.2.0) found.4)))
            | inl low ↦
                inr (
                  token_of step,
                  (step, comes, arrives, refl, low),
                  λ token found. let same : token_of step ≡ token = ap token_of found.2.0 ∙ found.3 in omega (arith, same),
                )
          ]

      falls_least : LeastToken FallsAt FallsAt
      falls_least =
          found_so ◌≤◌ number_order number_along FallsAt (λ token. (entry : OneEntry) × IsIn entry entries × FallsBy entry token) FallsAt
          (λ token falls.
          let (step, comes, arrives, stands, low) = falls in let (entry, among, tells) = tell step comes arrives in (entry, among, (step, comes, tells, stands, low)))
          (of_each ◌≤◌ number_order number_along FallsAt FallsBy entries falls_by)

      -- Ends

      abbrev WrongAt : (ℕ × ℤ) → Type 0
      WrongAt pair = LeavesWrong IsPath key start leaves pair.0 pair.1

      abbrev LeastPair : ((ℕ × ℤ) → Type 0) → Type 0
      LeastPair Found = HasLeast PairBelow pair_order pair_along WrongAt Found

      abbrev WrongBy : OneEntry → (ℕ × ℤ) → Type 0
      WrongBy entry pair = Tells entry (End pair.0) pair.1 × (pair.1 ≢ leaves)

      end_below : (token : ℕ) (comes : ℤ) (pair : ℕ × ℤ) → End token ≡ End pair.0 → comes ≡ pair.1 → PairBelow (token, comes) pair
      end_below token comes pair is same = let tokens : token ≡ pair.0 = cc in (omega (arith, tokens), λ equal. omega (arith, ints, same))

      wrong_by : (entry : OneEntry) → LeastPair (WrongBy entry)
      wrong_by (Often step one two arrives arrives_too apart token differs) = absurd (none token differs)
      wrong_by (Once (End token) comes arrives) =
          elim (equal_or_apart comes leaves) [
            | inl same ↦ inl (λ pair found. found.1 (sym found.0.1 ∙ same))
            | inr apart ↦ inr ((token, comes), (arrives, apart), λ pair found. end_below token comes pair found.0.0 found.0.1)
          ]
      wrong_by (Once step comes arrives) = inl (λ pair found. absurd (cc))

      wrong_least : LeastPair WrongAt
      wrong_least =
          found_so PairBelow pair_order pair_along WrongAt (λ pair. (entry : OneEntry) × IsIn entry entries × WrongBy entry pair) WrongAt
          (λ pair wrong. let (entry, among, tells) = tell (End pair.0) pair.1 wrong.0 in (entry, among, (tells, wrong.1)))
          (of_each PairBelow pair_order pair_along WrongAt WrongBy entries wrong_by)

    -- The rules in their order

    pub answered : (answer : ContextAnswer) × IsAnswer IsPath key start leaves answer
    answered =
        elim differ_least [
          | inr (token, differs, least) ↦ (Different token, (differs, least))
          | inl none ↦
              elim (falls_least none) [
                | inr (token, falls, least) ↦ (Below token, (none, (falls, least)))
                | inl enough ↦
                    elim (wrong_least none) [
                      | inr (pair, wrong, least) ↦ (WrongExit pair.0 pair.1, (none, enough, (wrong, λ other comes there. least (other, comes) there)))
                      | inl right ↦ (Balanced, (none, enough, λ token comes wrong. right (token, comes) wrong))
                    ]
              ]
        ]
