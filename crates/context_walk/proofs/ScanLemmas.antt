-- What the scans find is what they look for, and with it the answer.
use Rattle.std.proofs.Common.{◌≡◌, ◌≢◌, ◌⊎◌, inl, inr, ℕ, ◌≤◌, ℤ, pos, ◌+ℤ◌, ◌-ℤ◌, ◌<ℤ◌, int_lt, T, Bool, true, false, Option, Some, None, List, if◌then◌else◌, refl, sym, ap, ◌∙◌, subst, arith}
use Rattle.std.specs.Bool.{Decides}
use Rattle.std.specs.Ordering.{int_eq}
use Rattle.std.specs.Int.Signed.{lt_z_yes}
use Rattle.std.proofs.lemmas.Bool.Decides.{Decides-and, Decides-eqb, Decides-int_eq, Decides-or, not_from_Decides}
use Rattle.std.proofs.lemmas.Int.{ints}
use Rattle.meaning_paths.specs.Steps.{Step, Point, Add, Call, End, token_of}
use Rattle.meaning_paths.specs.Walks.{IsIn}
use Rattle.meaning_paths.specs.Graphs.{BasicBlock, IsPathOf}
use Rattle.meaning_paths.specs.ContextRules.{Comes, Differ, Falls, IsAnswer, IsLeast, IsTooLow, LeavesWrong}
use Rattle.step_counts.specs.declared.counts.Counts.{Counts}
use Rattle.step_counts.specs.declared.counts.Counts.TheVariants.{Never, One, Several}
use Rattle.context_walk.specs.Reached.{Covers}
use Rattle.context_walk.specs.Passed.{Has, Passed}
use Rattle.context_walk.specs.Scans.{DifferIn, IsLeastExit, IsNoLater, Leaving, LowIn, SeveralIn, WrongIn, answered, is_too_low, lower, lower_end, several_at, several_of, too_low_at, too_low_of, wrong_end_at, wrong_end_of}
use Rattle.context_walk.proofs.LeastLemmas.{IsBest, Says, lower_end_picks, lower_picks, lowest, lowest_end, lowest_of_all, more_best, same_best}
use Rattle.context_walk.proofs.PassedLemmas.{Tells}

-- Tests

pub int_lt-Decides : (a b : ℤ) → Decides (int_lt a b) (a <ℤ b)
int_lt-Decides a b = (λ passed. lt_z_yes (subst T (sym passed) tt), λ below. grind (arith, ints))

too_low-Decides : (key : ℕ) (step : Step) (comes : ℤ) → Decides (is_too_low key step comes) (IsTooLow key step comes)
too_low-Decides key (Point token moment) comes = (λ e. cc, λ never. absurd never)
too_low-Decides key (Add token other by) comes = Decides-and _ _ (Decides-eqb other key) (int_lt-Decides (comes +ℤ by) (pos 0))
too_low-Decides key (Call token other enters leaves) comes =
    Decides-and _ _ (Decides-eqb other key) (Decides-or _ _ (int_lt-Decides comes enters) (int_lt-Decides (comes +ℤ (leaves -ℤ enters)) (pos 0)))
too_low-Decides key (End token) comes = (λ e. cc, λ never. absurd never)

-- a choice of something or nothing is something where the test passes
if_some : {V : Type 0} (test : Bool) (v w : V) → (if test then Some v else None) ≡ Some w → (test ≡ true) × (v ≡ w)
if_some true v w is = (refl, cc)
if_some false v w is = absurd (cc)

if_none : {V : Type 0} (test : Bool) (v w : V) → (if test then None else Some v) ≡ Some w → (test ≡ false) × (v ≡ w)
if_none true v w is = absurd (cc)
if_none false v w is = (refl, cc)

-- Tokens

-- the best by ≤ is the least
as_least : (P : ℕ → Type 0) (best : Option ℕ) → IsBest ◌≤◌ P best → IsLeast P best
as_least P None is = is
as_least P (Some best) is = is

as_best : (P : ℕ → Type 0) (best : Option ℕ) → IsLeast P best → IsBest ◌≤◌ P best
as_best P None is = is
as_best P (Some best) is = is

-- Several counts

several_of-is : (step : Step) (counts : Counts) (token : ℕ) → several_of step counts ≡ Some token → (moment : Bool) × (step ≡ Point token moment) × (counts ≡ Several)
several_of-is (Point here moment) Never token is = absurd (cc)
several_of-is (Point here moment) (One count) token is = absurd (cc)
several_of-is (Point here moment) Several token is = (moment, (let same : here ≡ token = cc in ap (λ now. Point now moment) same), refl)
several_of-is (Add here key by) counts token is = absurd (cc)
several_of-is (Call here key enters leaves) counts token is = absurd (cc)
several_of-is (End here) counts token is = absurd (cc)

pub least-several : (passed : List Passed) → IsLeast (SeveralIn passed) (lowest several_at None passed)
least-several passed =
    as_least (SeveralIn passed) (lowest several_at None passed)
    (same_best ◌≤◌ lower lower_picks (Says several_at passed) (SeveralIn passed)
    (λ token said.
    let (moment, step, counts) = several_of-is said.0.step said.0.comes token said.2 in
    (moment, subst (λ entry. IsIn entry passed) (λ i. record { step = step i; comes = counts i }) said.1))
    (λ token found. (record { step = Point token found.0; comes = Several }, found.1, refl)) (lowest several_at None passed)
    (lowest_of_all ◌≤◌ lower lower_picks several_at passed))

-- Too low

too_low_of-is : (key : ℕ) (step : Step) (counts : Counts) (token : ℕ) → too_low_of key step counts ≡ Some token
    → (comes : ℤ) × (counts ≡ One comes) × (token_of step ≡ token) × IsTooLow key step comes
too_low_of-is key step Never token is = absurd (cc)
too_low_of-is key step (One comes) token is =
    let found = if_some (is_too_low key step comes) (token_of step) token is in
    (comes, refl, found.1, (too_low-Decides key step comes).0 found.0)
too_low_of-is key step Several token is = absurd (cc)

pub least-fall : (key : ℕ) (passed : List Passed) → IsLeast (LowIn key passed) (lowest (too_low_at key) None passed)
least-fall key passed =
    as_least (LowIn key passed) (lowest (too_low_at key) None passed)
    (same_best ◌≤◌ lower lower_picks (Says (too_low_at key) passed) (LowIn key passed)
    (λ token said.
    let (comes, counts, stands, low) = too_low_of-is key said.0.step said.0.comes token said.2 in
    (said.0.step, comes, subst (λ entry. IsIn entry passed) (λ i. record { step = said.0.step; comes = counts i }) said.1, stands, low))
    (λ token found.
    let (step, comes, there, stands, low) = found in (
      record { step = step; comes = One comes },
      there,
      ap (λ test. if test then Some (token_of step) else None) ((too_low-Decides key step comes).1 low) ∙ ap Some stands,
    ))
    (lowest (too_low_at key) None passed)
    (lowest_of_all ◌≤◌ lower lower_picks (too_low_at key) passed))

-- Wrong exits

-- what is said of a token and a count, said of a leaving
abbrev pub of_leaving : (ℕ → ℤ → Type 0) → Leaving → Type 0
of_leaving P exit = P exit.token exit.found

as_least_exit : (P : ℕ → ℤ → Type 0) (best : Option Leaving) → IsBest IsNoLater (of_leaving P) best → IsLeastExit P best
as_least_exit P None is = λ token found there. is (record { token = token; found = found }) there
as_least_exit P (Some best) is = (is.0, λ token found there. is.1 (record { token = token; found = found }) there)

wrong_end_of-is : (leaves : ℤ) (step : Step) (counts : Counts) (exit : Leaving) → wrong_end_of leaves step counts ≡ Some exit
    → (step ≡ End exit.token) × (counts ≡ One exit.found) × (exit.found ≢ leaves)
wrong_end_of-is leaves (Point here moment) counts exit is = absurd (cc)
wrong_end_of-is leaves (Add here key by) counts exit is = absurd (cc)
wrong_end_of-is leaves (Call here key enters out) counts exit is = absurd (cc)
wrong_end_of-is leaves (End here) Never exit is = absurd (cc)
wrong_end_of-is leaves (End here) (One found) exit is =
    let (test, same) = if_none (int_eq found leaves) (record { token = here; found = found }) exit is in (
      ap (λ (now : Leaving). End now.token) same,
      ap (λ (now : Leaving). One now.found) same,
      subst (λ (now : Leaving). now.found ≢ leaves) same (not_from_Decides (int_eq found leaves) (Decides-int_eq found leaves) test),
    )
wrong_end_of-is leaves (End here) Several exit is = absurd (cc)

wrong_end_of-one : (leaves : ℤ) (token : ℕ) (found : ℤ) → found ≢ leaves → wrong_end_of leaves (End token) (One found) ≡ Some (record { token = token; found = found })
wrong_end_of-one leaves token found apart = by (int_eq found leaves) refl
  where
    by : (test : Bool) → int_eq found leaves ≡ test → ◌≡◌ {A = Option Leaving} (if test then None else Some (record { token = token; found = found })) (Some (record { token = token; found = found }))
    by true e = absurd (apart ((Decides-int_eq found leaves).0 e))
    by false e = refl

pub least-wrong_end : (leaves : ℤ) (passed : List Passed) → IsLeastExit (WrongIn leaves passed) (lowest_end (wrong_end_at leaves) None passed)
least-wrong_end leaves passed =
    as_least_exit (WrongIn leaves passed) (lowest_end (wrong_end_at leaves) None passed)
    (same_best IsNoLater lower_end lower_end_picks (Says (wrong_end_at leaves) passed) (of_leaving (WrongIn leaves passed))
    (λ exit said.
    let (step, counts, apart) = wrong_end_of-is leaves said.0.step said.0.comes exit said.2 in
    (subst (λ entry. IsIn entry passed) (λ i. record { step = step i; comes = counts i }) said.1, apart))
    (λ exit found. (record { step = End exit.token; comes = One exit.found }, found.0, wrong_end_of-one leaves exit.token exit.found found.1))
    (lowest_end (wrong_end_at leaves) None passed)
    (lowest_of_all IsNoLater lower_end lower_end_picks (wrong_end_at leaves) passed))

-- Different counts

-- the least of either kind
pub least-either : (P Q : ℕ → Type 0) (one other : Option ℕ) → IsLeast P one → IsLeast Q other → IsLeast (λ token. P token ⊎ Q token) (lower one other)
least-either P Q one other is is_other =
    as_least (λ token. P token ⊎ Q token) (lower one other) (more_best ◌≤◌ lower lower_picks P Q one other (as_best P one is) (as_best Q other is_other))

-- The rules

module _ (graph : List BasicBlock) (key : ℕ) (start : ℤ) (passed : List Passed) (tells : Tells graph key start passed) where
  differ-in : (token : ℕ) → Differ (IsPathOf graph) key start token → DifferIn passed token
  differ-in token (moment, one, other, comes, comes_too, apart) =
      let (x, has, covers) = tells.covers (Point token moment) one comes in
      let (y, has_too, covers_too) = tells.covers (Point token moment) other comes_too in
      by x y has has_too covers covers_too
    where
      by : (x y : Counts) → Has passed (Point token moment) x → Has passed (Point token moment) y → Covers x one → Covers y other → DifferIn passed token
      by Never y has has_too covers covers_too = absurd covers
      by (One c) Never has has_too covers covers_too = absurd covers_too
      by (One c) (One d) has has_too covers covers_too = inr (moment, c, d, has, has_too, λ equal. apart (sym covers ∙ equal ∙ covers_too))
      by (One c) Several has has_too covers covers_too = inl (moment, has_too)
      by Several y has has_too covers covers_too = inl (moment, has)

  in-differ : (token : ℕ) → DifferIn passed token → Differ (IsPathOf graph) key start token
  in-differ token (inl (moment, has)) =
      let (one, other, comes, comes_too, apart) = tells.shown (Point token moment) Several has in
      (moment, one, other, comes, comes_too, apart)
  in-differ token (inr (moment, one, other, has, has_too, apart)) =
      (moment, one, other, tells.shown (Point token moment) (One one) has, tells.shown (Point token moment) (One other) has_too, apart)

  differ-least : (least : Option ℕ) → IsLeast (DifferIn passed) least → IsLeast (Differ (IsPathOf graph) key start) least
  differ-least None is = λ token there. is token (differ-in token there)
  differ-least (Some least) is = (in-differ least is.0, λ token there. is.1 token (differ-in token there))

  module _ (none : (token : ℕ) → DifferIn passed token → ⊥) where
    -- no step is passed with several counts
    no_several : (step : Step) → Has passed step Several → ⊥
    no_several step has = let (token, moment, point) = tells.points step has in none token (inl (moment, point))

    -- so a path that comes with a count is told as one
    comes-one : (step : Step) (comes : ℤ) → Comes (IsPathOf graph) key start step comes → Has passed step (One comes)
    comes-one step comes there =
        let (x, has, covers) = tells.covers step comes there in
        by x has covers
      where
        by : (x : Counts) → Has passed step x → Covers x comes → Has passed step (One comes)
        by Never has covers = absurd covers
        by (One c) has covers = subst (λ now. Has passed step (One now)) covers has
        by Several has covers = absurd (no_several step has)

    falls-in : (token : ℕ) → Falls (IsPathOf graph) key start token → LowIn key passed token
    falls-in token (step, comes, arrives, stands, low) = (step, comes, comes-one step comes arrives, stands, low)

    in-falls : (token : ℕ) → LowIn key passed token → Falls (IsPathOf graph) key start token
    in-falls token (step, comes, has, stands, low) = (step, comes, tells.shown step (One comes) has, stands, low)

    falls-least : (least : Option ℕ) → IsLeast (LowIn key passed) least → IsLeast (Falls (IsPathOf graph) key start) least
    falls-least None is = λ token there. is token (falls-in token there)
    falls-least (Some least) is = (in-falls least is.0, λ token there. is.1 token (falls-in token there))

    wrong-in : (leaves : ℤ) (token : ℕ) (found : ℤ) → LeavesWrong (IsPathOf graph) key start leaves token found → WrongIn leaves passed token found
    wrong-in leaves token found (arrives, apart) = (comes-one (End token) found arrives, apart)

  -- the answer of the scans is the rules' answer
  pub answered-is : (leaves : ℤ) (different fall : Option ℕ) (wrong : Option Leaving) → IsLeast (DifferIn passed) different → IsLeast (LowIn key passed) fall → IsLeastExit (WrongIn leaves passed) wrong
      → IsAnswer (IsPathOf graph) key start leaves (answered different fall wrong)
  answered-is leaves (Some token) fall wrong differ low out = differ-least (Some token) differ
  answered-is leaves None (Some token) wrong differ low out = (differ-least None differ, falls-least differ (Some token) low)
  answered-is leaves None None (Some exit) differ low out = (
    differ-least None differ,
    falls-least differ None low,
    ((tells.shown (End exit.token) (One exit.found) out.0.0, out.0.1), λ token found there. out.1 token found (wrong-in differ leaves token found there)),
  )
  answered-is leaves None None None differ low out = (differ-least None differ, falls-least differ None low, λ token found there. out token found (wrong-in differ leaves token found there))

-- One step

pub low-some : (key : ℕ) (step : Step) (comes : ℤ) → IsTooLow key step comes → too_low_of key step (One comes) ≡ Some (token_of step)
low-some key step comes low = ap (λ test. if test then Some (token_of step) else None) ((too_low-Decides key step comes).1 low)

pub low-none : (key : ℕ) (step : Step) (comes : ℤ) → (IsTooLow key step comes → ⊥) → too_low_of key step (One comes) ≡ None
low-none key step comes never = by (is_too_low key step comes) refl
  where
    by : (test : Bool) → is_too_low key step comes ≡ test → ◌≡◌ {A = Option ℕ} (if test then Some (token_of step) else None) None
    by true e = absurd (never ((too_low-Decides key step comes).0 e))
    by false e = refl
