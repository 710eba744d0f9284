-- The answer over a set of paths: there is one, and equal sets have it.
use Rattle.std.proofs.Common.{◌≡◌, ◌≢◌, ◌↔◌, ◌⊎◌, inl, inr, ℕ, ℤ, Bool, true, false, Option, Some, None, List, ◌∷◌, refl, sym, ap, arith}
use Rattle.std.specs.Ordering.{int_eq}
use Rattle.std.proofs.lemmas.Bool.Decides.{Decides-int_eq}
use Rattle.std.proofs.lemmas.Int.{ints}
use Rattle.meaning_paths.specs.Steps.{Step, End, count}
use Rattle.meaning_paths.specs.ContextRules.{ContextAnswer, Balanced, Different, Below, WrongExit, IsLeast, Comes, Differ, Falls, LeavesWrong, IsAnswer}

-- Numbers

-- numbers are equal or apart
pub equal_or_apart : (a b : ℤ) → (a ≡ b) ⊎ (a ≢ b)
equal_or_apart a b = by (int_eq a b) refl
  where
    by : (test : Bool) → int_eq a b ≡ test → (a ≡ b) ⊎ (a ≢ b)
    by true same = inl ((Decides-int_eq a b).0 same)
    by false other = inr (λ equal. let same : int_eq a b ≡ true = (Decides-int_eq a b).1 equal in cc)

least_is_one : (P : ℕ → Type 0) (least other : ℕ) → IsLeast P (Some least) → IsLeast P (Some other) → least ≡ other
least_is_one P least other (of_least, under) (of_other, under_other) =
    let below = under other of_other in
    let above = under_other least of_least in
    omega arith

-- One set of paths

module _ (IsPath : List Step → Type 0) (key : ℕ) (start leaves : ℤ) where
  abbrev Answer : ContextAnswer → Type 0
  Answer answer = IsAnswer IsPath key start leaves answer

  pub one_answer : (answer other : ContextAnswer) → Answer answer → Answer other → answer ≡ other
  one_answer Balanced Balanced is is_other = refl
  one_answer Balanced (Different t) is is_other = absurd (is.0 t is_other.0)
  one_answer Balanced (Below t) is is_other = absurd (is.1 t is_other.1.0)
  one_answer Balanced (WrongExit t c) is is_other = absurd (is.2 t c is_other.2.0)
  one_answer (Different t) Balanced is is_other = absurd (is_other.0 t is.0)
  one_answer (Different t) (Different u) is is_other = ap Different (least_is_one (Differ IsPath key start) t u is is_other)
  one_answer (Different t) (Below u) is is_other = absurd (is_other.0 t is.0)
  one_answer (Different t) (WrongExit u c) is is_other = absurd (is_other.0 t is.0)
  one_answer (Below t) Balanced is is_other = absurd (is_other.1 t is.1.0)
  one_answer (Below t) (Different u) is is_other = absurd (is.0 u is_other.0)
  one_answer (Below t) (Below u) is is_other = ap Below (least_is_one (Falls IsPath key start) t u is.1 is_other.1)
  one_answer (Below t) (WrongExit u c) is is_other = absurd (is_other.1 t is.1.0)
  one_answer (WrongExit t c) Balanced is is_other = absurd (is_other.2 t c is.2.0)
  one_answer (WrongExit t c) (Different u) is is_other = absurd (is.0 u is_other.0)
  one_answer (WrongExit t c) (Below u) is is_other = absurd (is.1 u is_other.1.0)
  one_answer (WrongExit t c) (WrongExit u d) is is_other =
      let here = is.2.1 u d is_other.2.0 in
      let there = is_other.2.1 t c is.2.0 in
      let tokens : t ≡ u = omega (arith, here.0, there.0) in
      let low = here.1 tokens in
      let high = there.1 (sym tokens) in
      let counts : c ≡ d = omega (arith, ints, low, high) in
      λ i. WrongExit (tokens i) (counts i)

  pub balances : Answer Balanced → (path : List Step) (token : ℕ) → IsPath (End token ∷ path) → count key start path ≡ leaves
  balances is path token passes =
      elim (equal_or_apart (count key start path) leaves) [
        | inl equal ↦ equal
        | inr apart ↦ absurd (is.2 token (count key start path) ((path, passes, refl), apart))
      ]

-- Two sets of paths

module _ (P Q : List Step → Type 0) (into : (path : List Step) → P path → Q path) (key : ℕ) (start : ℤ) where
  pub comes-into : (step : Step) (comes : ℤ) → Comes P key start step comes → Comes Q key start step comes
  comes-into step comes (path, is, counted) = (path, into (step ∷ path) is, counted)

  pub differ-into : (token : ℕ) → Differ P key start token → Differ Q key start token
  differ-into token (moment, one, other, comes, comes_other, apart) = (moment, one, other, comes-into _ one comes, comes-into _ other comes_other, apart)

  pub falls-into : (token : ℕ) → Falls P key start token → Falls Q key start token
  falls-into token (step, comes, arrives, stands, low) = (step, comes, comes-into step comes arrives, stands, low)

  pub leaves-into : (leaves : ℤ) (token : ℕ) (comes : ℤ) → LeavesWrong P key start leaves token comes → LeavesWrong Q key start leaves token comes
  leaves-into leaves token comes (arrives, apart) = (comes-into (End token) comes arrives, apart)

least-equal : (P Q : ℕ → Type 0) (into : (n : ℕ) → P n → Q n) (from : (n : ℕ) → Q n → P n) (least : Option ℕ) → IsLeast P least → IsLeast Q least
least-equal P Q into from None is = λ other there. is other (from other there)
least-equal P Q into from (Some least) is = (into least is.0, λ other there. is.1 other (from other there))

pub equal_answers : (P Q : List Step → Type 0) → ((path : List Step) → P path ↔ Q path) → (key : ℕ) (start leaves : ℤ) (answer : ContextAnswer)
    → IsAnswer P key start leaves answer → IsAnswer Q key start leaves answer
equal_answers P Q same key start leaves = by
  where
    into : (path : List Step) → P path → Q path
    into path = (same path).0

    from : (path : List Step) → Q path → P path
    from path = (same path).1

    differ : (least : Option ℕ) → IsLeast (Differ P key start) least → IsLeast (Differ Q key start) least
    differ = least-equal (Differ P key start) (Differ Q key start) (differ-into P Q into key start) (differ-into Q P from key start)

    falls : (least : Option ℕ) → IsLeast (Falls P key start) least → IsLeast (Falls Q key start) least
    falls = least-equal (Falls P key start) (Falls Q key start) (falls-into P Q into key start) (falls-into Q P from key start)

    by : (answer : ContextAnswer) → IsAnswer P key start leaves answer → IsAnswer Q key start leaves answer
    by Balanced is = (differ None is.0, falls None is.1, λ token comes there. is.2 token comes (leaves-into Q P from key start leaves token comes there))
    by (Different token) is = differ (Some token) is
    by (Below token) is = (differ None is.0, falls (Some token) is.1)
    by (WrongExit token found) is = (
      differ None is.0,
      falls None is.1,
      (
        leaves-into P Q into key start leaves token found is.2.0,
        λ other comes there. is.2.1 other comes (leaves-into Q P from key start leaves other comes there),
      ),
    )
