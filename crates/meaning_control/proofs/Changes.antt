-- Where nothing changes a count, each path comes everywhere with the count with which it began.
use Rattle.std.proofs.Common.{◌≡◌, ℕ, ℤ, List, [], ◌∷◌, refl, sym, ◌∙◌, arith}
use Rattle.std.proofs.lemmas.Int.{ints}
use Rattle.meaning_paths.specs.Steps.{Step, Point, Add, Call, End, count}
use Rattle.meaning_paths.specs.ContextRules.{Balanced, Comes, IsTooLow, IsAnswer}
use Rattle.meaning_control.specs.laws.Changes.{ChangesNothing}

count_stays : (key : ℕ) (start : ℤ) (path : List Step) → ChangesNothing path → count key start path ≡ start
count_stays key start [] nothing = refl
count_stays key start (Point token moment ∷ path) nothing = omega (arith, ints, count_stays key start path nothing)
count_stays key start (Add token other by ∷ path) nothing = absurd nothing
count_stays key start (Call token other enters leaves ∷ path) nothing = absurd nothing
count_stays key start (End token ∷ path) nothing = omega (arith, ints, count_stays key start path nothing)

module _ (IsPath : List Step → Type 0) (nothing : (path : List Step) → IsPath path → ChangesNothing path) (key : ℕ) (start : ℤ) where
  before : (step : Step) (path : List Step) → ChangesNothing (step ∷ path) → ChangesNothing path
  before (Point token moment) path none = none
  before (Add token other by) path none = absurd none
  before (Call token other enters leaves) path none = absurd none
  before (End token) path none = none

  comes_as_begun : (step : Step) (comes : ℤ) → Comes IsPath key start step comes → comes ≡ start
  comes_as_begun step comes (path, is, counted) = sym counted ∙ count_stays key start path (before step path (nothing (step ∷ path) is))

  never_low : (step : Step) (path : List Step) (comes : ℤ) → ChangesNothing (step ∷ path) → IsTooLow key step comes → ⊥
  never_low (Point token moment) path comes none low = low
  never_low (Add token other by) path comes none low = none
  never_low (Call token other enters leaves) path comes none low = none
  never_low (End token) path comes none low = low

  pub balanced : IsAnswer IsPath key start start Balanced
  balanced = (
    (λ token differs. differs.5 (comes_as_begun _ differs.1 differs.3 ∙ sym (comes_as_begun _ differs.2 differs.4))),
    (λ token falls. never_low falls.0 falls.2.0 falls.1 (nothing (falls.0 ∷ falls.2.0) falls.2.1) falls.4),
    (λ token comes wrong. wrong.1 (comes_as_begun (End token) comes wrong.0)),
  )
