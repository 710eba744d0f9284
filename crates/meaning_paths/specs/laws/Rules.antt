-- What holds of the answer over a set of paths, whatever the set is.
use Rattle.std.specs.Prelude.{◌≡◌, ◌↔◌, ℕ, ℤ, List, ◌∷◌}
use Rattle.meaning_paths.specs.Steps.{Step, End, count}
use Rattle.meaning_paths.specs.ContextRules.{ContextAnswer, Balanced, IsAnswer}

-- two answers are one
abbrev pub HasOneAnswer : (List Step → Type 0) → Type 0
HasOneAnswer IsPath =
    (key : ℕ) (start leaves : ℤ) (answer other : ContextAnswer) → IsAnswer IsPath key start leaves answer → IsAnswer IsPath key start leaves other
    → answer ≡ other

-- an answer is that of an equal set too
abbrev pub HaveEqualAnswers : (List Step → Type 0) → (List Step → Type 0) → Type 0
HaveEqualAnswers IsPath IsOther =
    ((path : List Step) → IsPath path ↔ IsOther path)
    → (key : ℕ) (start leaves : ℤ) (answer : ContextAnswer) → IsAnswer IsPath key start leaves answer → IsAnswer IsOther key start leaves answer

-- a path that reaches an end comes to it with the count that is to be left with
abbrev pub BalancedPathsBalance : (List Step → Type 0) → Type 0
BalancedPathsBalance IsPath =
    (key : ℕ) (start leaves : ℤ) → IsAnswer IsPath key start leaves Balanced
    → (path : List Step) (token : ℕ) → IsPath (End token ∷ path) → count key start path ≡ leaves
