-- Texts that are appended one behind the other.
use Rattle.std.proofs.Common.{◌≡◌, ℕ, List, ◌++◌, ap, ◌∙◌, append_assoc}

-- two of them are appended as one
pub behind : (start middle end first second : List ℕ) → middle ≡ start ++ first → end ≡ middle ++ second → end ≡ start ++ (first ++ second)
behind start middle end first second once twice =
    twice ∙ ap (λ (text : List ℕ). text ++ second) once ∙ append_assoc start first second
