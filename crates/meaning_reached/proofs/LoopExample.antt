-- The answer of the loop that acquires.
use Rattle.std.proofs.Common.{inl, inr, ℕ, ◌≤◌, ℤ, pos, ◌+ℤ◌, true, List, [], ◌∷◌, refl, sym, subst, rules}
use Rattle.meaning_paths.specs.Steps.{Step, Point, change, token_of}
use Rattle.meaning_paths.specs.Walks.{IsIn, begins, passes, turns}
use Rattle.meaning_paths.specs.ContextRules.{Comes}
use Rattle.meaning_control.specs.States.{ControlNode, State, enter, next_states, steps_in, IsControlPath}
use Rattle.meaning_reached.specs.examples.Loops.{acquiring_body, LoopExample}
use Rattle.meaning_reached.proofs.Numbers.{place_in}
use Rattle.meaning_reached.proofs.Meetings.{Meets, at, met_there}
use Rattle.meaning_reached.proofs.Places.{all_states, entered, stays}

-- no step stands before this token
abbrev From : ℕ → List Step → Type 0
From low [] = Unit {0}
From low (step ∷ steps) = (low ≤ token_of step) × From low steps

meets_from : (low key : ℕ) (comes : ℤ) (steps : List Step) (step : Step) (there : ℤ) → From low steps → Meets key comes steps step there → low ≤ token_of step
meets_from low key comes [] step there from meets = absurd meets
meets_from low key comes (first ∷ steps) step there from (inl is) = subst (λ now. low ≤ token_of now) is.0 from.0
meets_from low key comes (first ∷ steps) step there from (inr further) = meets_from low key (comes +ℤ change key first) steps step there from.1 further

module _ (brace low : ℕ) where
  abbrev AllFrom : List State → Type 0
  AllFrom [] = Unit {0}
  AllFrom (state ∷ states) = From low (steps_in brace state) × AllFrom states

  one_from : (states : List State) (state : State) → AllFrom states → IsIn state states → From low (steps_in brace state)
  one_from [] state from there = absurd there
  one_from (first ∷ states) state from (inl is) = subst (λ now. From low (steps_in brace now)) (sym is) from.0
  one_from (first ∷ states) state from (inr there) = one_from states state from.1 there

  pub paths_from : (body : ControlNode) → AllFrom (all_states body) → (key : ℕ) (start : ℤ) (step : Step) (comes : ℤ)
      → Comes (IsControlPath brace body) key start step comes → low ≤ token_of step
  paths_from body from key start step comes met =
      let (number, below, came, reached, meets) =
      met_there (steps_in brace) next_states (enter body []) (all_states body) (entered body) (stays body) key start step comes met
      in
      meets_from low key came _ step comes
      (one_from (all_states body) (at (steps_in brace) next_states (enter body []) (all_states body) (entered body) (stays body) key start number) from
      (place_in (all_states body) (enter body []) (entered body) next_states (stays body) number))
      meets

pub differs_at_loop : LoopExample
differs_at_loop = (
  (
    true,
    pos 0,
    pos 1,
    (_, (_, _, passes (turns (passes (begins refl)) (inl refl) refl)), refl),
    (
      _,
      (_, _, passes (turns (passes (passes (turns (turns (passes (turns (passes (begins refl)) (inl refl) refl)) (inl refl) refl) (inl refl) refl))) (inl refl) refl)),
      refl,
    ),
    λ equal. cc,
  ),
  λ token differs. paths_from 12 1 acquiring_body (search rules) 0 (pos 0) (Point token differs.0) differs.1 differs.3,
)
