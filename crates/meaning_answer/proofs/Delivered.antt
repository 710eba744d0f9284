-- A command whose outcome is right gives the answer.
use Rattle.std.proofs.Common.{◌≡◌, ℕ, List, sym, ◌∙◌, ap, subst, refl, inl, inr, ◌⊎◌}
use Rattle.meaning_outside.specs.Files.{FileMap}
use Rattle.meaning_outside.specs.Loads.{Loaded}
use Rattle.meaning_answer.specs.Reply.{Ending, Clean, Warned, Refused, Usage, ReadFault, WriteFault, NoMemory, Limit, Reply}
use Rattle.meaning_answer.specs.Answers.{IsAnswer}
use Rattle.meaning_answer.specs.Delivery.{Sinks, Delivers, Ends, Outcome, IsOutcome, Completes}
use Rattle.meaning_answer.proofs.Replies.{answers_are_unique}

module _ (words : List (List ℕ)) (files : FileMap) (reply : Reply) (is : IsAnswer words files reply) (sinks : Sinks) where
  -- what was taken whole is the answer
  ends_answered : (ending : Ending) → Ends (IsAnswer words files) ending sinks → (ending ≡ NoMemory) ⊎ ((ending ≡ reply.ending) × Delivers reply sinks)
  ends_answered ending ends =
      let same : ends.0 ≡ reply = answers_are_unique words files ends.0 reply ends.1 is in
      inr (sym ends.2 ∙ ap (λ (r : Reply). r.ending) same, subst (λ (r : Reply). Delivers r sinks) same ends.3)

  module _ (rose : Type 0) (none : rose → ⊥) where
    outcome_answered : (ending : Ending) → Outcome (IsAnswer words files) ending sinks → (ending ≡ ReadFault → rose) → (ending ≡ WriteFault → rose)
        → (ending ≡ NoMemory) ⊎ ((ending ≡ reply.ending) × Delivers reply sinks)
    outcome_answered NoMemory outcome read write = inl refl
    outcome_answered ReadFault outcome read write = absurd (none (read refl))
    outcome_answered WriteFault outcome read write = absurd (none (write refl))
    outcome_answered Clean outcome read write = ends_answered Clean outcome
    outcome_answered Warned outcome read write = ends_answered Warned outcome
    outcome_answered Refused outcome read write = ends_answered Refused outcome
    outcome_answered Usage outcome read write = ends_answered Usage outcome
    outcome_answered Limit outcome read write = ends_answered Limit outcome

-- where faults come only with a risen count, a right outcome is complete
pub IsOutcome-Completes :
    (words : List (List ℕ)) (loads : List Loaded) (rose : Type 0) (ending : Ending) (sinks : Sinks) → IsOutcome words loads ending sinks
    → (ending ≡ ReadFault → rose) → (ending ≡ WriteFault → rose) → Completes words loads rose ending sinks
IsOutcome-Completes words loads rose ending sinks outcome read write =
    λ files agrees reply is none. outcome_answered words files reply is sinks rose none ending (outcome files agrees) read write
