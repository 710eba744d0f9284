-- What was taken is what sinks tell, where they tell it.
use Rattle.std.proofs.Common.{◌≡◌, ℕ, List, [], ◌++◌, sym, ◌∙◌, ap, append-nil}
use Rattle.std.proofs.lemmas.List.{append_cancel_left}
use Rattle.meaning_answer.specs.Reply.{Ending, Clean, Warned, Refused, Usage, ReadFault, WriteFault, NoMemory, Limit, Reply}
use Rattle.meaning_answer.specs.Delivery.{Sinks, Delivers, StaysSilent, Ends, Outcome, GrewAlike}
use Rattle.meaning_answer.specs.laws.Answers.{OutcomesAreTold}

-- what is told grew by each text by which what was taken grew
grew_told : (old new old_taken new_taken text : List ℕ) → GrewAlike old new old_taken new_taken → new_taken ≡ old_taken ++ text → new ≡ old ++ text
grew_told old new old_taken new_taken text alike taken =
    alike.1 ∙ ap (λ (t : List ℕ). old ++ t) (append_cancel_left old_taken alike.0 text (sym alike.2 ∙ taken))

stayed_told : (old new old_taken new_taken : List ℕ) → GrewAlike old new old_taken new_taken → new_taken ≡ old_taken → new ≡ old
stayed_told old new old_taken new_taken alike stayed =
    grew_told old new old_taken new_taken [] alike (stayed ∙ sym (append-nil old_taken)) ∙ append-nil old

module _ (told taken : Sinks) (out_alike : GrewAlike told.old_out told.new_out taken.old_out taken.new_out) (err_alike : GrewAlike told.old_err told.new_err taken.old_err taken.new_err) where
  out_told : (text : List ℕ) → taken.new_out ≡ taken.old_out ++ text → told.new_out ≡ told.old_out ++ text
  out_told text = grew_told told.old_out told.new_out taken.old_out taken.new_out text out_alike

  err_told : (text : List ℕ) → taken.new_err ≡ taken.old_err ++ text → told.new_err ≡ told.old_err ++ text
  err_told text = grew_told told.old_err told.new_err taken.old_err taken.new_err text err_alike

  silent_told : StaysSilent taken → StaysSilent told
  silent_told silent = record { out = stayed_told _ _ _ _ out_alike silent.out; err = stayed_told _ _ _ _ err_alike silent.err }

  delivered_told : (reply : Reply) → Delivers reply taken → Delivers reply told
  delivered_told reply delivers = record { out = out_told reply.out delivers.out; err = err_told reply.err delivers.err }

  module _ (Right : Reply → Type 0) where
    ends_told : (ending : Ending) → Ends Right ending taken → Ends Right ending told
    ends_told ending ends = (ends.0, ends.1, ends.2, delivered_told ends.0 ends.3)

    outcome_told : (ending : Ending) → Outcome Right ending taken → Outcome Right ending told
    outcome_told NoMemory silent = silent_told silent
    outcome_told ReadFault silent = silent_told silent
    outcome_told WriteFault (reply, right, broken) = (
      reply,
      right,
      record {
        front_out = broken.front_out;
        front_err = broken.front_err;
        prefix_out = broken.prefix_out;
        prefix_err = broken.prefix_err;
        out = out_told broken.front_out broken.out;
        err = err_told broken.front_err broken.err;
      },
    )
    outcome_told Clean ends = ends_told Clean ends
    outcome_told Warned ends = ends_told Warned ends
    outcome_told Refused ends = ends_told Refused ends
    outcome_told Usage ends = ends_told Usage ends
    outcome_told Limit ends = ends_told Limit ends

pub outcomes_are_told : OutcomesAreTold
outcomes_are_told words files loads ending told taken agrees out_alike err_alike outcome =
    outcome_told told taken out_alike err_alike _ ending (outcome files agrees)
