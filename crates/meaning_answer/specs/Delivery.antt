-- What the sinks have taken when the command has ended, by what its loads gave.
use Rattle.std.specs.Prelude.{◌≡◌, ℕ, List, ◌++◌, ◌⊎◌}
use Rattle.meaning_outside.specs.Files.{FileMap}
use Rattle.meaning_outside.specs.Loads.{Loaded, AgreesWith}
use Rattle.meaning_answer.specs.Reply.{Ending, Clean, Warned, Refused, Usage, ReadFault, WriteFault, NoMemory, Limit, Reply}
use Rattle.meaning_answer.specs.Answers.{IsAnswer}

-- What the two sinks had taken before the call, and have taken behind it.
pub record Sinks : Type 0 where
  pub old_out : List ℕ
  pub new_out : List ℕ
  pub old_err : List ℕ
  pub new_err : List ℕ

-- the reply was taken whole
pub record Delivers (reply : Reply) (sinks : Sinks) : Type 0 where
  pub out : sinks.new_out ≡ sinks.old_out ++ reply.out
  pub err : sinks.new_err ≡ sinks.old_err ++ reply.err

-- the text begins with this front
abbrev pub IsPrefix : List ℕ → List ℕ → Type 0
IsPrefix front text = (back : List ℕ) × (text ≡ front ++ back)

-- a front of the reply's texts was taken
pub record BreaksOff (reply : Reply) (sinks : Sinks) : Type 0 where
  pub front_out : List ℕ
  pub front_err : List ℕ
  pub prefix_out : IsPrefix front_out reply.out
  pub prefix_err : IsPrefix front_err reply.err
  pub out : sinks.new_out ≡ sinks.old_out ++ front_out
  pub err : sinks.new_err ≡ sinks.old_err ++ front_err

-- nothing was taken
pub record StaysSilent (sinks : Sinks) : Type 0 where
  pub out : sinks.new_out ≡ sinks.old_out
  pub err : sinks.new_err ≡ sinks.old_err

-- a right reply with this ending was taken whole
abbrev pub Ends : (Reply → Type 0) → Ending → Sinks → Type 0
Ends Right ending sinks = (reply : Reply) × Right reply × (reply.ending ≡ ending) × Delivers reply sinks

-- What each ending says of the sinks, where Right says which replies are right.
abbrev pub Outcome : (Reply → Type 0) → Ending → Sinks → Type 0
Outcome Right NoMemory sinks = StaysSilent sinks
Outcome Right ReadFault sinks = StaysSilent sinks
Outcome Right WriteFault sinks = (reply : Reply) × Right reply × BreaksOff reply sinks
Outcome Right Clean sinks = Ends Right Clean sinks
Outcome Right Warned sinks = Ends Right Warned sinks
Outcome Right Refused sinks = Ends Right Refused sinks
Outcome Right Usage sinks = Ends Right Usage sinks
Outcome Right Limit sinks = Ends Right Limit sinks

-- Over each map that agrees with the loads, the answer was taken as the ending says: whole, a front of it, or
-- nothing.
abbrev pub IsOutcome : List (List ℕ) → List Loaded → Ending → Sinks → Type 0
IsOutcome words loads ending sinks = (files : FileMap) → AgreesWith files loads → Outcome (IsAnswer words files) ending sinks

-- Where no count of faults rose, the command ends as the answer over each such map says, and the answer was
-- taken whole; or memory was wanting.
abbrev pub Completes : List (List ℕ) → List Loaded → (rose : Type 0) → Ending → Sinks → Type 0
Completes words loads rose ending sinks =
    (files : FileMap) → AgreesWith files loads → (reply : Reply) → IsAnswer words files reply → ¬ rose
    → (ending ≡ NoMemory) ⊎ ((ending ≡ reply.ending) × Delivers reply sinks)

-- what is told grew by the bytes that were taken
abbrev pub GrewAlike : (old new old_taken new_taken : List ℕ) → Type 0
GrewAlike old new old_taken new_taken = (text : List ℕ) × (new ≡ old ++ text) × (new_taken ≡ old_taken ++ text)
