-- A reply that is the answer over each map that agrees with the loads, of which there is one, and that was taken
-- whole.
use Rattle.std.proofs.Common.{◌≡◌, ℕ, List, subst, refl}
use Rattle.meaning_outside.specs.Files.{FileMap}
use Rattle.meaning_outside.specs.Loads.{Loaded, AgreesWith}
use Rattle.meaning_answer.specs.Reply.{Ending, Clean, Warned, Refused, Usage, ReadFault, WriteFault, NoMemory, Limit, Reply}
use Rattle.meaning_answer.specs.Requests.{Request, BadWord, MissingFile, Check, Expand, request_of}
use Rattle.meaning_answer.specs.Shapes.{HasShapeFor, IsShapedFor}
use Rattle.meaning_answer.specs.Answers.{IsAnswer}
use Rattle.meaning_answer.specs.Delivery.{Sinks, Delivers, Outcome, IsOutcome, Completes}
use Rattle.meaning_answer.proofs.Delivered.{IsOutcome-Completes}
use Rattle.meaning_answer.proofs.ShapesOfReplies.{answers_are_shaped}

-- no shape is that of a fault or of want of memory
shaped_read_fault : (request : Request) (out err : List ℕ) → HasShapeFor request ReadFault out err → ⊥
shaped_read_fault (BadWord position word) out err shape = shape
shaped_read_fault MissingFile out err shape = shape
shaped_read_fault (Check options path) out err shape = shape
shaped_read_fault (Expand options path) out err shape = shape

shaped_write_fault : (request : Request) (out err : List ℕ) → HasShapeFor request WriteFault out err → ⊥
shaped_write_fault (BadWord position word) out err shape = shape
shaped_write_fault MissingFile out err shape = shape
shaped_write_fault (Check options path) out err shape = shape
shaped_write_fault (Expand options path) out err shape = shape

shaped_no_memory : (request : Request) (out err : List ℕ) → HasShapeFor request NoMemory out err → ⊥
shaped_no_memory (BadWord position word) out err shape = shape
shaped_no_memory MissingFile out err shape = shape
shaped_no_memory (Check options path) out err shape = shape
shaped_no_memory (Expand options path) out err shape = shape

module _ (request : Request) (Right : Reply → Type 0) (reply : Reply) (right : Right reply) (sinks : Sinks) (delivers : Delivers reply sinks) where
  delivered_as : (ending : Ending) → reply.ending ≡ ending → HasShapeFor request ending reply.out reply.err → Outcome Right ending sinks
  delivered_as Clean is shape = (reply, right, is, delivers)
  delivered_as Warned is shape = (reply, right, is, delivers)
  delivered_as Refused is shape = (reply, right, is, delivers)
  delivered_as Usage is shape = (reply, right, is, delivers)
  delivered_as Limit is shape = (reply, right, is, delivers)
  delivered_as ReadFault is shape = absurd (shaped_read_fault request _ _ shape)
  delivered_as WriteFault is shape = absurd (shaped_write_fault request _ _ shape)
  delivered_as NoMemory is shape = absurd (shaped_no_memory request _ _ shape)

  delivered : IsShapedFor request reply → Outcome Right reply.ending sinks
  delivered shaped = delivered_as reply.ending refl shaped

module _ (words : List (List ℕ)) (loads : List Loaded) (found : (files : FileMap) × AgreesWith files loads) (reply : Reply) (right : (files : FileMap) → AgreesWith files loads → IsAnswer words files reply) where
  shaped : IsShapedFor (request_of words) reply
  shaped = answers_are_shaped words found.0 reply (right found.0 found.1)

  -- no reply ends with a fault
  pub no_read_fault : reply.ending ≡ ReadFault → ⊥
  no_read_fault is = shaped_read_fault (request_of words) reply.out reply.err (subst (λ (e : Ending). HasShapeFor (request_of words) e reply.out reply.err) is shaped)

  pub no_write_fault : reply.ending ≡ WriteFault → ⊥
  no_write_fault is = shaped_write_fault (request_of words) reply.out reply.err (subst (λ (e : Ending). HasShapeFor (request_of words) e reply.out reply.err) is shaped)

  module _ (sinks : Sinks) (delivers : Delivers reply sinks) where
    pub delivered_outcome : IsOutcome words loads reply.ending sinks
    delivered_outcome files agrees = delivered (request_of words) (IsAnswer words files) reply (right files agrees) sinks delivers shaped

    pub delivered_completes : (rose : Type 0) → Completes words loads rose reply.ending sinks
    delivered_completes rose =
        IsOutcome-Completes words loads rose reply.ending sinks delivered_outcome (λ is. absurd (no_read_fault is)) (λ is. absurd (no_write_fault is))
