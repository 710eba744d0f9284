-- By the shape of the reply that was written, or of which a front was.
use Rattle.std.proofs.Common.{◌≡◌, ℕ, List, [], ◌∷◌, ◌++◌, sym, ◌∙◌, ap, subst, refl, append-nil}
use Rattle.meaning_outside.specs.Files.{FileMap}
use Rattle.meaning_answer.specs.Reply.{Ending, Clean, Warned, Refused, Usage, ReadFault, WriteFault, NoMemory, Limit}
use Rattle.meaning_answer.specs.Requests.{Request, BadWord, MissingFile, Check, Expand, request_of}
use Rattle.meaning_answer.specs.Shapes.{HasUsageShape, HasCheckShape, HasShapeFor}
use Rattle.meaning_answer.specs.Answers.{IsAnswer}
use Rattle.meaning_answer.specs.Delivery.{Sinks, Ends}
use Rattle.meaning_answer.specs.laws.Answers.{HasWritten, EndingsTellWhatIsWritten, KeepsOut, TokensAloneGoOut}
use Rattle.meaning_answer.proofs.ShapesOfReplies.{answers_are_shaped}

-- what the sinks took has this property
abbrev Took : Sinks → (List ℕ → List ℕ → Type 0) → Type 0
Took sinks Has = (out : List ℕ) × (err : List ℕ) × (sinks.new_out ≡ sinks.old_out ++ out) × (sinks.new_err ≡ sinks.old_err ++ err) × Has out err

-- a reply that was taken whole
module _ (words : List (List ℕ)) (files : FileMap) (sinks : Sinks) where
  ended : (ending : Ending) → Ends (IsAnswer words files) ending sinks → Took sinks (HasShapeFor (request_of words) ending)
  ended ending ends =
      let reply = ends.0 in
      let shape = subst (λ (e : Ending). HasShapeFor (request_of words) e reply.out reply.err) ends.2 (answers_are_shaped words files reply ends.1) in
      (reply.out, reply.err, ends.3.out, ends.3.err, shape)

pub endings_tell : EndingsTellWhatIsWritten
endings_tell words files NoMemory sinks silent =
    ([], [], silent.out ∙ sym (append-nil sinks.old_out), silent.err ∙ sym (append-nil sinks.old_err), (refl, refl))
endings_tell words files ReadFault sinks silent =
    ([], [], silent.out ∙ sym (append-nil sinks.old_out), silent.err ∙ sym (append-nil sinks.old_err), (refl, refl))
endings_tell words files WriteFault sinks outcome =
    let reply = outcome.0 in
    let broken = outcome.2 in
    let shape = answers_are_shaped words files reply outcome.1 in
    let front = subst (λ (out : List ℕ). HasShapeFor (request_of words) reply.ending out reply.err) broken.prefix_out.1 shape in
    let fronts = subst (λ (err : List ℕ). HasShapeFor (request_of words) reply.ending (broken.front_out ++ broken.prefix_out.0) err) broken.prefix_err.1 front in
    (broken.front_out, broken.front_err, broken.out, broken.err, (reply.ending, broken.prefix_out.0, broken.prefix_err.0, fronts))
endings_tell words files Clean sinks ends = ended words files sinks Clean ends
endings_tell words files Warned sinks ends = ended words files sinks Warned ends
endings_tell words files Refused sinks ends = ended words files sinks Refused ends
endings_tell words files Usage sinks ends = ended words files sinks Usage ends
endings_tell words files Limit sinks ends = ended words files sinks Limit ends

-- Nothing goes to `out` in the shapes of usage and of a check

usage_out : (ending : Ending) (out err : List ℕ) → HasUsageShape ending out err → out ≡ []
usage_out Usage out err shape = shape.0
usage_out Clean out err shape = absurd shape
usage_out Warned out err shape = absurd shape
usage_out Refused out err shape = absurd shape
usage_out Limit out err shape = absurd shape
usage_out ReadFault out err shape = absurd shape
usage_out WriteFault out err shape = absurd shape
usage_out NoMemory out err shape = absurd shape

check_out : (ending : Ending) (out err : List ℕ) → HasCheckShape ending out err → out ≡ []
check_out Clean out err shape = shape.0
check_out Warned out err shape = shape.0
check_out Refused out err shape = shape.0
check_out Limit out err shape = shape.0
check_out Usage out err shape = absurd shape
check_out ReadFault out err shape = absurd shape
check_out WriteFault out err shape = absurd shape
check_out NoMemory out err shape = absurd shape

-- a front of nothing is nothing
front_of_nothing : (front back : List ℕ) → front ++ back ≡ [] → front ≡ []
front_of_nothing [] back same = refl
front_of_nothing (byte ∷ front) back same = cc

-- the same of what was written
module _ (request : Request) (empty : (ending : Ending) (out err : List ℕ) → HasShapeFor request ending out err → out ≡ []) where
  written_out : (ending : Ending) (out err : List ℕ) → HasWritten request ending out err → out ≡ []
  written_out NoMemory out err written = written.0
  written_out ReadFault out err written = written.0
  written_out WriteFault out err written = front_of_nothing out written.1 (empty written.0 (out ++ written.1) (err ++ written.2) written.3)
  written_out Clean out err written = empty Clean out err written
  written_out Warned out err written = empty Warned out err written
  written_out Refused out err written = empty Refused out err written
  written_out Usage out err written = empty Usage out err written
  written_out Limit out err written = empty Limit out err written

  kept_out : (ending : Ending) (sinks : Sinks) → Took sinks (HasWritten request ending) → sinks.new_out ≡ sinks.old_out
  kept_out ending sinks took =
      took.2 ∙ ap (λ (t : List ℕ). sinks.old_out ++ t) (written_out ending took.0 took.1 took.4) ∙ append-nil sinks.old_out

request_out : (request : Request) (ending : Ending) (sinks : Sinks) → Took sinks (HasWritten request ending) → KeepsOut request sinks
request_out (BadWord position word) ending sinks took = kept_out (BadWord position word) usage_out ending sinks took
request_out MissingFile ending sinks took = kept_out MissingFile usage_out ending sinks took
request_out (Check options path) ending sinks took = kept_out (Check options path) check_out ending sinks took
request_out (Expand options path) ending sinks took = tt

pub tokens_alone : TokensAloneGoOut
tokens_alone words files ending sinks outcome = request_out (request_of words) ending sinks (endings_tell words files ending sinks outcome)
