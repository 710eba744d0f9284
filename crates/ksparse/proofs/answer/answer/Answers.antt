-- What is told of a file is told of what the words ask for.
use Rattle.std.proofs.Common.{◌≡◌, ℕ, List, ap, subst, ◌∙◌}
use Rattle.std.proofs.lemmas.Result.{IfOk-weaker}
use Rattle.meaning_outside.specs.Loads.{loads_since}
use Rattle.meaning_answer.specs.Answers.{IsRequestReply}
use Rattle.meaning_answer.specs.Requests.{Request, Check, Expand, request_of}
use Rattle.ksparse.specs.Ending.{ending_seen}
use Rattle.ksparse.specs.Words.{options_seen}
use Rattle.ksparse.specs.Written.{reply_seen}
use Rattle.ksparse.proofs.CleanIsSafe.{asked-safe}
use Rattle.ksparse.proofs.answer.answer.Goals as goal

pub returns-in-Ok-Check-clause-safe : goal.returns-in-Ok-Check-clause-safe
returns-in-Ok-Check-clause-safe g c =
    let words = c.args.words.now in
    let loads = loads_since (g.F.Files.loads c.args.files.now) (g.F.Files.loads c.check_file.new.files) in
    let options = options_seen c.in-Ok-Check.options in
    let is : Check options c.in-Ok-Check.file ≡ request_of words = rw c.in-Ok-Check.field-0-is at c.in-Ok-Check.ensures.command in
    let asked = ap (λ (path : List ℕ). Check options path) c.as_slice.ensures ∙ is in
    IfOk-weaker c.check_file.result _ _ (λ written safe. asked-safe words loads (ending_seen written.exit) (Check options c.as_slice.result.now) asked safe)
    c.check_file.ensures.safe

pub returns-in-Ok-Expand-clause-right : goal.returns-in-Ok-Expand-clause-right
returns-in-Ok-Expand-clause-right g c =
    let words = c.args.words.now in
    let options = options_seen c.in-Ok-Expand.options in
    let is : Expand options c.in-Ok-Expand.file ≡ request_of words = rw c.in-Ok-Expand.field-0-is at c.in-Ok-Expand.ensures.command in
    let asked = ap (λ (path : List ℕ). Expand options path) c.as_slice-in-Ok-Expand.ensures ∙ is in
    IfOk-weaker c.expand_file.result _ _
    (λ written right. λ map agrees. subst (λ (request : Request). IsRequestReply request map (reply_seen written)) asked (right map agrees))
    c.expand_file.ensures.right
