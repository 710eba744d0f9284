use Rattle.std.proofs.Common.{ap, ◌∙◌}
use Rattle.std.proofs.lemmas.Result.{IfOk-weaker}
use Rattle.meaning_answer.specs.Units.{warned_reply}
use Rattle.decl_judge.specs.Units.{nodes_of}
use Rattle.context_judge.specs.Found.{found_seen}
use Rattle.ksparse.proofs.Judging.{shown-ordered}
use Rattle.ksparse.proofs.Shown.{warnings-shown}
use Rattle.ksparse.proofs.check.tell.Goals as goal

pub warn-requires : goal.warn-requires
warn-requires c =
    record { listing = shown-ordered c.args.names.now c.args.judged.now.types c.in_ok-whole.whole c.in_ok-whole.ensures.ordered }

pub returns : goal.returns
returns c = λ is.
    let names = c.args.names.now in
    let judged = c.args.judged.now in
    let whole = c.in_ok-whole.whole in
    IfOk-weaker c.warn.result _ _
    (λ written told. (
      found_seen judged.types whole,
      c.in_ok-whole.ensures.lists is,
      told ∙ ap warned_reply (warnings-shown names c.args.toks.now c.requires.numbered (nodes_of c.args.unit.now) judged is c.args.classes.now whole),
    ))
    c.warn.ensures
