use Rattle.std.proofs.lemmas.Result.{IfOk-weaker}
use Rattle.ksparse.specs.Words.{options_seen}
use Rattle.ksparse.specs.Written.{reply_seen}
use Rattle.ksparse.proofs.CleanIsSafe.{clean-safe}
use Rattle.ksparse.proofs.UnitReplies.{check_right, check_stopped}
use Rattle.ksparse.proofs.answer.check_file.Goals as goal

pub returns-in_ok-check_tokens-in-Ok-clause-right : goal.returns-in_ok-check_tokens-in-Ok-clause-right
returns-in_ok-check_tokens-in-Ok-clause-right g c = λ map agrees.
    check_right (options_seen c.args.options.now) c.args.path.now c.preprocess.new.names c.in-Ok.toks map (reply_seen c.in_ok-check_tokens-in-Ok.field-0)
    (c.in-Ok.ensures.unit map agrees) c.in_ok-check_tokens-in-Ok.ensures.right

pub returns-in_ok-check_tokens-in-Ok-clause-safe : goal.returns-in_ok-check_tokens-in-Ok-clause-safe
returns-in_ok-check_tokens-in-Ok-clause-safe g c = λ clean map agrees.
    let told = c.in_ok-check_tokens-in-Ok.ensures in
    clean-safe (options_seen c.args.options.now) c.args.path.now c.preprocess.new.names c.in-Ok.toks map (reply_seen c.in_ok-check_tokens-in-Ok.field-0)
    (c.in-Ok.ensures.unit map agrees) told.right clean (told.safe clean)

pub returns-in-Err-clause-right : goal.returns-in-Err-clause-right
returns-in-Err-clause-right g c =
    IfOk-weaker c.tell_stop.result _ _
    (λ written told. λ map agrees.
    check_stopped (options_seen c.args.options.now) c.args.path.now c.preprocess.new.names map (reply_seen written) c.in-Err.fault (c.in-Err.ensures.fault map agrees) told)
    c.tell_stop.ensures.right
