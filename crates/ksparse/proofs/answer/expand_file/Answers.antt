use Rattle.std.proofs.Common.{List, ap, ◌∙◌}
use Rattle.std.proofs.lemmas.Result.{IfOk-weaker}
use Rattle.c_tokens.specs.declared.token.Token.{Token}
use Rattle.c_tokens.specs.Seen.{toks_of}
use Rattle.meaning_answer.specs.Answers.{expanded_reply}
use Rattle.ksparse.specs.Words.{options_seen}
use Rattle.ksparse.specs.Written.{reply_seen}
use Rattle.ksparse.proofs.UnitReplies.{expand_right, expand_stopped}
use Rattle.ksparse.proofs.answer.expand_file.Goals as goal

pub returns-in-Ok-clause-right : goal.returns-in-Ok-clause-right
returns-in-Ok-clause-right g c = λ map agrees.
    let names = c.preprocess.new.names in
    expand_right (options_seen c.args.options.now) c.args.path.now names c.in-Ok.toks map (reply_seen c.in_ok-expand_tokens-in-Ok.field-0) (c.in-Ok.ensures.unit map agrees)
    (c.in_ok-expand_tokens-in-Ok.ensures ∙ ap (λ (tokens : List Token). expanded_reply (toks_of names tokens)) c.as_slice.ensures)

pub returns-clause-right : goal.returns-clause-right
returns-clause-right g c =
    IfOk-weaker c.tell_stop.result _ _
    (λ written told. λ map agrees.
    expand_stopped (options_seen c.args.options.now) c.args.path.now c.preprocess.new.names map (reply_seen written) c.in-Err.fault (c.in-Err.ensures.fault map agrees) told)
    c.tell_stop.ensures.right
