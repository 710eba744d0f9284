use Rattle.std.proofs.Common.{OnOk, IfErr, subst, ◌∙◌}
use Rattle.meaning_preprocessing.specs.State.{and_then, expanded_in, tokens_before}
use Rattle.c_tokens.specs.Seen.{toks_of}
use Rattle.c_preproc.specs.States.{EndsUnit, GoesOn}
use Rattle.c_preproc.proofs.StateLemmas.{put-same}
use Rattle.c_preproc.proofs.TextLemmas.{text-put}
use Rattle.c_preproc.proofs.state.State.put_text.Goals as goal

pub returns-in-Ok-clause-goes : goal.returns-in-Ok-clause-goes
returns-in-Ok-clause-goes c = λ path s next holds.
    let done = c.in-Ok.ensures.done path s holds in
    subst (λ whole. OnOk c.put.result (GoesOn c.expanded.new.names path c.put.new.self whole next))
    (text-put c.args.names.now c.expanded.new.names c.expanded.ensures.keeps path c.args.self.now c.expanded.new.self s done.0 holds c.expanded.ensures.put (expanded_in s (toks_of c.args.names.now c.args.text.now)) c.in-Ok.made.items next done.2)
    (c.put.ensures.goes c.expanded.new.names path done.0 next done.1 c.in-Ok.ensures.made)

pub returns-in-Ok-clause-ends : goal.returns-in-Ok-clause-ends
returns-in-Ok-clause-ends c = λ path s next holds.
    let done = c.in-Ok.ensures.done path s holds in
    subst (λ whole. IfErr c.put.result (EndsUnit c.expanded.new.names whole))
    (text-put c.args.names.now c.expanded.new.names c.expanded.ensures.keeps path c.args.self.now c.expanded.new.self s done.0 holds c.expanded.ensures.put (expanded_in s (toks_of c.args.names.now c.args.text.now)) c.in-Ok.made.items next done.2)
    (c.put.ensures.ends c.expanded.new.names path done.0 next done.1)

pub returns-in-Ok-clause-known : goal.returns-in-Ok-clause-known
returns-in-Ok-clause-known c = c.put.ensures.known c.expanded.new.names

pub returns-in-Err-clause-ends : goal.returns-in-Err-clause-ends
returns-in-Err-clause-ends c = λ path s next holds.
    subst (λ put. EndsUnit c.expanded.new.names (tokens_before put (and_then (expanded_in s (toks_of c.args.names.now c.args.text.now)) next)) c.text_fault.result)
    (put-same c.args.names.now c.expanded.new.names c.expanded.ensures.keeps path c.args.self.now c.expanded.new.self s holds c.expanded.ensures.put)
    (c.text_fault.ensures.ends path s (expanded_in s (toks_of c.args.names.now c.args.text.now)) next (c.in-Err.ensures.still path s holds) (c.in-Err.ensures.stops path s holds))

pub returns-in-Err-clause-known : goal.returns-in-Err-clause-known
returns-in-Err-clause-known c =
    let held = c.requires.held in
    c.text_fault.ensures.known held.0 held.1 (c.in-Err.ensures.still held.0 held.1 held.2)
