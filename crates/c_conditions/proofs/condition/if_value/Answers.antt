use Rattle.std.proofs.Common.{Err, arith}
use Rattle.meaning_conditions.specs.plain.Reading.{answer_of}
use Rattle.c_tokens.specs.Seen.{toks_of}
use Rattle.c_conditions.specs.Seen.{Matches}
use Rattle.c_conditions.specs.Frames.{state_seen}
use Rattle.c_conditions.proofs.Steps.{stopped, gone_on, known_behind, ended_all, Matches-value, Matches-fault, Matches-exact}
use Rattle.c_conditions.proofs.condition.if_value.Goals as goal

-- a step that fails tells the answer
told_stop : (c : goal.After-drop-frames) → Matches (answer_of (toks_of c.args.names.now c.args.toks.now)) (Err c.in-Err.fault)
told_stop c =
    stopped c.args.names.now c.args.toks.now c.tokens.rest.now c.in-Some.others.now c.in-Some.field-0-0.now c.sign_of.result c.tokens.index
    (state_seen c.tokens.frames.items c.tokens.operand) c.step.new.frames.items c.step.result c.in-Err.fault c.in-Some.ensures.cases.0 c.sign_of.ensures
    c.tokens.invariant.same c.step.ensures c.in-Err.is

pub returns-in-Err-clause-fault : goal.returns-in-Err-clause-fault
returns-in-Err-clause-fault c = Matches-fault (toks_of c.args.names.now c.args.toks.now) (Err c.in-Err.fault) (told_stop c)

pub returns-in-Err-clause-exact : goal.returns-in-Err-clause-exact
returns-in-Err-clause-exact c = Matches-exact (toks_of c.args.names.now c.args.toks.now) (Err c.in-Err.fault) (told_stop c)

pub tokens-preserved : goal.tokens-preserved
tokens-preserved c =
    record {
      same = gone_on c.args.names.now c.args.toks.now c.tokens.rest.now c.in-Some.others.now c.in-Some.field-0-0.now c.sign_of.result c.tokens.index
          (state_seen c.tokens.frames.items c.tokens.operand) c.step.new.frames.items c.step.result c.in-Ok.next c.in-Some.ensures.cases.0 c.sign_of.ensures
          c.tokens.invariant.same c.step.ensures c.in-Ok.is;
      count = omega (arith, c.in-Some.ensures.cases.1);
      known = known_behind c.args.names.now c.tokens.rest.now c.in-Some.others.now c.in-Some.field-0-0.now c.in-Some.ensures.cases.0 c.tokens.invariant.known;
    }

-- the end tells the answer
told_end : (c : goal.After-drop-frames-2) → Matches (answer_of (toks_of c.args.names.now c.args.toks.now)) c.finish.result
told_end c =
    ended_all c.args.names.now c.args.toks.now c.tokens.rest.now c.tokens.index (state_seen c.tokens.frames.items c.tokens.operand) c.finish.result
    c.in_default.ensures.cases c.tokens.invariant.same c.finish.ensures.answer

pub returns-clause-value : goal.returns-clause-value
returns-clause-value c = Matches-value (toks_of c.args.names.now c.args.toks.now) c.finish.result (told_end c)

pub returns-clause-fault : goal.returns-clause-fault
returns-clause-fault c = Matches-fault (toks_of c.args.names.now c.args.toks.now) c.finish.result (told_end c)

pub returns-clause-exact : goal.returns-clause-exact
returns-clause-exact c = Matches-exact (toks_of c.args.names.now c.args.toks.now) c.finish.result (told_end c)
