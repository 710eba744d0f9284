-- One line more is answered, or it stops all, or none is left.
use Rattle.std.proofs.Common.{◌≡◌, Some, None, length, refl, sym, ◌∙◌, subst, arith}
use Rattle.std.proofs.lemmas.Bool.{eqb-true}
use Rattle.std.proofs.lemmas.List.{nil_from_length}
use Rattle.flows.specs.declared.wrong.Fault.{Fault}
use Rattle.flows.specs.Answers.{IsFaultOf, ends, place_of}
use Rattle.flows.proofs.LineLemmas.{line-goes, line-stops, some-left}
use Rattle.flows.proofs.text.push_answers.Goals as goal

pub answer_line-requires : goal.answer_line-requires
answer_line-requires c = omega (arith, c.requires, c.lines.invariant.within, c.split_at_byte.ensures.within)

pub place_of-requires : goal.place_of-requires
place_of-requires c = omega (arith, c.requires, c.lines.invariant.within, c.split_at_byte.ensures.within)

pub returns-in-Err-Wrong : goal.returns-in-Err-Wrong
returns-in-Err-Wrong c =
    let lacks = subst (IsFaultOf c.split_at_byte.result.0.now) c.in-Err-Wrong.field-0-is c.in-Err-Wrong.ensures.fault in
    let place : c.place_of.result ≡ place_of c.lines.number c.split_at_byte.result.0.now c.in-Err-Wrong.fault =
    subst (λ (fault : Fault). c.place_of.result ≡ place_of c.lines.number c.split_at_byte.result.0.now fault) c.in-Err-Wrong.fault-is c.place_of.ensures
    in
    c.lines.invariant.on c.lines.shown.items (Some c.place_of.result)
    (line-stops c.lines.number c.lines.shown.items c.lines.rest.now c.split_at_byte.result.0.now c.in-Err-Wrong.fault c.place_of.result (some-left c.lines.rest.now (sym c.is_empty.ensures ∙ c.lines-test.true)) c.split_at_byte.ensures.before lacks place)

pub lines-preserved : goal.lines-preserved
lines-preserved c =
    record {
      on = λ after stop later.
          c.lines.invariant.on after stop
          (line-goes c.lines.number c.lines.shown.items c.lines.rest.now c.split_at_byte.result.0.now c.split_at_byte.result.1.now c.push_answer.new.shown.items after stop c.in-Ok.answer
          (some-left c.lines.rest.now (sym c.is_empty.ensures ∙ c.lines-test.true)) c.split_at_byte.ensures.before c.split_at_byte.ensures.behind c.in_ok-push_answer-in-Ok.ensures c.in-Ok.ensures.answer later);
      within = omega (arith, c.lines.invariant.within, c.split_at_byte.ensures.shorter);
      number = omega (arith, c.lines.invariant.number, c.split_at_byte.ensures.shorter, some-left c.lines.rest.now (sym c.is_empty.ensures ∙ c.lines-test.true));
    }

pub returns : goal.returns
returns c =
    c.lines.invariant.on c.lines.shown.items None
    (ends (nil_from_length c.lines.rest.now (eqb-true (length c.lines.rest.now) 0 (sym c.is_empty.ensures ∙ c.lines-test.false))) refl refl)
