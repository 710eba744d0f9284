-- One step more, the last one, or what is wrong with it.
use Rattle.std.proofs.Common.{◌≡◌, List, [], ◌∷◌, ◌++◌, length, map, sym, ap, ◌∙◌, subst, arith}
use Rattle.std.proofs.lemmas.List.{map-append}
use Rattle.meaning_paths.specs.Steps as steps
use Rattle.control_flow.specs.Seen.{step_of}
use Rattle.flows.specs.Reading.{Reads, behind_spaces}
use Rattle.flows.specs.Steps.{step_at}
use Rattle.flows.specs.Lines.{begins_step, right_there, steps_at}
use Rattle.flows.specs.Answers.{IsReadingOf}
use Rattle.flows.proofs.ElementLemmas.{ReadsOn, ends, fails, goes-further}
use Rattle.flows.proofs.LineLemmas.{handed-on, went-well}
use Rattle.flows.proofs.line.read_steps.Goals as goal

pub returns-in_err-step-clause-fails : goal.returns-in_err-step-clause-fails
returns-in_err-step-clause-fails c =
    handed-on (IsReadingOf (steps_at c.args.text.now)) _ c.from_residual.result c.from_residual.ensures.1
    (fails step_at begins_step right_there (map step_of c.steps.steps) c.steps.rest.now (steps_at c.args.text.now) _ _ c.steps.invariant.on c.in_err-step.ensures.fails)

pub returns-then-not-begins_step-clause-reads : goal.returns-then-not-begins_step-clause-reads
returns-then-not-begins_step-clause-reads c =
    let before = map step_of c.steps.steps in
    let one = step_of c.in_ok-step.step in
    let pushed = went-well c.push.result (sym c.is_err.ensures.value ∙ c.if-is_err.false) c.push.ensures.ok in
    let more : map step_of c.push.new.self ≡ before ++ one ∷ [] = ap (map step_of) pushed ∙ map-append step_of c.steps.steps (c.in_ok-step.step ∷ []) in
    let last = ap begins_step (sym c.behind_spaces-rest.ensures.text) ∙ sym c.begins_step.ensures ∙ c.if-not-begins_step.true in
    ends step_at begins_step right_there before c.steps.rest.now (steps_at c.args.text.now) one c.in_ok-step.behind.now c.steps.invariant.on c.in_ok-step.ensures.reads last
    ∙ ap (λ (all : List steps.Step). Reads all (behind_spaces c.in_ok-step.behind.now)) (sym more)
    ∙ ap (λ (rest : List _). Reads (map step_of c.push.new.self) rest) (sym c.behind_spaces-rest.ensures.text)

pub steps-preserved : goal.steps-preserved
steps-preserved c =
    let before = map step_of c.steps.steps in
    let one = step_of c.in_ok-step.step in
    let whole = steps_at c.args.text.now in
    let pushed = went-well c.push.result (sym c.is_err.ensures.value ∙ c.if-is_err.false) c.push.ensures.ok in
    let more : map step_of c.push.new.self ≡ before ++ one ∷ [] = ap (map step_of) pushed ∙ map-append step_of c.steps.steps (c.in_ok-step.step ∷ []) in
    let on_it_goes = ap begins_step (sym c.behind_spaces-rest.ensures.text) ∙ sym c.begins_step.ensures ∙ c.if-not-begins_step.false in
    let behind = c.behind_spaces-rest.ensures.text in
    record {
      on = subst (λ (front : List steps.Step). ReadsOn step_at begins_step right_there front c.behind_spaces-rest.result.now whole) (sym more)
          (subst (λ (rest : List _). ReadsOn step_at begins_step right_there (before ++ one ∷ []) rest whole) (sym behind)
          (goes-further step_at begins_step right_there before c.steps.rest.now whole one c.in_ok-step.behind.now c.steps.invariant.on c.in_ok-step.ensures.reads (omega (arith, ap length behind, c.behind_spaces-rest.ensures.shorter, c.in_ok-step.ensures.shorter)) on_it_goes));
      shorter = omega (arith, c.steps.invariant.shorter, c.behind_spaces-rest.ensures.shorter, c.in_ok-step.ensures.shorter);
    }
