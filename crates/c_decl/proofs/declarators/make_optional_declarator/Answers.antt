use Rattle.std.proofs.Common.{◌≡◌, IfErr, OnOk, sym, ap, subst, ◌∙◌}
use Rattle.meaning_derivation.specs.State.{State, ActionOutcome, Goes}
use Rattle.meaning_derivation.specs.Actions.{below}
use Rattle.parse_state.specs.Seen.{state_of}
use Rattle.parse_state.specs.Steps.{IsToldBy}
use Rattle.c_decl.proofs.Listing.{nothing_declared, something_declared}
use Rattle.c_decl.proofs.declarators.make_optional_declarator.Goals as goal

pub returns-then-is_declared-clause-goes : goal.returns-then-is_declared-clause-goes
returns-then-is_declared-clause-goes c =
    let s : State = state_of c.args.state.now in
    subst (λ (outcome : ActionOutcome). OnOk c.make_listed.result (outcome ≡ Goes (state_of c.make_listed.new.state)))
    (sym (something_declared s (below s 1) (below s 0) (sym c.is_declared.ensures ∙ c.if-is_declared.true))) c.make_listed.ensures.goes

pub returns-then-is_declared-clause-told : goal.returns-then-is_declared-clause-told
returns-then-is_declared-clause-told c =
    let s : State = state_of c.args.state.now in
    subst (λ (outcome : ActionOutcome). IfErr c.make_listed.result (IsToldBy outcome))
    (sym (something_declared s (below s 1) (below s 0) (sym c.is_declared.ensures ∙ c.if-is_declared.true))) c.make_listed.ensures.told

pub returns-clause-goes : goal.returns-clause-goes
returns-clause-goes c =
    let s : State = state_of c.args.state.now in
    nothing_declared s (below s 1) (below s 0) (sym c.is_declared.ensures ∙ c.if-is_declared.false) ∙ ap Goes (sym c.in_ok-collect.ensures.list)
