use Rattle.std.proofs.Common.{◌≡◌, IfErr, OnOk, sym, ap, subst, ◌∙◌, arith}
use Rattle.meaning_derivation.specs.Values.{parts_of}
use Rattle.meaning_derivation.specs.State.{State, ActionOutcome, Goes}
use Rattle.meaning_derivation.specs.Actions.{below}
use Rattle.parse_state.specs.Seen.{state_of}
use Rattle.parse_state.specs.Steps.{IsToldBy}
use Rattle.c_decl.proofs.Listing.{none_in_parentheses, some_in_parentheses}
use Rattle.c_decl.proofs.attributes.make_parenthesized_attributes.Goals as goal

pub returns-then-part_count-gt0-clause-goes : goal.returns-then-part_count-gt0-clause-goes
returns-then-part_count-gt0-clause-goes c =
    let s : State = state_of c.args.state.now in
    subst (λ (outcome : ActionOutcome). OnOk c.make_listed.result (outcome ≡ Goes (state_of c.make_listed.new.state)))
    (sym (some_in_parentheses s (below s 1) (parts_of (below s 0)) (λ none. absurd (omega (arith, none, c.part_count.ensures, c.if-part_count-gt0.true))))) c.make_listed.ensures.goes

pub returns-then-part_count-gt0-clause-told : goal.returns-then-part_count-gt0-clause-told
returns-then-part_count-gt0-clause-told c =
    let s : State = state_of c.args.state.now in
    subst (λ (outcome : ActionOutcome). IfErr c.make_listed.result (IsToldBy outcome))
    (sym (some_in_parentheses s (below s 1) (parts_of (below s 0)) (λ none. absurd (omega (arith, none, c.part_count.ensures, c.if-part_count-gt0.true))))) c.make_listed.ensures.told

pub returns-clause-goes : goal.returns-clause-goes
returns-clause-goes c =
    let s : State = state_of c.args.state.now in
    none_in_parentheses s (below s 1) (parts_of (below s 0)) (omega (arith, c.part_count.ensures, c.if-part_count-gt0.false)) ∙ ap Goes (sym c.in_ok-collect.ensures.list)
