-- What comes of the items that wait comes of all.
use Rattle.std.proofs.Common.{◌≡◌, List, [], rules, subst, ◌∙◌}
use Rattle.vocabulary.specs.declared.production_item.ProductionItem.{ProductionItem}
use Rattle.meaning_derivation.specs.Actions.{act}
use Rattle.meaning_derivation.specs.Leading.{ComesTo, LeadsTo}
use Rattle.parse_state.specs.Seen.{state_of}
use Rattle.c_parse.specs.Moments.{standing_with}
use Rattle.c_parse.specs.Steps.{standing}
use Rattle.c_parse.specs.Telling.{IsTold}
use Rattle.c_parse.proofs.Told.{passed_on}
use Rattle.c_parse.proofs.Running.{told_on, leads_over}
use Rattle.c_parse.proofs.parsing.run.Goals as goal

pub loop-item-preserved : goal.loop-item-preserved
loop-item-preserved c =
    let here = subst
    (λ (items : List ProductionItem). LeadsTo act (standing_with c.args.parser.now.pending c.args.parser.now) (standing items (state_of c.loop-item.parser.state) c.loop-item.parser.terminals.terminals))
    c.in-Some.ensures.some c.loop-item.invariant.leads in
    let moves = c.in_ok-step.ensures.moves in
    record {
      leads = leads_over _ _ _ here moves.leads;
      ready = moves.ready;
      names = moves.names ∙ c.loop-item.invariant.names;
    }

pub returns-in_err-step-clause-told : goal.returns-in_err-step-clause-told
returns-in_err-step-clause-told c =
    let here = subst
    (λ (items : List ProductionItem). LeadsTo act (standing_with c.args.parser.now.pending c.args.parser.now) (standing items (state_of c.loop-item.parser.state) c.loop-item.parser.terminals.terminals))
    c.in-Some.ensures.some c.loop-item.invariant.leads in
    passed_on (IsTold (ComesTo act (standing_with c.args.parser.now.pending c.args.parser.now))) _ c.from_residual.result c.from_residual.ensures.1
    (told_on _ _ _ here c.in_err-step.ensures.told)

pub returns-clause-leads : goal.returns-clause-leads
returns-clause-leads c =
    let none : c.loop-item.parser.pending ≡ [] = search rules in
    subst
    (λ (items : List ProductionItem). LeadsTo act (standing_with c.args.parser.now.pending c.args.parser.now) (standing items (state_of c.loop-item.parser.state) c.loop-item.parser.terminals.terminals))
    none c.loop-item.invariant.leads
