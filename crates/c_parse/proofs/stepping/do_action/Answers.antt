-- What waits gives an action what it takes, and what it comes to comes of the whole.
use Rattle.std.proofs.Common.{[], ◌∷◌, refl, sym, subst}
use Rattle.vocabulary.specs.declared.production_item.ProductionItem.TheVariants.{Do}
use Rattle.meaning_grammar.specs.Sorts.{ATree}
use Rattle.meaning_derivation.specs.Values.{sorts_of}
use Rattle.meaning_derivation.specs.Actions.{act}
use Rattle.meaning_derivation.specs.Leading.{ComesTo}
use Rattle.parse_state.specs.Seen.{state_of}
use Rattle.c_parse.specs.Moments.{standing_with}
use Rattle.c_parse.specs.Telling.{IsTold}
use Rattle.c_parse.proofs.Expanded.{action_told}
use Rattle.c_parse.proofs.Moving.{act_moves}
use Rattle.meaning_derivation.proofs.Finding.{action_fits}
use Rattle.c_parse.proofs.stepping.do_action.Goals as goal

pub act-requires : goal.act-requires
act-requires c =
    record { finds = action_fits c.args.action c.args.parser.now.pending (sorts_of (state_of c.args.parser.now.state).values) (ATree ∷ []) c.requires.sorted }

pub returns-in-Ok-clause-moves : goal.returns-in-Ok-clause-moves
returns-in-Ok-clause-moves c = act_moves c.args.action c.args.parser.now _ c.requires c.in-Ok.ensures.goes refl c.act.ensures.names c.looks_after-parser.ensures

pub returns-in-Err-clause-told : goal.returns-in-Err-clause-told
returns-in-Err-clause-told c =
    subst (λ fault. IsTold (ComesTo act (standing_with (Do c.args.action ∷ c.args.parser.now.pending) c.args.parser.now)) fault) (sym c.fault_of_action.ensures)
    (action_told c.args.action c.args.parser.now.pending (state_of c.args.parser.now.state) c.args.parser.now.terminals.terminals c.in-Err.fault c.in-Err.ensures.told)
