-- What comes of a terminal that is taken, or isn't, comes of the whole.
use Rattle.std.proofs.Common.{◌≡◌, ◌∷◌}
use Rattle.meaning_derivation.specs.Actions.{act}
use Rattle.meaning_derivation.specs.Leading.{ComesTo}
use Rattle.meaning_derivation.specs.Taking.{take_one}
use Rattle.meaning_derivation.proofs.Stepping.{terminal_fails}
use Rattle.parse_state.specs.Seen.{state_of}
use Rattle.c_parse.specs.Moments.{standing_with}
use Rattle.c_parse.specs.Steps.{before_end}
use Rattle.c_parse.specs.Telling.{IsTold}
use Rattle.c_parse.proofs.Moving.{take_moves}
use Rattle.c_parse.proofs.Told.{told_so, passed_on}
use Rattle.c_parse.proofs.stepping.take_item.Goals as goal

pub returns-in_err-take-clause-told : goal.returns-in_err-take-clause-told
returns-in_err-take-clause-told c =
    passed_on (IsTold (ComesTo act (standing_with (c.args.item ∷ c.args.parser.now.pending) c.args.parser.now))) _ c.from_residual.result c.from_residual.ensures.1
    (told_so (λ outcome. take_one c.args.item (state_of c.args.parser.now.state) c.args.parser.now.terminals.terminals ≡ outcome)
    (ComesTo act (standing_with (c.args.item ∷ c.args.parser.now.pending) c.args.parser.now)) _
    (λ why decided stands is.
    terminal_fails act c.args.item (before_end c.args.parser.now.pending) (state_of c.args.parser.now.state) c.args.parser.now.terminals.terminals why decided stands c.requires.terminal is)
    c.in_err-take.ensures.told)

pub returns-clause-moves : goal.returns-clause-moves
returns-clause-moves c =
    take_moves c.args.item c.args.parser.now _ c.requires.terminal c.requires.ready c.in_ok-take.ensures.goes c.in_ok-take.ensures.left c.take.ensures.names c.take.ensures.left_names tt
