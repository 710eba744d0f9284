-- What the class of the next terminal says of taking it.
use Rattle.std.proofs.Common.{◌≡◌, true, drop, rules, sym, ap, ◌∙◌}
use Rattle.meaning_grammar.specs.Items.{takes}
use Rattle.meaning_derivation.specs.State.{Done}
use Rattle.meaning_derivation.specs.Taking.{advanced, take_one}
use Rattle.parse_state.specs.Seen.{state_of}
use Rattle.c_parse.specs.Telling.{IsTold}
use Rattle.c_parse.proofs.Told.{passed_on}
use Rattle.c_parse.proofs.Noted.{nothing_left, taken_goes, noted_told}
use Rattle.c_parse.proofs.taking.take.Goals as goal

pub returns-in_err-check_noted-clause-told : goal.returns-in_err-check_noted-clause-told
returns-in_err-check_noted-clause-told c =
    let yes : takes c.args.item c.args.look ≡ true = search rules in
    passed_on (IsTold (λ outcome. take_one c.args.item (state_of c.args.state.now) c.args.terminals.now.terminals ≡ outcome)) _ c.from_residual.result c.from_residual.ensures.1
    (noted_told c.args.item (state_of c.args.state.now) c.args.terminals.now.terminals c.args.look _ c.requires.look yes
    (c.in_err-check_noted.ensures.err (advanced c.args.item (state_of c.args.state.now) c.args.terminals.now.terminals)))

pub returns-in-None-clause-goes : goal.returns-in-None-clause-goes
returns-in-None-clause-goes c =
    let yes : takes c.args.item c.args.look ≡ true = search rules in
    let none = nothing_left c.args.terminals.now.terminals c.in-None.ensures.terminal in
    taken_goes c.args.item (state_of c.args.state.now) c.args.terminals.now.terminals c.args.look (Done (state_of c.args.state.now) c.args.terminals.now.terminals)
    c.requires.look yes (c.in_ok-check_noted.ensures.ok (advanced c.args.item (state_of c.args.state.now) c.args.terminals.now.terminals))
    (ap (advanced c.args.item (state_of c.args.state.now)) none ∙ ap (Done (state_of c.args.state.now)) (sym none))

pub returns-in-None-clause-left : goal.returns-in-None-clause-left
returns-in-None-clause-left c =
    let none = nothing_left c.args.terminals.now.terminals c.in-None.ensures.terminal in
    none ∙ ap (drop 1) (sym none)
