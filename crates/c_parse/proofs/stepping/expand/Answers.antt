-- Where no row is chosen nothing goes on.
use Rattle.std.proofs.Common.{None}
use Rattle.parse_state.specs.Seen.{state_of}
use Rattle.c_parse.proofs.Expanded.{chosen_there, symbol_told}
use Rattle.c_parse.proofs.stepping.expand.Goals as goal

pub returns-in-None-clause-told : goal.returns-in-None-clause-told
returns-in-None-clause-told c =
    symbol_told c.args.symbol c.args.parser.now.pending (state_of c.args.parser.now.state) c.args.parser.now.terminals.terminals c.refusal.result
    (chosen_there c.args.symbol (state_of c.args.parser.now.state) c.args.parser.now.terminals.terminals c.known_looks-looks.result None c.known_looks-looks.ensures c.in-None.ensures.none)
    c.refusal.ensures
