-- What comes of the items comes of the tokens.
use Rattle.std.proofs.Common.{[], ◌∙◌}
use Rattle.meaning_derivation.specs.State.{Done}
use Rattle.meaning_derivation.proofs.Existence.{only_tree}
use Rattle.parse_state.specs.Seen.{state_of}
use Rattle.c_tokens.specs.Seen.{toks_of}
use Rattle.c_parse.specs.Answers.{IsFaultOf}
use Rattle.c_parse.proofs.Told.{passed_on}
use Rattle.c_parse.proofs.Running.{begins_first, told_on, told_of_unit, tree_of_unit}
use Rattle.c_parse.proofs.Finishing.{is_unit, is_formed}
use Rattle.c_parse.proofs.parsing.parse.Goals as goal

pub returns-in_err-run-clause-fault : goal.returns-in_err-run-clause-fault
returns-in_err-run-clause-fault c =
    let first = begins_first (toks_of c.args.names.now c.args.tokens.now) c.in_ok-parser.parser.pending (state_of c.in_ok-parser.parser.state) c.in_ok-parser.parser.terminals.terminals
    c.in_ok-parser.ensures.items c.in_ok-parser.ensures.state c.in_ok-parser.ensures.terminals in
    passed_on (IsFaultOf (toks_of c.args.names.now c.args.tokens.now)) _ c.from_residual-in_err-run.result c.from_residual-in_err-run.ensures.1
    (told_of_unit (toks_of c.args.names.now c.args.tokens.now) _ _ first c.in_err-run.ensures.told)

pub returns-in_err-end-clause-fault : goal.returns-in_err-end-clause-fault
returns-in_err-end-clause-fault c =
    let first = begins_first (toks_of c.args.names.now c.args.tokens.now) c.in_ok-parser.parser.pending (state_of c.in_ok-parser.parser.state) c.in_ok-parser.parser.terminals.terminals
    c.in_ok-parser.ensures.items c.in_ok-parser.ensures.state c.in_ok-parser.ensures.terminals in
    passed_on (IsFaultOf (toks_of c.args.names.now c.args.tokens.now)) _ c.from_residual-in_err-end.result c.from_residual-in_err-end.ensures.1
    (told_of_unit (toks_of c.args.names.now c.args.tokens.now) _ _ first (told_on _ _ _ c.in_ok-run.ensures.leads c.in_err-end.ensures.told))

pub returns-clause-tree : goal.returns-clause-tree
returns-clause-tree c =
    let tokens = toks_of c.args.names.now c.args.tokens.now in
    let first = begins_first tokens c.in_ok-parser.parser.pending (state_of c.in_ok-parser.parser.state) c.in_ok-parser.parser.terminals.terminals
    c.in_ok-parser.ensures.items c.in_ok-parser.ensures.state c.in_ok-parser.ensures.terminals in
    let last = state_of c.end.new.parser.state in
    let found = only_tree last.values c.in_ok-end.ensures.sorted in
    is_unit tokens c.end.new.parser.state.names c.args.names.now c.into_unit.result last.values found.0
    (c.in_ok-end.ensures.names ∙ c.in_ok-run.ensures.names ∙ c.in_ok-parser.ensures.names)
    c.into_unit.ensures.tree found.1
    (tree_of_unit tokens _ last found.0 first (c.in_ok-run.ensures.leads (Done last []) c.in_ok-end.ensures.done) found.1)

pub returns-clause-formed : goal.returns-clause-formed
returns-clause-formed c = is_formed (toks_of c.args.names.now c.args.tokens.now) c.args.names.now c.into_unit.result (returns-clause-tree c)
