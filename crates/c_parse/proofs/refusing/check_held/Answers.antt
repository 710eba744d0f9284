-- What is held is told.
use Rattle.std.proofs.Common.{option_map, sym, ap, ◌∙◌}
use Rattle.parse_state.specs.Seen.{held_of}
use Rattle.c_parse.proofs.Noted.{held_told}
use Rattle.c_parse.proofs.refusing.check_held.Goals as goal

pub returns-in-Some-clause-err : goal.returns-in-Some-clause-err
returns-in-Some-clause-err c = λ otherwise.
    (c.args.state.now.taken, held_told _ c.in-Some.held c.args.state.now.taken otherwise (sym (ap (option_map held_of) c.in-Some.is) ∙ c.held.ensures))
