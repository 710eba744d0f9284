use Rattle.c_preproc.proofs.StateLemmas.{Holds-later}
use Rattle.c_preproc.proofs.TextLemmas.{expansion-made, expansion-stops}
use Rattle.c_preproc.proofs.state.State.expanded.Goals as goal

pub expand-requires-clause-sum : goal.expand-requires-clause-sum
expand-requires-clause-sum c = c.requires.held.2.sum

pub expand-requires-clause-table : goal.expand-requires-clause-table
expand-requires-clause-table c = c.requires.held.2.knows

pub returns-in-Err-clause-stops : goal.returns-in-Err-clause-stops
returns-in-Err-clause-stops c = λ path s holds. expansion-stops c.args.names.now c.apart.ensures.apart path c.args.self.now s holds c.args.tokens.now c.in-Err.fault c.in-Err.ensures.fault

pub returns-in-Err-clause-still : goal.returns-in-Err-clause-still
returns-in-Err-clause-still c = λ path s holds. Holds-later c.args.names.now c.expand.new.names c.expand.ensures.keeps c.apart-in-Err.ensures.apart path c.args.self.now s holds

pub returns-then-leaves_room-clause-done : goal.returns-then-leaves_room-clause-done
returns-then-leaves_room-clause-done c = λ path s holds.
    expansion-made c.args.names.now c.apart.ensures.apart path c.args.self.now s holds c.args.tokens.now c.expand.new.names c.expand.ensures.keeps c.apart-in-Ok.ensures.apart c.in-Ok.made.items c.expand.new.budget
    (c.leaves_room.ensures c.if-leaves_room.true) c.in-Ok.ensures.tokens c.in-Ok.ensures.budget

pub returns-else-leaves_room-clause-still : goal.returns-else-leaves_room-clause-still
returns-else-leaves_room-clause-still c = λ path s holds. Holds-later c.args.names.now c.expand.new.names c.expand.ensures.keeps c.apart-in-Ok.ensures.apart path c.args.self.now s holds
