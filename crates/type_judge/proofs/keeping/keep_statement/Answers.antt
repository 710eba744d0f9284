-- What is known stays, and the node is kept.
use Rattle.std.proofs.lemmas.Result.{IfOk-weaker}
use Rattle.decl_judge.specs.Units.{nodes_of}
use Rattle.node_judge.proofs.KnownLemmas.{known_count}
use Rattle.node_surroundings.specs.Seen.{surroundings_seen}
use Rattle.type_judge.proofs.KeepingLemmas.{kept_with, known_with}
use Rattle.type_judge.proofs.keeping.keep_statement.Goals as goal

pub add-requires-clause-ids : goal.add-requires-clause-ids
add-requires-clause-ids c = c.requires.known.kept.whole.ids

pub add-requires-clause-next : goal.add-requires-clause-next
add-requires-clause-next c =
    known_count (nodes_of c.args.unit.now) (surroundings_seen c.args.surroundings.now) c.args.handle c.args.known.now c.requires.known

pub add-requires-clause-kept : goal.add-requires-clause-kept
add-requires-clause-kept c = c.requires.kept

pub returns-clause-known : goal.returns-clause-known
returns-clause-known c =
    IfOk-weaker c.add.result _ _
    (λ _ join.
    known_with (nodes_of c.args.unit.now) (surroundings_seen c.args.surroundings.now) c.args.handle c.args.known.now c.requires.known c.add.new.types join)
    c.add.ensures.types

pub returns-clause-kept : goal.returns-clause-kept
returns-clause-kept c =
    kept_with (nodes_of c.args.unit.now) (surroundings_seen c.args.surroundings.now) c.args.handle c.args.known.now c.requires.known c.add.new.types
    c.add.result _ c.add.new.self c.add.ensures.types c.add.ensures.kept
