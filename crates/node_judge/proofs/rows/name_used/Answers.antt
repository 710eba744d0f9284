-- Names: what is known stays.
use Rattle.std.proofs.Common.{arith}
use Rattle.decl_judge.specs.Units.{nodes_of}
use Rattle.declaration_judge.proofs.LinkedLemmas.{are_linked}
use Rattle.node_surroundings.specs.Seen.{surroundings_seen}
use Rattle.node_judge.proofs.KnownLemmas.{enumerations_kept, known_count}
use Rattle.node_judge.proofs.RowLemmas.{keeps_types}
use Rattle.node_judge.proofs.rows.name_used.Goals as goal

pub name-requires-clause-ids : goal.name-requires-clause-ids
name-requires-clause-ids c = c.requires.known.kept.whole.ids

pub name-requires-clause-few : goal.name-requires-clause-few
name-requires-clause-few c =
    omega (
      arith,
      c.ranges.handle,
      known_count (nodes_of c.args.unit.now) (surroundings_seen c.args.surroundings.now) c.args.handle c.args.known.now c.requires.known,
    )

pub name-requires-clause-over : goal.name-requires-clause-over
name-requires-clause-over c = c.requires.known.kept.whole.over

pub name-requires-clause-linked : goal.name-requires-clause-linked
name-requires-clause-linked c = are_linked c.args.known.now.declarations c.requires.known.kept.whole

pub name-requires-clause-kept : goal.name-requires-clause-kept
name-requires-clause-kept c =
    enumerations_kept (nodes_of c.args.unit.now) (surroundings_seen c.args.surroundings.now) c.args.handle c.args.known.now c.requires.known

pub returns-clause-keeps : goal.returns-clause-keeps
returns-clause-keeps c =
    keeps_types (nodes_of c.args.unit.now) (surroundings_seen c.args.surroundings.now) c.args.handle c.args.known.now c.name.new.types c.name.result
    c.args.found.now c.name.new.found _ c.requires.known c.name.ensures
