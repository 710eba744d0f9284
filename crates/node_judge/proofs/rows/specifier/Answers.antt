-- Rows of specifiers: what is known stays.
use Rattle.decl_judge.specs.Units.{nodes_of}
use Rattle.member_rows.specs.Aggregates.{aggregates_in}
use Rattle.member_rows.proofs.AggregateLemmas.{told_is}
use Rattle.node_surroundings.specs.Seen.{surroundings_seen}
use Rattle.node_judge.specs.Known.{table_of}
use Rattle.node_judge.proofs.KnownLemmas.{known_before}
use Rattle.node_judge.proofs.RowLemmas.{keeps_types}
use Rattle.node_judge.proofs.rows.specifier.Goals as goal

pub judge_specifier-requires-clause-tags : goal.judge_specifier-requires-clause-tags
judge_specifier-requires-clause-tags c = c.requires.known.gathered.tags

pub judge_specifier-requires-clause-known : goal.judge_specifier-requires-clause-known
judge_specifier-requires-clause-known c =
    known_before (nodes_of c.args.unit.now) (surroundings_seen c.args.surroundings.now) c.args.handle c.args.known.now c.requires.known

pub returns-clause-says : goal.returns-clause-says
returns-clause-says c =
    let table = table_of c.args.known.now in
    c.judge_specifier.ensures (aggregates_in table) (told_is table)

pub returns-clause-keeps : goal.returns-clause-keeps
returns-clause-keeps c =
    let known = c.args.known.now in
    let table = table_of known in
    keeps_types (nodes_of c.args.unit.now) (surroundings_seen c.args.surroundings.now) c.args.handle known c.judge_specifier.new.types c.judge_specifier.result
    c.args.found.now c.judge_specifier.new.found _ c.requires.known (c.judge_specifier.ensures (aggregates_in table) (told_is table))
