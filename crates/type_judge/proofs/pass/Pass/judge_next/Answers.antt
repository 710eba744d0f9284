-- The row of the node is that of one more node, which is kept.
use Rattle.std.proofs.Common.{◌<◌, length, arith}
use Rattle.decl_judge.specs.Units.{nodes_of}
use Rattle.expr_judge.proofs.NodeLemmas.{end-nodes}
use Rattle.node_surroundings.specs.Seen.{surroundings_seen}
use Rattle.type_judge.specs.declared.pass.Pass.{Pass}
use Rattle.type_judge.proofs.PassLemmas.{kept_before, kept_between, known_before, known_between, pass_more}
use Rattle.type_judge.proofs.pass.Pass.judge_next.Goals as goal

pub judge_row-requires-clause-known : goal.judge_row-requires-clause-known
judge_row-requires-clause-known c =
    known_before (nodes_of c.args.unit.now) (surroundings_seen c.args.surroundings.now) c.args.handle c.args.self.now c.requires.before

pub judge_row-requires-clause-kept : goal.judge_row-requires-clause-kept
judge_row-requires-clause-kept c =
    kept_before (nodes_of c.args.unit.now) (surroundings_seen c.args.surroundings.now) c.args.handle c.args.self.now c.requires.before

pub keep-requires-clause-known : goal.keep-requires-clause-known
keep-requires-clause-known c =
    known_between (nodes_of c.args.unit.now) (surroundings_seen c.args.surroundings.now) c.args.handle c.args.self.now c.requires.before
    c.judge_row.new.known c.in_ok-row.ensures.keeps

pub keep-requires-clause-kept : goal.keep-requires-clause-kept
keep-requires-clause-kept c =
    kept_between (nodes_of c.args.unit.now) (surroundings_seen c.args.surroundings.now) c.args.handle c.args.self.now c.requires.before
    c.judge_row.new.known c.in_ok-row.ensures.keeps

pub keep-requires-clause-ids : goal.keep-requires-clause-ids
keep-requires-clause-ids c = c.in_ok-row.ensures.says.2.ids

pub returns : goal.returns
returns c =
    let unit = c.args.unit.now in
    let nodes = nodes_of unit in
    let handle = c.args.handle in
    let kept = c.in_ok-keep.ensures in
    let after : Pass =
    record {
      known = c.keep.new.known;
      statements = c.keep.new.statements;
      found = c.judge_row.new.found;
      broken = c.lesser-self.result;
      passed = c.lowest-self.result;
    } in
    let within : handle < length nodes = omega (arith, c.requires.node, end-nodes unit c.requires.whole) in
    pass_more nodes (surroundings_seen c.args.surroundings.now) handle c.args.self.now c.requires.before c.judge_row.new.known c.in_ok-row.ensures.keeps after
    c.in_ok-row.row c.in_ok-row.ensures.says within kept.known kept.kept kept.types c.lesser-self.ensures c.lowest-self.ensures
