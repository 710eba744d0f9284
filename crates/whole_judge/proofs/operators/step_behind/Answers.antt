use Rattle.std.proofs.Common.{◌∙◌}
use Rattle.meaning_typing.specs.Typing.{part_fact, part_token, token_at}
use Rattle.meaning_typing.specs.Wholes.{whole_step_behind_row}
use Rattle.decl_judge.specs.Units.{nodes_of}
use Rattle.node_facts.specs.Facts.{nodes_seen}
use Rattle.expr_judge.proofs.OperatorLemmas.{operator_taken}
use Rattle.member_rows.specs.Aggregates.{aggregates_in}
use Rattle.member_rows.proofs.AggregateLemmas.{aggregates_stay}
use Rattle.whole_rows.proofs.ConstLemmas.{const_aggregates_stay}
use Rattle.whole_judge.proofs.PlaceLemmas.{whole_step_behind_only}
use Rattle.whole_judge.proofs.operators.step_behind.Goals as goal

pub judge_whole_step_behind-requires-clause-consts : goal.judge_whole_step_behind-requires-clause-consts
judge_whole_step_behind-requires-clause-consts c =
    const_aggregates_stay c.args.types.now c.operand_of.new.types c.args.consts.now c.in_ok-one.ensures.keeps c.requires.bodies c.requires.consts

pub returns : goal.returns
returns c =
    let nodes = nodes_of c.args.unit.now in
    let old = c.args.types.now in
    let between = c.operand_of.new.types in
    let facts = nodes_seen old c.args.facts.now in
    let handle = c.args.handle in
    let is = c.in_ok-one.ensures.operand in
    let join = c.in_ok-one.ensures.keeps in
    let aggregates = aggregates_stay old between join c.requires.bodies in
    let token = token_at nodes handle in
    let standing = part_token nodes handle 0 in
    let fact = part_fact nodes facts handle 0 in
    operator_taken old between c.judge_whole_step_behind.new.types join c.in_ok-row.ensures.keeps c.args.found.now c.take_row.new.found c.in_ok-row.row
    c.in_ok-row.ensures.known c.take_row.result c.take_row.ensures.row c.take_row.ensures.failures _
    (whole_step_behind_row (aggregates_in old) c.args.op token standing fact) c.in_ok-row.ensures.row
    ((λ i. whole_step_behind_row (aggregates i) c.args.op (is.token i) (is.standing i) (is.seen i))
    ∙ whole_step_behind_only (aggregates_in old) c.args.op token standing fact)
