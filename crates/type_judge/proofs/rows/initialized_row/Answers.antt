-- The row of the node over what is known: what is known stays.
use Rattle.std.proofs.Common.{subst}
use Rattle.std.proofs.lemmas.Result.{IfOk-weaker}
use Rattle.meaning_initialized.specs.Rows.{IsInitializingRow}
use Rattle.meaning_layout.specs.Sizes.{Told}
use Rattle.decl_judge.specs.Units.{nodes_of}
use Rattle.node_judge.specs.Known.{facts_seen}
use Rattle.node_judge.proofs.RowLemmas.{keeps_kept}
use Rattle.node_surroundings.specs.Seen.{surroundings_seen}
use Rattle.type_judge.proofs.AggregateLemmas.{known_aggregates, told_before}
use Rattle.type_judge.proofs.rows.initialized_row.Goals as goal

pub judge_initialized-requires-clause-kept : goal.judge_initialized-requires-clause-kept
judge_initialized-requires-clause-kept c = c.requires.known.kept

pub judge_initialized-requires-clause-aggregates : goal.judge_initialized-requires-clause-aggregates
judge_initialized-requires-clause-aggregates c =
    known_aggregates (nodes_of c.args.unit.now) (surroundings_seen c.args.surroundings.now) c.args.handle c.args.known.now c.requires.known
    c.tables_know_aggregates.ensures

pub returns-clause-says : goal.returns-clause-says
returns-clause-says c =
    let nodes = nodes_of c.args.unit.now in
    let surroundings = surroundings_seen c.args.surroundings.now in
    let known = c.args.known.now in
    IfOk-weaker c.judge_initialized.result _ _
    (λ row tells. (
      tells.0,
      subst (λ (told : Told). IsInitializingRow told nodes surroundings (facts_seen known) c.args.handle tells.0)
          (told_before nodes surroundings c.args.handle known c.requires.known) tells.1,
      tells.2,
    ))
    c.judge_initialized.ensures.says

pub returns-clause-keeps : goal.returns-clause-keeps
returns-clause-keeps c =
    keeps_kept (nodes_of c.args.unit.now) (surroundings_seen c.args.surroundings.now) c.args.handle c.args.known.now c.judge_initialized.new.kept
    c.judge_initialized.result c.requires.known c.judge_initialized.ensures.keeps
