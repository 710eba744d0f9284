use Rattle.std.proofs.Common.{sym, ap, ◌∙◌}
use Rattle.meaning_layout.specs.Sizes.{Told}
use Rattle.meaning_typing.specs.Names.{declared_behind, name_row}
use Rattle.meaning_typing.specs.Surroundings.{surrounding_at}
use Rattle.meaning_typing.specs.Units.{node_at}
use Rattle.meaning_typing.specs.Wholes.{row_loaded}
use Rattle.expression_rows.specs.Rows.{told}
use Rattle.node_facts.proofs.GrowthLemmas.{joins_none}
use Rattle.expr_judge.proofs.OperatorLemmas.{operator_taken}
use Rattle.member_rows.specs.Aggregates.{aggregates_in}
use Rattle.member_rows.proofs.AggregateLemmas.{told_is}
use Rattle.whole_judge.proofs.NameLemmas.{declared_named}
use Rattle.whole_judge.proofs.names.row_of_declared_name.Goals as goal

pub judge_loaded-row-requires : goal.judge_loaded-row-requires
judge_loaded-row-requires c = c.judge_name.ensures.known c.args.types.now c.requires

pub returns : goal.returns
returns c nodes surroundings facts handle is =
    let types = c.args.types.now in
    let declaration = declared_behind nodes surroundings facts (node_at nodes handle).number in
    let meant = name_row facts declaration in
    let want = (surrounding_at surroundings handle).want in
    let row = c.judge_loaded-row in
    operator_taken types types types (joins_none types) (joins_none types) c.args.found.now c.take_row.new.found row.result row.ensures.known c.take_row.result
    c.take_row.ensures.row c.take_row.ensures.failures _ _
    (row.ensures.row want meant is.at.want (c.judge_name.ensures.row types facts declaration is.stands_for))
    ((λ i. row_loaded (sym (told_is types) i) (sym is.at.stands i) want meant)
    ∙ declared_named (aggregates_in types) nodes surroundings facts handle is.at.kind is.declares)
