-- An array takes no value, whatever its length.
use Rattle.std.proofs.Common.{◌∙◌}
use Rattle.c_types.specs.Table.{type_at}
use Rattle.expression_rows.specs.Facts.{valued_part}
use Rattle.leaf_rows.proofs.ConversionLemmas.{bounded_told}
use Rattle.leaf_rows.proofs.leaf.judge_leaf.Goals as goal

pub returns-clause-row : goal.returns-clause-row
returns-clause-row c = λ is_member.
    let table = c.args.types.now in
    c.judge_type.ensures.row ∙ bounded_told c.args.is_static is_member (type_at table c.args.to) c.args.token (valued_part table c.args.part)
