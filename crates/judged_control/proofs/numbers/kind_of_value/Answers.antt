use Rattle.std.proofs.Common.{ap, ◌∙◌}
use Rattle.meaning_constants.specs.Constants.{Part, kind_of}
use Rattle.meaning_constants.specs.Nodes.{loaded_type}
use Rattle.c_types.specs.Table.{type_at}
use Rattle.const_fold.proofs.OutlineLemmas.{kind_of-outlined}
use Rattle.node_facts.specs.Facts.{fact_seen}
use Rattle.judged_control.proofs.NumberLemmas.{kind_told}
use Rattle.judged_control.proofs.numbers.kind_of_value.Goals as goal

pub returns : goal.returns
returns c =
    let table = c.args.types.now in
    let node = c.args.expression.node in
    c.kind.ensures
    ∙ ap (λ (part : Part). kind_of part.of) c.part_of.ensures
    ∙ kind_of-outlined (loaded_type node.value.width (type_at table node.of))
    ∙ kind_told (fact_seen table c.args.expression)
