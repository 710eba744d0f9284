use Rattle.std.proofs.Common.{sym, subst}
use Rattle.meaning_typing.specs.Tags.{specifiers_row}
use Rattle.decl_judge.specs.Units.{nodes_of}
use Rattle.expr_judge.specs.declared.row.NodeRow.{NodeRow}
use Rattle.expr_judge.specs.Rows.{SaysOnly}
use Rattle.node_facts.specs.Facts.{nodes_seen}
use Rattle.specifier_judge.proofs.RowLemmas.{says_tag}
use Rattle.specifier_judge.proofs.specifiers.specifiers.Goals as goal

pub returns-clause-says : goal.returns-clause-says
returns-clause-says c =
    let new = c.specifiers_row.new.types in
    let meant = specifiers_row (nodes_of c.args.unit.now) (nodes_seen c.args.types.now c.args.facts.now) c.args.handle in
    subst (λ (row : NodeRow). SaysOnly new row meant) (sym c.take_tag.ensures)
    (says_tag new c.in_ok-row.row meant c.in_ok-row.ensures.says c.in_ok-row.ensures.known)
