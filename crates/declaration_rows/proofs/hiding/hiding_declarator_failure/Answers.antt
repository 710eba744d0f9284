use Rattle.std.proofs.Common.{◌&&◌, IfSome, not, sym, ap, subst, ◌∙◌}
use Rattle.meaning_typing.specs.DeclarationRows as meaning
use Rattle.meaning_typing.specs.Units.{kind_at}
use Rattle.decl_judge.specs.Units.{nodes_of}
use Rattle.expression_rows.specs.Rows.{IsKnownFailure, failure_listed}
use Rattle.node_facts.specs.Facts.{declared_seen, name_seen, nodes_seen}
use Rattle.node_surroundings.specs.Seen.{surrounding_seen, surroundings_seen}
use Rattle.declaration_rows.proofs.HidingLemmas.{hides_told, hiding_known, hiding_listed}
use Rattle.declaration_rows.proofs.hiding.hiding_declarator_failure.Goals as goal

pub returns-clause-listed : goal.returns-clause-listed
returns-clause-listed c =
    λ table.
    let nodes = nodes_of c.args.unit.now in
    let kept = c.args.facts.now in
    let declaration = c.args.declaration in
    let stands = surrounding_seen c.args.surrounding in
    let number = c.number_at-number in
    let block = meaning.is_block_name nodes (surroundings_seen c.args.surroundings.now) stands (kind_at nodes stands.parent) in
    let counted =
    c.is_counted.ensures
    ∙ ap (λ same. block && not same)
    (hides_told table kept number.result declaration ∙ ap (λ n. meaning.hides_same (nodes_seen table kept) n (declared_seen table declaration)) number.ensures) in
    ap (failure_listed table) c.hiding_failure.ensures
    ∙ hiding_listed table c.token_at.result number.result declaration.name c.is_counted.result
    ∙ (λ i. meaning.hiding_failures (c.token_at.ensures i) (number.ensures i) (name_seen declaration.name) (counted i))

pub returns-clause-known : goal.returns-clause-known
returns-clause-known c =
    λ table.
    subst (λ found. IfSome found (IsKnownFailure table)) (sym c.hiding_failure.ensures)
    (hiding_known table c.token_at.result c.number_at-number.result c.args.declaration.name c.is_counted.result)
