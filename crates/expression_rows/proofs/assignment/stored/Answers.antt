-- Both sides are known over the table that the type of the value joined.
use Rattle.std.proofs.Common.{◌≡◌, ap, ◌∙◌}
use Rattle.meaning_types.specs.Types.{value_type}
use Rattle.meaning_typing.specs.Facts.{place, type_of_value}
use Rattle.c_types.specs.Table.{type_at}
use Rattle.node_facts.specs.Facts.{fact_seen}
use Rattle.expression_rows.specs.Parts.{assigned_as}
use Rattle.expression_rows.specs.Rows.{told}
use Rattle.expression_rows.proofs.GrowthLemmas.{fact_later, id_later, type_later, value_later}
use Rattle.expression_rows.proofs.RowLemmas.{loaded_place}
use Rattle.expression_rows.proofs.assignment.stored.Goals as goal

pub assigned_as-requires-clause-right : goal.assigned_as-requires-clause-right
assigned_as-requires-clause-right c =
    let right = c.args.right in
    let join = c.in_ok-value.ensures.keeps in (
      id_later c.args.types.now c.type_of_value.new.types join right.fact.node.of c.requires.right.0,
      value_later c.args.types.now c.type_of_value.new.types join right.fact right.value c.requires.right.0 c.requires.right.1,
    )

pub returns-clause-row : goal.returns-clause-row
returns-clause-row c =
    let old = c.args.types.now in
    let new = c.type_of_value.new.types in
    let join = c.in_ok-value.ensures.keeps in
    let left = c.args.left in
    let stored : type_at new c.in_ok-value.value ≡ value_type (type_at old left.node.of) =
    c.in_ok-value.ensures.value.value
    ∙ ap (λ fact. type_of_value (fact_seen new fact)) c.place.ensures
    ∙ ap (λ type_. type_of_value (place type_)) (type_later old new join left.node.of c.requires.left)
    ∙ loaded_place (type_at old left.node.of) c.requires.modifiable in
    c.assigned_as.ensures.row
    ∙ (λ i. told
    (assigned_as c.args.at.token c.args.at.part c.args.at.value (fact_later old new join left c.requires.left i)
    (fact_later old new join c.args.right.fact c.requires.right.0 i) (stored i)))
