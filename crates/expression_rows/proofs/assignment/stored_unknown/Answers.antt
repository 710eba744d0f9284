-- The left side is known over the table that the type of the value joined.
use Rattle.std.proofs.Common.{◌≡◌, [], ap, ◌∙◌}
use Rattle.meaning_types.specs.Types.{value_type}
use Rattle.meaning_typing.specs.Facts.{place, type_of_value, value}
use Rattle.meaning_typing.specs.Rows.{gives}
use Rattle.c_types.specs.Table.{type_at}
use Rattle.node_facts.specs.Facts.{fact_seen}
use Rattle.expression_rows.specs.Rows.{row_seen, told}
use Rattle.expression_rows.proofs.GrowthLemmas.{type_later}
use Rattle.expression_rows.proofs.RowLemmas.{loaded_place}
use Rattle.expression_rows.proofs.assignment.stored_unknown.Goals as goal

pub returns-clause-row : goal.returns-clause-row
returns-clause-row c =
    let old = c.args.types.now in
    let new = c.type_of_value.new.types in
    let left = c.args.left in
    let stored : type_at new c.in_ok-value.value ≡ value_type (type_at old left.node.of) =
    c.in_ok-value.ensures.value.value
    ∙ ap (λ fact. type_of_value (fact_seen new fact)) c.place.ensures
    ∙ ap (λ type_. type_of_value (place type_)) (type_later old new c.in_ok-value.ensures.keeps left.node.of c.requires.left)
    ∙ loaded_place (type_at old left.node.of) c.requires.modifiable in
    (λ i. row_seen new (c.given.ensures i))
    ∙ ap (λ type_. told (gives (value type_) [] [])) stored
