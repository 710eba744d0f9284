use Rattle.std.proofs.Common.{not, sym, ap, ◌∙◌}
use Rattle.meaning_typing.specs.MemberRows.{is_flexible}
use Rattle.c_types.specs.Layouts.{told_in}
use Rattle.c_types.specs.Rows.{parameter_types}
use Rattle.c_types.specs.Table.{type_at, types_in}
use Rattle.member_declarations.proofs.OpenLemmas.{by_element, element_known, flexible_told, no_array_flexible}
use Rattle.member_declarations.proofs.open_arrays.is_flexible.Goals as goal

pub returns-then-not-is_array : goal.returns-then-not-is_array
returns-then-not-is_array c =
    let table = c.args.types.now in
    sym (no_array_flexible (told_in table) (type_at table c.args.of) (sym c.is_array.ensures ∙ c.if-not-is_array.true))

pub is_no_object-requires : goal.is_no_object-requires
is_no_object-requires c =
    element_known (types_in c.args.types.now) c.shape.result.base c.in-Some.element (sym c.open_element.ensures ∙ c.in-Some.is) c.shape.ensures.known

pub returns-in-Some : goal.returns-in-Some
returns-in-Some c =
    let table = c.args.types.now in
    let told = told_in table in
    ap not c.is_no_object.ensures
    ∙ ap (by_element told (types_in table)) (sym c.in-Some.is ∙ c.open_element.ensures)
    ∙ sym (flexible_told told (types_in table) (parameter_types (type_at table c.args.of)) c.shape.result)
    ∙ ap (is_flexible told) c.shape.ensures.shape

pub returns-in-None : goal.returns-in-None
returns-in-None c =
    let table = c.args.types.now in
    let told = told_in table in
    ap (by_element told (types_in table)) (sym c.in-None.is ∙ c.open_element.ensures)
    ∙ sym (flexible_told told (types_in table) (parameter_types (type_at table c.args.of)) c.shape.result)
    ∙ ap (is_flexible told) c.shape.ensures.shape
