-- An array without a length takes nothing, and another type what it takes by itself.
use Rattle.std.proofs.Common.{ap, sym, ◌∙◌}
use Rattle.meaning_layout.specs.Sizes.{array_extent}
use Rattle.c_types.specs.Layouts.{told_kept}
use Rattle.c_types.specs.Rows.{type_numbered, types_of}
use Rattle.c_types.proofs.MemberLemmas.{member-closed, member-open, none-extent}
use Rattle.c_types.proofs.layouts.Layouts.member_extent.Goals as goal

pub returns-in_default : goal.returns-in_default
returns-in_default c =
    let told = told_kept c.args.self.now.kept.entries in
    c.extent.ensures ∙ c.elements.ensures told ∙ member-closed told (type_numbered (types_of c.args.rows.now.rows.entries) c.args.number) c.in_default.ensures.element

pub returns-in-Ok : goal.returns-in-Ok
returns-in-Ok c =
    let told = told_kept c.args.self.now.kept.entries in
    let types = types_of c.args.rows.now.rows.entries in
    sym (none-extent (record { size = c.in-Ok.one.size; align = c.in-Ok.one.align })) ∙ ap (array_extent 0) (c.in-Ok.ensures ∙ c.elements-2.ensures told)
    ∙ member-open told (type_numbered types c.args.number) (type_numbered types c.in-Some.element) c.in-Some.ensures.element

pub returns-in-Err : goal.returns-in-Err
returns-in-Err c =
    let told = told_kept c.args.self.now.kept.entries in
    let types = types_of c.args.rows.now.rows.entries in
    ap (array_extent 0) (c.in-Err.ensures ∙ c.elements-2.ensures told)
    ∙ member-open told (type_numbered types c.args.number) (type_numbered types c.in-Some.element) c.in-Some.ensures.element
