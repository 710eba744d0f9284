-- A member takes what an object may take.
use Rattle.std.proofs.Common.{sym}
use Rattle.c_types.specs.Layouts.{told_kept}
use Rattle.c_types.specs.Rows.{type_numbered, types_of}
use Rattle.c_types.proofs.MemberLemmas.{placed-right}
use Rattle.c_types.proofs.layouts.Layouts.place_one.Goals as goal

pub returns-then-is_some-clause-placed : goal.returns-then-is_some-clause-placed
returns-then-is_some-clause-placed c =
    placed-right (told_kept c.args.self.now.kept.entries) c.requires.narrow (type_numbered (types_of c.args.rows.now.rows.entries) c.args.member.of.0) c.args.member.width c.field_width-width.result _ c.in-Ok.extent.size
    c.in-Ok.extent.align c.effective-written.result (sym c.in-Ok.ensures) c.field_width-width.ensures c.effective-written.ensures.some c.effective-written.ensures.narrow

pub returns-else-is_some-clause-placed : goal.returns-else-is_some-clause-placed
returns-else-is_some-clause-placed c =
    placed-right (told_kept c.args.self.now.kept.entries) c.requires.narrow (type_numbered (types_of c.args.rows.now.rows.entries) c.args.member.of.0) c.args.member.width c.field_width-width.result _ c.in-Ok.extent.size
    c.in-Ok.extent.align c.effective-written.result (sym c.in-Ok.ensures) c.field_width-width.ensures c.effective-written.ensures.some c.effective-written.ensures.narrow
