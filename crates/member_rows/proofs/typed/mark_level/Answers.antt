-- The level is that of the type.
use Rattle.std.proofs.Common.{◌≡◌, IfOk, subst, ap}
use Rattle.meaning_types.specs.Types.{TypeTree}
use Rattle.meaning_types.specs.Marks.{member_type}
use Rattle.c_types.specs.Rows.{parameter_types}
use Rattle.c_types.specs.Table.{type_at}
use Rattle.member_rows.specs.Marks.{flags_seen, qualifiers_seen}
use Rattle.member_rows.proofs.typed.mark_level.Goals as goal

pub returns-clause-made : goal.returns-clause-made
returns-clause-made c =
    let old = c.args.types.now in
    subst (λ (meant : TypeTree). IfOk c.make_level.result (λ id. type_at c.make_level.new.types id ≡ meant))
    (ap (member_type (qualifiers_seen c.args.marks) (flags_seen c.args.marks)) c.shape-shape.ensures.shape)
    (c.make_level.ensures.made (parameter_types (type_at old c.args.of)))
