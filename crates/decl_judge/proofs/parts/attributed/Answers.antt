use Rattle.std.proofs.Common.{◌≡◌, IfOk, ap, subst}
use Rattle.meaning_types.specs.Types.{TypeTree}
use Rattle.meaning_typing.specs.Specifiers.{with_marks}
use Rattle.c_types.specs.Table.{type_at}
use Rattle.decl_judge.proofs.parts.attributed.Goals as goal

pub returns-clause-made : goal.returns-clause-made
returns-clause-made c =
    subst (λ (meant : TypeTree). IfOk c.with_marks.result (λ id. type_at c.with_marks.new.types id ≡ meant))
    (ap (λ marks. with_marks c.args.token marks (type_at c.args.types.now c.args.of)) c.in_ok-marks.ensures) c.with_marks.ensures.made
