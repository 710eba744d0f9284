use Rattle.std.proofs.Common.{◌≡◌, IfOk, subst, ap}
use Rattle.meaning_types.specs.Types.{TypeTree}
use Rattle.c_types.specs.Rows.{parameter_types}
use Rattle.c_types.specs.Table.{type_at}
use Rattle.decl_judge.specs.Marking.{added_to}
use Rattle.decl_judge.proofs.marking.mark_level.Goals as goal

pub returns-clause-made : goal.returns-clause-made
returns-clause-made c =
    let old = c.args.types.now in
    subst (λ (meant : TypeTree). IfOk c.make_level.result (λ id. type_at c.make_level.new.types id ≡ meant))
    (ap (added_to c.args.token c.args.added) c.shape-shape.ensures.shape) (c.make_level.ensures.made (parameter_types (type_at old c.args.of)))
