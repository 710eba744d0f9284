use Rattle.std.proofs.Common.{◌≡◌, IfOk, subst, ap}
use Rattle.meaning_types.specs.Types.{TypeTree}
use Rattle.meaning_typing.specs.Declarators.{array_type}
use Rattle.c_types.specs.Table.{type_at}
use Rattle.decl_judge.proofs.MarkingLemmas.{marked_none}
use Rattle.decl_judge.proofs.marking.array_type.Goals as goal

pub returns-clause-made : goal.returns-clause-made
returns-clause-made c =
    subst (λ (meant : TypeTree). IfOk c.make_plain.result (λ id. type_at c.make_plain.new.types id ≡ meant))
    (ap (λ element. array_type element c.args.length) (marked_none (type_at c.args.types.now c.args.element))) c.make_plain.ensures.made
