use Rattle.std.proofs.Common.{ap, sym, ◌∙◌}
use Rattle.c_types.specs.Table.{type_at}
use Rattle.decl_judge.specs.Marking.{added_to}
use Rattle.decl_judge.proofs.MarkingLemmas.{added_nothing}
use Rattle.decl_judge.proofs.marking.with_added.Goals as goal

pub returns-then-is_nothing-clause-made : goal.returns-then-is_nothing-clause-made
returns-then-is_nothing-clause-made c =
    let of = type_at c.args.types.now c.args.of in
    sym (ap (λ added. added_to c.args.token added of) (c.is_nothing.ensures c.if-is_nothing.true) ∙ added_nothing c.args.token of)
