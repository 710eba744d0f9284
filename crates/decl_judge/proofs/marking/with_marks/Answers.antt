use Rattle.std.proofs.Common.{◌≡◌, IfOk, ap, ◌∙◌, subst}
use Rattle.meaning_types.specs.Types.{TypeTree}
use Rattle.meaning_typing.specs.Specifiers.{with_marks}
use Rattle.c_types.specs.Table.{type_at}
use Rattle.decl_judge.specs.Marking.{added_to}
use Rattle.decl_judge.specs.Seen.{marks_seen}
use Rattle.decl_judge.proofs.MarkingLemmas.{marked_none}
use Rattle.decl_judge.proofs.marking.with_marks.Goals as goal

pub returns-clause-made : goal.returns-clause-made
returns-clause-made c =
    let token = c.args.token in
    let of = type_at c.args.types.now c.args.of in
    subst (λ (meant : TypeTree). IfOk c.with_added.result (λ id. type_at c.with_added.new.types id ≡ meant))
    (ap (λ added. added_to token added of) c.by_attributes.ensures ∙ ap (with_marks token (marks_seen c.args.marks)) (marked_none of))
    c.with_added.ensures.made
