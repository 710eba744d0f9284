-- A level is made with the qualifiers and flags of the place around it.
use Rattle.std.proofs.Common.{◌≡◌, Some, IfOk, subst, sym, ap, ◌∙◌}
use Rattle.meaning_types.specs.Types.{TypeTree}
use Rattle.c_types.specs.Table.{type_at}
use Rattle.member_rows.specs.Marks.{base_of_level, is_plain_level}
use Rattle.member_rows.proofs.MarkingLemmas.{level_made}
use Rattle.member_rows.proofs.typed.make_level.Goals as goal

pub returns-in-Some-clause-made : goal.returns-in-Some-clause-made
returns-in-Some-clause-made c parameters =
    let shape = c.args.shape in
    let told : base_of_level (is_plain_level shape) shape.base ≡ Some c.in-Some.base =
    ap (λ plain. base_of_level plain shape.base) (sym c.is_plain.ensures) ∙ sym c.base_of_level.ensures ∙ c.in-Some.is in
    subst (λ (meant : TypeTree). IfOk c.make.result (λ id. type_at c.make.new.types id ≡ meant))
    (level_made c.args.types.now parameters c.args.marks shape c.in-Some.base c.level_in_place-made.result told c.level_in_place-made.ensures.base
    c.level_in_place-made.ensures.qualifiers c.level_in_place-made.ensures.flags)
    c.make.ensures.made
