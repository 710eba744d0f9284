-- Anonymous members on the way add their own.
use Rattle.std.proofs.Common.{◌≡◌, IfOk, subst}
use Rattle.meaning_types.specs.Types.{TypeTree}
use Rattle.meaning_types.specs.Marks.{member_type}
use Rattle.c_types.specs.Table.{type_at}
use Rattle.member_rows.proofs.typed.type_of_member.Goals as goal

pub returns-clause-made : goal.returns-clause-made
returns-clause-made c =
    subst (λ (meant : TypeTree). IfOk c.member_type.result (λ id. type_at c.member_type.new.types id ≡ meant))
    (λ i. member_type (c.around.ensures.qualifiers i) (c.around.ensures.flags i) (type_at c.args.types.now c.args.found.of)) c.member_type.ensures.made
