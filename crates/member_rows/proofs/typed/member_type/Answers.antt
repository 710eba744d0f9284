-- A place without qualifiers and flags adds nothing.
use Rattle.std.proofs.Common.{ap, sym, ◌∙◌}
use Rattle.meaning_types.specs.Marks.{member_type}
use Rattle.c_types.specs.Table.{type_at}
use Rattle.member_rows.specs.Marks.{flags_seen, qualifiers_seen}
use Rattle.member_rows.proofs.MarkingLemmas.{member_none}
use Rattle.member_rows.proofs.typed.member_type.Goals as goal

pub returns-then-are_none-clause-made : goal.returns-then-are_none-clause-made
returns-then-are_none-clause-made c =
    let of = type_at c.args.types.now c.args.of in
    sym (ap (λ marks. member_type (qualifiers_seen marks) (flags_seen marks) of) (c.are_none.ensures c.if-are_none.true) ∙ member_none of)
