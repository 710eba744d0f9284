use Rattle.std.proofs.Common.{Some, IfSome, option_map, ap, sym, subst, ◌∙◌}
use Rattle.meaning_typing.specs.Specifiers.{with_marks}
use Rattle.c_types.specs.Table.{IsTypeId, type_at}
use Rattle.decl_judge.specs.Seen.{marks_seen}
use Rattle.decl_judge.proofs.MarkingLemmas.{marked_none}
use Rattle.member_declarations.proofs.FactLemmas.{specified_known, specified_told}
use Rattle.member_declarations.proofs.fact.marked_type.Goals as goal

pub returns-clause-made : goal.returns-clause-made
returns-clause-made c =
    let table = c.specified_as.new.types in
    let marks = marks_seen c.args.marks in
    ap (option_map (type_at table)) c.type_specified.ensures
    ∙ specified_told table c.in_ok-fact.fact _ c.in_ok-fact.ensures.fact
    ∙ ap (λ of. Some (with_marks c.args.token marks of)) (marked_none (type_at c.args.types.now c.args.of))

pub returns-clause-known : goal.returns-clause-known
returns-clause-known c =
    let table = c.specified_as.new.types in
    subst (λ made. IfSome made (IsTypeId table)) (sym c.type_specified.ensures) (specified_known table c.in_ok-fact.fact c.in_ok-fact.ensures.known)
