use Rattle.std.proofs.Common.{sym, ◌∙◌}
use Rattle.ksparse.proofs.IdentifierLemmas.{hexadecimal_behind}
use Rattle.ksparse.proofs.identifier.begins_hexadecimal.Goals as goal

pub digits-preserved : goal.digits-preserved
digits-preserved c =
    hexadecimal_behind c.digits.wanted c.digits.left.now c.in-Some.others.now c.in-Some.byte.now c.in-Some.ensures.cases.0 c.digits-test.true
    (sym c.is_ascii_hexdigit.ensures.value ∙ c.if-not-is_ascii_hexdigit.false)
    ∙ c.digits.invariant
