use Rattle.std.proofs.Common.{◌-◌, sym, ◌∙◌, ap}
use Rattle.std.specs.Char.{is_ascii_hexdigit}
use Rattle.meaning_text.specs.Words.{begins_hexadecimal}
use Rattle.c_tokens.proofs.WordLemmas.{begins_hexadecimal-step}
use Rattle.c_tokens.proofs.words.begins_hexadecimal.Goals as goal

pub loop-left-preserved : goal.loop-left-preserved
loop-left-preserved c =
    let digit = ap is_ascii_hexdigit (sym c.byte.ensures) ∙ sym c.is_ascii_hexdigit.ensures.value ∙ c.if-not-is_ascii_hexdigit.false in
    ap (begins_hexadecimal (c.loop-left.left - 1)) c.next-cursor.ensures.bytes
    ∙ begins_hexadecimal-step _ _ c.loop-left-test.true digit ∙ c.loop-left.invariant
