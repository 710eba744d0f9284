use Rattle.std.proofs.Common.{◌∙◌, arith}
use Rattle.c_tokens.specs.Cursor.{remaining, ahead}
use Rattle.c_tokens.proofs.CursorLemmas.{spelled-more, drop-more}
use Rattle.c_tokens.proofs.cursor.Cursor.spell.Goals as goal

pub loop-left-preserved : goal.loop-left-preserved
loop-left-preserved c =
    let before = c.loop-left.invariant in
    let some = c.loop-left-test.true in
    record {
      behind = drop-more (remaining c.loop-left.cursor) _ _ some c.next-cursor.ensures.behind ∙ before.behind;
      spelled = spelled-more c.loop-left.spelling.items _ (ahead c.loop-left.cursor) _ _ _ some c.in-Some.ensures.first c.next-cursor.ensures.bytes c.in_ok-push.ensures.items ∙ before.spelled;
      within = omega (arith, before.within);
      shorter = omega (arith, before.shorter, before.within, some, c.next-cursor.ensures.shorter);
      file = c.next-cursor.ensures.file ∙ before.file;
    }
