-- Five parts, one behind the other.
use Rattle.warn_print.proofs.TextLemmas.{appended_five}
use Rattle.warn_print.proofs.warnings.write_lines.Goals as goal

pub returns : goal.returns
returns c =
    appended_five c.args.text.now.items _ _ _ _ _ _ _ _ _ _ c.in_ok-write_front.ensures c.in_ok-extend_from_slice.ensures.items
    c.in_ok-write_message.ensures c.in_ok-push.ensures.items (c.in_ok-write_below.ensures c.args.spelling.now)
