use Rattle.std.proofs.Common.{◌∙◌}
use Rattle.c_tokens.specs.Cursor.{ahead}
use Rattle.c_tokens.proofs.PunctuatorLemmas.{found_punctuator-ahead, found_punctuator-in_two}
use Rattle.c_tokens.proofs.punctuators.found_punctuator.Goals as goal

pub returns-then-is_in_two : goal.returns-then-is_in_two
returns-then-is_in_two c =
    c.longest.ensures
    ∙ found_punctuator-in_two (ahead c.args.cursor.now) (ahead c.next-second.result) _ _ c.requires c.next-second.ensures.bytes
    c.byte-first.ensures c.byte.ensures (c.is_in_two.ensures c.if-is_in_two.true)

pub returns : goal.returns
returns c =
    c.longest-2.ensures
    ∙ found_punctuator-ahead (ahead c.args.cursor.now) (ahead c.next-second.result) (ahead c.next-third.result) (ahead c.next-fourth.result) _ _ _ _ c.requires
    c.next-second.ensures.bytes c.next-third.ensures.bytes c.next-fourth.ensures.bytes
    c.byte-first.ensures c.byte-2.ensures c.byte-3.ensures c.byte-4.ensures
