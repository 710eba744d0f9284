use Rattle.std.proofs.Common.{◌==◌, get_or, sym, ap, ◌∙◌}
use Rattle.meaning_text.specs.Bytes.{backslash}
use Rattle.c_tokens.specs.Seen.{at_of}
use Rattle.c_tokens.specs.Remaining.{remaining_at}
use Rattle.c_tokens.proofs.WordLemmas.{word_length-plain}
use Rattle.c_tokens.proofs.words.word_length.Goals as goal

pub returns-else-is_backslash : goal.returns-else-is_backslash
unfolding remaining_at
returns-else-is_backslash c =
    let cursor = c.args.start.now in
    c.plain_word_length-count.ensures.length
    ∙ sym
    (word_length-plain cursor.line_is_open (at_of cursor.place) cursor.bytes.now
    (ap (λ n. get_or cursor.bytes.now n 0 == backslash) (sym c.plain_word_length-count.ensures.length) ∙ sym c.is_backslash.ensures ∙ c.if-is_backslash.false))
