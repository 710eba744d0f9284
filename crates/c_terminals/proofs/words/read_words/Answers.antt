-- One more spelling was read.
use Rattle.c_terminals.proofs.Entries.{entries-more}
use Rattle.c_terminals.proofs.words.read_words.Goals as goal

pub loop-id-preserved : goal.loop-id-preserved
loop-id-preserved c =
    entries-more c.args.names.now c.loop-id.words.items c.push.new.self.items c.loop-id.id c.spelling.result.now c.word_entry.result
    c.loop-id.invariant c.spelling.ensures.stands c.word_entry.ensures c.in_ok-push.ensures.items
