-- The spellings so far were read.
use Rattle.std.proofs.Common.{◌≡◌, map, take}
use Rattle.c_terminals.specs.Seen.{entry_seen, word_entry}
use Rattle.c_terminals.proofs.words.read_words.Given as goal

abbrev pub invariant-loop-id : goal.invariant-loop-id
invariant-loop-id l = map entry_seen l.words.items ≡ map word_entry (take l.id l.names)
