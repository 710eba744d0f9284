-- The table has an entry for each spelling.
use Rattle.std.proofs.Common.{length, sym, ap, ◌∙◌, arith}
use Rattle.std.proofs.lemmas.List.{length-map}
use Rattle.c_terminals.specs.Seen.{entry_seen, word_entry}
use Rattle.c_terminals.proofs.Entries.{entry_of-name}
use Rattle.c_terminals.proofs.terminals.entry_of.Goals as goal

pub returns : goal.returns
returns c =
    let count = sym (length-map c.args.words.now entry_seen) ∙ ap length c.requires.words ∙ length-map c.args.names.now word_entry in
    entry_of-name c.args.names.now c.args.words.now c.args.name _ c.requires.words (omega (arith, count, c.requires.known))
