-- A token is read over, or is one terminal.
use Rattle.c_tokens.specs.Seen.{tok_of, text_of}
use Rattle.c_terminals.proofs.Entries.{entry-reading, terminals-over, terminals-one}
use Rattle.c_terminals.proofs.terminals.terminal_at.Goals as goal

pub reading_of-requires-clause-word : goal.reading_of-requires-clause-word
reading_of-requires-clause-word c =
    entry-reading (text_of c.args.names.now c.args.token.now.name) c.entry_of.result c.in-Some.word c.entry_of.ensures c.in-Some.is

pub returns-in-None-clause-front : goal.returns-in-None-clause-front
returns-in-None-clause-front c = λ toks.
    terminals-over c.args.index (tok_of c.args.names.now c.args.token.now) c.entry_of.result toks c.entry_of.ensures c.in-None.is

pub returns-in_ok-reading-in-Some-clause-front : goal.returns-in_ok-reading-in-Some-clause-front
returns-in_ok-reading-in-Some-clause-front c = λ toks.
    terminals-one c.args.names.now c.args.index c.args.token.now c.entry_of.result c.in-Some.word c.in_ok-reading-in-Some.reading toks
    c.entry_of.ensures c.in-Some.is c.in_ok-reading-in-Some.ensures
