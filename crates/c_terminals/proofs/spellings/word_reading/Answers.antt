-- A word is found among those of its group.
use Rattle.std.proofs.Common.{map, option_map, ap, ◌∙◌}
use Rattle.c_terminals.specs.Seen.{reading_seen, row_seen}
use Rattle.c_terminals.proofs.Grouping.{word_reading-Some, word_reading-None}
use Rattle.c_terminals.proofs.spellings.word_reading.Goals as goal

pub returns-in-Some : goal.returns-in-Some
returns-in-Some c =
    word_reading-Some c.args.text.now c.group_of.result (map row_seen c.rows_of.result.now) (option_map reading_seen c.found.result) (reading_seen c.in-Some.reading)
    c.group_of.ensures c.rows_of.ensures c.found.ensures (ap (option_map reading_seen) c.in-Some.is)

pub returns-in-None : goal.returns-in-None
returns-in-None c =
    c.name_reading.ensures
    ∙ word_reading-None c.args.text.now c.group_of.result (map row_seen c.rows_of.result.now) (option_map reading_seen c.found.result)
    c.group_of.ensures c.rows_of.ensures c.found.ensures (ap (option_map reading_seen) c.in-None.is)
