use Rattle.std.proofs.Common.{option_map, sym, ap, ◌∙◌}
use Rattle.c_types.specs.Table.{type_at}
use Rattle.expression_rows.specs.Rows.{broken_seen}
use Rattle.declaration_rows.proofs.LeastLemmas.{type_hidden, type_there}
use Rattle.declaration_rows.proofs.parts.type_unless.Goals as goal

pub returns-in-None-clause-made : goal.returns-in-None-clause-made
returns-in-None-clause-made c = λ table list least.
    type_there list (option_map (type_at table) c.args.made) (ap (option_map broken_seen) (sym c.in-None.is) ∙ least)

pub returns-in-Some-clause-made : goal.returns-in-Some-clause-made
returns-in-Some-clause-made c = λ table list least.
    type_hidden list (option_map (type_at table) c.args.made) (broken_seen c.in-Some._broken)
    (ap (option_map broken_seen) (sym c.in-Some.is) ∙ least)
