use Rattle.std.proofs.Common.{rules}
use Rattle.c_tokens.specs.Seen.{text_of, toks_of}
use Rattle.c_macros.specs.Seen.{macro_of}
use Rattle.c_directives.proofs.definition.read_definition.Goals as goal

pub returns-clause-formed : goal.returns-clause-formed
returns-clause-formed c =
    (c.ids_say_what_spellings_say.ensures.well_formed c.args.names.now c.in-Some-2.m c.apart.ensures.apart (search rules)).0
    (c.definitions_are_well_formed.ensures (toks_of c.args.names.now c.args.line.now)
    (record { name = text_of c.args.names.now c.in-Some.name.now.name; macro = macro_of c.args.names.now c.in-Some-2.m }) (search rules))
