use Rattle.c_tokens.specs.Seen.{toks_of}
use Rattle.c_directives.proofs.MacroLineLemmas.{undefined}
use Rattle.c_directives.proofs.macro_lines.turn_undef.Goals as goal

pub returns-clause-kept : goal.returns-clause-kept
returns-clause-kept c = λ hash groups s has.
    undefined c.args.names.now c.apart.ensures.apart hash (toks_of c.args.names.now c.args.line.now) groups s c.args.macros.now c.undef.new.self c.in-Some.name
    (c.in-Some.ensures.name c.args.names.now) (c.in-Some.ensures.known c.args.names.now c.requires) has c.undef.ensures.dropped c.undef.ensures.others

pub returns-clause-knows : goal.returns-clause-knows
returns-clause-knows c = c.undef.ensures.known c.args.names.now
