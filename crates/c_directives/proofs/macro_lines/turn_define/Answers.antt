use Rattle.std.proofs.Common.{Err, is_ok, ap, true≢false}
use Rattle.c_tokens.specs.Seen.{toks_of}
use Rattle.c_directives.proofs.MacroLineLemmas.{macro_defined, macro_redefined}
use Rattle.c_directives.proofs.macro_lines.turn_define.Goals as goal

pub returns-in-Ok-define-clause-kept : goal.returns-in-Ok-define-clause-kept
returns-in-Ok-define-clause-kept c = λ hash groups s has.
    macro_defined c.args.names.now c.apart.ensures.apart hash (toks_of c.args.names.now c.args.line.now) groups s c.args.macros.now c.define.new.self c.in-Ok.definition.0 c.in-Ok.definition.1
    c.in-Ok.ensures.definition c.in-Ok.ensures.name c.in-Ok.ensures.known
    (λ m n first second. c.ids_say_what_spellings_say.ensures.agreement c.args.names.now m n c.apart.ensures.apart first second)
    has c.in-Ok-define.ensures.defined (λ other. true≢false (ap is_ok (c.in-Ok-define.ensures.redefined.1 other))) c.in-Ok-define.ensures.others

pub returns-in-Err-Redefined-clause-kept : goal.returns-in-Err-Redefined-clause-kept
returns-in-Err-Redefined-clause-kept c = λ hash groups s has.
    macro_redefined c.args.names.now c.apart.ensures.apart hash (toks_of c.args.names.now c.args.line.now) groups s c.args.macros.now c.in-Ok.definition.0 c.in-Ok.definition.1
    c.in-Ok.ensures.definition c.in-Ok.ensures.name c.in-Ok.ensures.known
    (λ m n first second. c.ids_say_what_spellings_say.ensures.agreement c.args.names.now m n c.apart.ensures.apart first second)
    has (c.in-Err-Redefined.ensures.redefined.0 (ap Err c.in-Err-Redefined.field-0-is))

pub returns-in-Ok-define-clause-knows : goal.returns-in-Ok-define-clause-knows
returns-in-Ok-define-clause-knows c = λ knows. c.define.ensures.known c.args.names.now knows c.in-Ok.ensures.name c.in-Ok.ensures.known

pub returns-in-Err-Redefined-clause-knows : goal.returns-in-Err-Redefined-clause-knows
returns-in-Err-Redefined-clause-knows c = λ knows. c.define.ensures.known c.args.names.now knows c.in-Ok.ensures.name c.in-Ok.ensures.known

pub returns-in-Err-Memory-clause-knows : goal.returns-in-Err-Memory-clause-knows
returns-in-Err-Memory-clause-knows c = λ knows. c.define.ensures.known c.args.names.now knows c.in-Ok.ensures.name c.in-Ok.ensures.known
