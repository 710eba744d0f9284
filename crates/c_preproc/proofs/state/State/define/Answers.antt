use Rattle.std.proofs.Common.{Err, sym, subst}
use Rattle.meaning_preprocessing.specs.Directives.{define_turn}
use Rattle.c_macros.specs.Table.{Table}
use Rattle.c_tokens.specs.Seen.{tok_of, toks_of}
use Rattle.c_directives.specs.Groups.{IsKept, groups_seen}
use Rattle.c_preproc.specs.States.{Holds}
use Rattle.c_preproc.proofs.TaskLemmas.{halts-told, kept-done}
use Rattle.c_preproc.proofs.state.State.define.Goals as goal

pub turn_define-requires-clause-made : goal.turn_define-requires-clause-made
turn_define-requires-clause-made c = c.requires.held.2.made

pub returns-in-Ok-clause-done : goal.returns-in-Ok-clause-done
returns-in-Ok-clause-done c = λ path s all holds.
    kept-done c.args.names.now path c.args.self.now s (tok_of c.args.names.now c.args.hash.now) all c.turn_define.new.macros _ holds (c.turn_define.ensures.knows holds.knows) c.turn_define.ensures.files
    (c.in-Ok.ensures.kept (tok_of c.args.names.now c.args.hash.now) (groups_seen all) s holds.macros)

pub returns-in-Err-Refused-clause-done : goal.returns-in-Err-Refused-clause-done
returns-in-Err-Refused-clause-done c = λ path s all holds.
    let hash = tok_of c.args.names.now c.args.hash.now in
    let kept = subst (λ fault. IsKept c.args.names.now s hash (groups_seen all) c.turn_define.new.macros (Err fault) (define_turn hash (toks_of c.args.names.now c.args.line.now) (groups_seen all) s)) c.in-Err-Refused.field-0-is
    (c.in-Err-Refused.ensures.kept hash (groups_seen all) s holds.macros) in
    halts-told c.args.names.now c.line_error.result _ _
    (c.line_error.ensures.stop path s (subst (λ (table : Table). Holds c.args.names.now path (record c.args.self.now { macros = table }) s) (sym c.in-Err-Refused.ensures.err) holds)) kept

pub returns-in-Err-Refused-clause-known : goal.returns-in-Err-Refused-clause-known
returns-in-Err-Refused-clause-known c =
    let held = c.requires.held in
    c.line_error.ensures.known held.0 held.1
    (subst (λ (table : Table). Holds c.args.names.now held.0 (record c.args.self.now { macros = table }) held.1) (sym c.in-Err-Refused.ensures.err) held.2)
