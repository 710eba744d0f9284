use Rattle.std.proofs.Common.{Err, Some, subst, ◌∙◌}
use Rattle.meaning_preprocessing.specs.Directives.{turn_of}
use Rattle.meaning_preprocessing.specs.State.{refused}
use Rattle.c_tokens.specs.Seen.{at_of, tok_of, toks_of}
use Rattle.c_directives.specs.Directives.{IsDirective}
use Rattle.c_directives.specs.Groups.{groups_seen, word_seen}
use Rattle.c_preproc.proofs.TaskLemmas.{halts-told}
use Rattle.c_preproc.proofs.state.State.turn.Goals as goal

pub returns-in-Err-Refused-clause-done : goal.returns-in-Err-Refused-clause-done
returns-in-Err-Refused-clause-done c = λ value path s is holds.
    let names = c.args.names.now in
    let hash = tok_of names c.args.hash.now in
    let told = subst (λ fault. IsDirective names value s hash c.begin_directive.new.groups.items (Err fault) (turn_of value hash (toks_of names c.args.rest.now) (groups_seen c.args.groups.now.items) s)) c.in-Err-Refused.field-0-is
    (c.in-Err-Refused.ensures.done value s holds.macros) in
    halts-told names c.line_error.result (refused s c.in-Err-Refused.kind (at_of c.args.hash.now.place) (word_seen names c.in-Err-Refused.word)) _
    (c.line_error.ensures.stop path s holds ∙ λ i. Some (refused s (c.in-Err-Refused.kind-is i) (at_of c.args.hash.now.place) (word_seen names (c.in-Err-Refused.word-is i)))) told

pub returns-in-Err-Refused-clause-known : goal.returns-in-Err-Refused-clause-known
returns-in-Err-Refused-clause-known c =
    let held = c.requires.held in
    c.line_error.ensures.known held.0 held.1 held.2
