use Rattle.std.proofs.Common.{◌≡◌, ◌∷◌, Ok, Some, IfSome, List, Bool, subst}
use Rattle.meaning_preprocessing.specs.State.{UnitState}
use Rattle.meaning_preprocessing.specs.Groups.{Turns, Halts, group_of, evaluated_line}
use Rattle.c_tokens.specs.declared.token.Token.{Token}
use Rattle.c_tokens.specs.Seen.{tok_of, toks_of}
use Rattle.c_directives.specs.Groups.{groups_seen}
use Rattle.c_preproc.specs.States.{IsDone, stop_of}
use Rattle.c_preproc.proofs.TaskLemmas.{judged-done}
use Rattle.c_preproc.proofs.state.State.begin_if.Goals as goal

pub returns-in-Ok-open_group-clause-done : goal.returns-in-Ok-open_group-clause-done
returns-in-Ok-open_group-clause-done c = λ value path s is holds.
    let names = c.args.names.now in
    let hash = tok_of names c.args.hash.now in
    let open_groups = groups_seen c.args.groups.now.items in
    subst (λ (ts : List Token). IsDone c.judge_line.new.names path c.judge_line.new.self c.open_group.new.groups.items (Ok tt) (evaluated_line value hash (Some (toks_of names ts)) s (λ b u. Turns (group_of hash b ∷ open_groups) u))) c.as_slice.ensures.value
    (judged-done c.judge_line.new.names path c.judge_line.new.self c.in-Ok.holds (λ b. group_of hash b ∷ open_groups) c.open_group.new.groups.items _
    (c.in-Ok.ensures.judged value path s (λ b u. Turns (group_of hash b ∷ open_groups) u) is holds) (c.in-Ok-open_group.ensures.opened names))

pub returns-in-Err-clause-done : goal.returns-in-Err-clause-done
returns-in-Err-clause-done c = λ value path s is holds.
    let names = c.args.names.now in
    let hash = tok_of names c.args.hash.now in
    let next = λ (b : Bool) (u : UnitState). Turns (group_of hash b ∷ groups_seen c.args.groups.now.items) u in
    subst (λ (ts : List Token). IfSome (stop_of c.judge_line.new.names c.in-Err.fault) (λ stop. evaluated_line value hash (Some (toks_of names ts)) s next ≡ Halts stop)) c.as_slice.ensures.value
    (c.in-Err.ensures.judged value path s next is holds)
