use Rattle.std.proofs.Common.{Ok, Err, sym, subst, ◌∙◌}
use Rattle.c_tokens.specs.Seen.{tok_of}
use Rattle.c_directives.specs.Directives.{IsDirective, LeavesGroups}
use Rattle.c_directives.specs.Groups.{groups_seen}
use Rattle.c_preproc.specs.Opens.{IsTurnDone}
use Rattle.c_preproc.specs.States.{IsDone}
use Rattle.c_preproc.proofs.TaskLemmas.{nothing-left}
use Rattle.c_preproc.proofs.state.State.do_task.Goals as goal

pub returns-in-If-clause-done : goal.returns-in-If-clause-done
returns-in-If-clause-done c = λ value path s turn before is holds directive left.
    let names = c.args.names.now in
    let begun = subst (λ task. IsDirective names value s (tok_of names c.args.hash.now) c.args.groups.now.items (Ok task) turn) c.in-If.is directive in
    nothing-left c.begin_if.new.names path c.begin_if.new.self before c.begin_if.new.groups.items turn c.begin_if.result c.with_nothing_left.result c.with_nothing_left.ensures
    (subst (λ found. IsDone c.begin_if.new.names path c.begin_if.new.self c.begin_if.new.groups.items c.begin_if.result found) (sym begun)
    (c.begin_if.ensures.done value path s is holds))

pub returns-in-Elif-clause-done : goal.returns-in-Elif-clause-done
returns-in-Elif-clause-done c = λ value path s turn before is holds directive left.
    let names = c.args.names.now in
    let begun = subst (λ task. IsDirective names value s (tok_of names c.args.hash.now) c.args.groups.now.items (Ok task) turn) c.in-Elif.is directive in
    nothing-left c.begin_part.new.names path c.begin_part.new.self before c.begin_part.new.groups.items turn c.begin_part.result c.with_nothing_left-in-Elif.result c.with_nothing_left-in-Elif.ensures
    (subst (λ found. IsDone c.begin_part.new.names path c.begin_part.new.self c.begin_part.new.groups.items c.begin_part.result found) (sym begun)
    (c.begin_part.ensures.done value path s is holds))

pub returns-in-Ok-clause-done : goal.returns-in-Ok-clause-done
returns-in-Ok-clause-done c = λ value path s turn before is holds directive left.
    let names = c.args.names.now in
    let begun = subst (λ task. IsDirective names value s (tok_of names c.args.hash.now) c.args.groups.now.items (Ok task) turn) c.in-Include.is directive in
    let same = subst (LeavesGroups before (groups_seen c.args.groups.now.items)) c.in-Include.is left in
    let asked = c.in-Ok.ensures.asked path s holds in
    (asked.0, asked.1, begun ∙ asked.2, same)

pub returns-in-Err-clause-done : goal.returns-in-Err-clause-done
returns-in-Err-clause-done c = λ value path s turn before is holds directive left.
    let names = c.args.names.now in
    let begun = subst (λ task. IsDirective names value s (tok_of names c.args.hash.now) c.args.groups.now.items (Ok task) turn) c.in-Include.is directive in
    subst (λ found. IsTurnDone c.turn_include.new.names path c.turn_include.new.self before c.args.groups.now.items (Err c.in-Err.fault) found) (sym begun)
    (c.in-Err.ensures.asked path s holds)

pub returns-in-Define-clause-done : goal.returns-in-Define-clause-done
returns-in-Define-clause-done c = λ value path s turn before is holds directive left.
    let names = c.args.names.now in
    let begun = subst (λ task. IsDirective names value s (tok_of names c.args.hash.now) c.args.groups.now.items (Ok task) turn) c.in-Define.is directive in
    nothing-left names path c.define.new.self before c.args.groups.now.items turn c.define.result c.with_nothing_left-in-Define.result c.with_nothing_left-in-Define.ensures
    (subst (λ found. IsDone names path c.define.new.self c.args.groups.now.items c.define.result found) (sym begun)
    (c.define.ensures.done path s c.args.groups.now.items holds))

pub returns-in-Undef-clause-done : goal.returns-in-Undef-clause-done
returns-in-Undef-clause-done c = λ value path s turn before is holds directive left.
    let names = c.args.names.now in
    let begun = subst (λ task. IsDirective names value s (tok_of names c.args.hash.now) c.args.groups.now.items (Ok task) turn) c.in-Undef.is directive in
    nothing-left names path c.undef.new.self before c.args.groups.now.items turn c.undef.result c.with_nothing_left-in-Undef.result c.with_nothing_left-in-Undef.ensures
    (subst (λ found. IsDone names path c.undef.new.self c.args.groups.now.items c.undef.result found) (sym begun)
    (c.undef.ensures.done path s c.args.groups.now.items holds))

pub returns-in-Error-clause-done : goal.returns-in-Error-clause-done
returns-in-Error-clause-done c = λ value path s turn before is holds directive left.
    let names = c.args.names.now in
    let begun = subst (λ task. IsDirective names value s (tok_of names c.args.hash.now) c.args.groups.now.items (Ok task) turn) c.in-Error.is directive in
    nothing-left c.tell_error.new.names path c.tell_error.new.self before c.args.groups.now.items turn c.tell_error.result c.with_nothing_left-in-Error.result c.with_nothing_left-in-Error.ensures
    (subst (λ found. IsDone c.tell_error.new.names path c.tell_error.new.self c.args.groups.now.items c.tell_error.result found) (sym begun)
    (c.tell_error.ensures.done path s c.args.groups.now.items holds))
