use Rattle.std.proofs.Common.{Ok, subst, sym}
use Rattle.meaning_preprocessing.specs.Groups.{elif_turn}
use Rattle.c_tokens.specs.Seen.{tok_of, toks_of}
use Rattle.c_directives.specs.Directives.{IsDirective}
use Rattle.c_directives.specs.Groups.{IsElifBegun, groups_seen}
use Rattle.c_directives.proofs.directive.elif_task.Goals as goal

pub returns-in-Ok-Asked-clause-done : goal.returns-in-Ok-Asked-clause-done
returns-in-Ok-Asked-clause-done c = λ value s has.
    let names = c.args.names.now in
    let hash = tok_of names c.args.hash.now in
    let line = toks_of names c.args.line.now in
    let begun = subst (λ part. IsElifBegun names value hash line s c.begin_elif.new.groups.items (Ok part) (elif_turn value hash line (groups_seen c.args.groups.now.items) s))
    c.in-Ok-Asked.field-0-is (c.in-Ok-Asked.ensures names value hash line s) in
    subst (IsDirective names value s hash c.begin_elif.new.groups.items c.elif_condition.result) (sym begun) (c.elif_condition.ensures.done value s has)

pub returns-in-Ok-Skipped-clause-done : goal.returns-in-Ok-Skipped-clause-done
returns-in-Ok-Skipped-clause-done c = λ value s has.
    let names = c.args.names.now in
    let hash = tok_of names c.args.hash.now in
    let line = toks_of names c.args.line.now in
    subst (λ part. IsElifBegun names value hash line s c.begin_elif.new.groups.items (Ok part) (elif_turn value hash line (groups_seen c.args.groups.now.items) s))
    c.in-Ok-Skipped.field-0-is (c.in-Ok-Skipped.ensures names value hash line s)

pub returns-in-Ok-Asked-clause-left : goal.returns-in-Ok-Asked-clause-left
returns-in-Ok-Asked-clause-left c = c.elif_condition.ensures.left (groups_seen c.args.groups.now.items)
