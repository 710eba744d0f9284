use Rattle.std.proofs.Common.{List, true, false, ap, ◌∙◌}
use Rattle.meaning_answer.specs.Requests.{classes_on}
use Rattle.ksparse.specs.declared.option.Switch.{Switch}
use Rattle.ksparse.specs.Options.{switches_seen}
use Rattle.ksparse.specs.Reading.{reading_seen}
use Rattle.ksparse.proofs.Classes.{on_once}
use Rattle.ksparse.proofs.ReadingLemmas.{asked_by}
use Rattle.ksparse.proofs.reading.Reading.into_command.Goals as goal

pub returns-then-for_tokens-clause-command : goal.returns-then-for_tokens-clause-command
returns-then-for_tokens-clause-command c =
    let on = c.in_ok-classes_on.ensures ∙ ap (λ (switches : List Switch). classes_on (switches_seen switches)) c.deref.ensures.value in
    asked_by (reading_seen c.args.self) true c.dirs.inside.items.items c.from_vec.result c.in_ok-classes_on.field-0 c.in-Some.file c.if-for_tokens.true c.dirs.view_is
    c.from_vec.ensures on c.in-Some.is

pub returns-then-for_tokens-clause-once : goal.returns-then-for_tokens-clause-once
returns-then-for_tokens-clause-once c =
    let on = c.in_ok-classes_on.ensures ∙ ap (λ (switches : List Switch). classes_on (switches_seen switches)) c.deref.ensures.value in
    on_once (switches_seen c.args.self.switches.items) c.in_ok-classes_on.field-0 on

pub returns-clause-command : goal.returns-clause-command
returns-clause-command c =
    let on = c.in_ok-classes_on.ensures ∙ ap (λ (switches : List Switch). classes_on (switches_seen switches)) c.deref.ensures.value in
    asked_by (reading_seen c.args.self) false c.dirs.inside.items.items c.from_vec.result c.in_ok-classes_on.field-0 c.in-Some.file c.if-for_tokens.false c.dirs.view_is
    c.from_vec.ensures on c.in-Some.is

pub returns-clause-once : goal.returns-clause-once
returns-clause-once c =
    let on = c.in_ok-classes_on.ensures ∙ ap (λ (switches : List Switch). classes_on (switches_seen switches)) c.deref.ensures.value in
    on_once (switches_seen c.args.self.switches.items) c.in_ok-classes_on.field-0 on
