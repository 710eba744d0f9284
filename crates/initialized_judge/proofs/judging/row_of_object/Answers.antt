-- The object gets its completed type, or it is refused.
use Rattle.std.proofs.Common.{ℕ, [], ap, subst, ◌∙◌}
use Rattle.meaning_initialized.specs.Initialized.{initializing_part}
use Rattle.meaning_initialized.specs.Rows.{passed_unless}
use Rattle.meaning_rules.specs.Rules.{least_token}
use Rattle.meaning_typing.specs.Units.{node_at}
use Rattle.c_types.specs.Layouts.{told_in}
use Rattle.c_types.specs.Table.{type_at}
use Rattle.decl_judge.specs.Units.{nodes_of}
use Rattle.declaration_judge.specs.Kept.{facts_seen}
use Rattle.declaration_judge.proofs.KeptLemmas.{kept_later}
use Rattle.node_surroundings.specs.Seen.{surroundings_seen}
use Rattle.initialized_judge.specs.declared.making.Made.{Made}
use Rattle.initialized_judge.specs.declared.making.Made.TheVariants as kinds
use Rattle.initialized_judge.specs.Judging.{IsMade}
use Rattle.initialized_judge.proofs.JudgingLemmas.{appends_none}
use Rattle.initialized_judge.proofs.RowLemmas.{tells_completed, tells_refused}
use Rattle.initialized_judge.proofs.judging.row_of_object.Goals as goal

pub completed-requires-clause-kept : goal.completed-requires-clause-kept
completed-requires-clause-kept c =
    kept_later c.args.kept.now c.make.new.kept c.in_ok-complete.ensures.keeps (nodes_of c.args.unit.now) (surroundings_seen c.args.surroundings.now)
    c.requires.kept

pub returns-in_ok-fact-in-Complete-clause-says : goal.returns-in_ok-fact-in-Complete-clause-says
returns-in_ok-fact-in-Complete-clause-says c =
    let nodes = nodes_of c.args.unit.now in
    let surroundings = surroundings_seen c.args.surroundings.now in
    let old = c.args.kept.now in
    let new = c.make.new.kept in
    let object = type_at old.types c.args.object in
    let complete = c.in-Complete.complete in
    let found : IsMade nodes surroundings (facts_seen old) object c.args.is_static (initializing_part nodes c.args.handle) new.types c.args.found.now
    c.make.new.found (kinds.Complete complete) =
    subst
    (λ (init : ℕ). IsMade nodes surroundings (facts_seen old) object c.args.is_static init new.types c.args.found.now c.make.new.found (kinds.Complete complete))
    c.initializing_part-init.ensures
    (subst
    (λ (one : Made).
    IsMade nodes surroundings (facts_seen old) object c.args.is_static c.initializing_part-init.result new.types c.args.found.now c.make.new.found one)
    c.in-Complete.is c.in_ok-complete.ensures.made) in
    let passed =
    c.passed.ensures
    ∙ ap (λ h. least_token (passed_unless (told_in new.types) (node_at nodes h).token (type_at new.types complete) [])) c.initializing_part-init.ensures in
    tells_completed nodes surroundings old new c.args.handle object c.args.is_static c.in_ok-complete.ensures.keeps c.requires.kept.whole found.0 found.1 found.2
    complete found.3 c.args.found.now c.make.new.found c.completed.new.found found.5 c.in_ok-fact-in-Complete.fact c.in_ok-fact-in-Complete.ensures.fact
    c.in_ok-fact-in-Complete.ensures.known c.in_ok-fact-in-Complete.ensures.failures c.passed.result passed

pub returns-in-Refused-clause-says : goal.returns-in-Refused-clause-says
returns-in-Refused-clause-says c =
    let nodes = nodes_of c.args.unit.now in
    let surroundings = surroundings_seen c.args.surroundings.now in
    let old = c.args.kept.now in
    let new = c.make.new.kept in
    let object = type_at old.types c.args.object in
    let broken = c.in-Refused.broken in
    let found : IsMade nodes surroundings (facts_seen old) object c.args.is_static (initializing_part nodes c.args.handle) new.types c.args.found.now
    c.make.new.found (kinds.Refused broken) =
    subst
    (λ (init : ℕ). IsMade nodes surroundings (facts_seen old) object c.args.is_static init new.types c.args.found.now c.make.new.found (kinds.Refused broken))
    c.initializing_part-init.ensures
    (subst
    (λ (one : Made).
    IsMade nodes surroundings (facts_seen old) object c.args.is_static c.initializing_part-init.result new.types c.args.found.now c.make.new.found one)
    c.in-Refused.is c.in_ok-complete.ensures.made) in
    tells_refused nodes surroundings old new c.args.handle object c.args.is_static c.in_ok-complete.ensures.keeps c.requires.kept.whole found.0 found.1 broken found.2
    c.args.found.now c.make.new.found found.3 (appends_none new.types c.args.found.now)
