-- By what the node initializes.
use Rattle.std.proofs.Common.{◌≡◌, refl, sym, ap, subst, ◌∙◌}
use Rattle.vocabulary.specs.declared.error_kind.ErrorKind.TheVariants.{ExtraInitializer, IncompleteType}
use Rattle.meaning_initialized.specs.Initialized.{Incomplete, Initialized, NoObject, NoPlace, initialized_at}
use Rattle.meaning_initialized.specs.Rows.{IsRowOf}
use Rattle.meaning_typing.specs.Rows.{breaks, breaks_at, nothing}
use Rattle.meaning_typing.specs.Units.{node_at}
use Rattle.c_types.specs.Layouts.{told_in}
use Rattle.decl_judge.specs.Units.{nodes_of}
use Rattle.declaration_judge.specs.Kept.{facts_seen}
use Rattle.declaration_judge.proofs.DeclarationLemmas.{tells_nothing}
use Rattle.expr_judge.proofs.TellingLemmas.{tells_only}
use Rattle.node_facts.proofs.GrowthLemmas.{joins_none}
use Rattle.node_surroundings.specs.Seen.{surroundings_seen}
use Rattle.initialized_judge.specs.Objects.{object_seen}
use Rattle.initialized_judge.proofs.judging.judge_initialized.Goals as goal

pub returns-in-NoObject-clause-says : goal.returns-in-NoObject-clause-says
returns-in-NoObject-clause-says c =
    let nodes = nodes_of c.args.unit.now in
    let surroundings = surroundings_seen c.args.surroundings.now in
    let kept = c.args.kept.now in
    let table = kept.types in
    let told = told_in table in
    let known = facts_seen kept in
    let handle = c.args.handle in
    let what : NoObject ≡ initialized_at told nodes surroundings known handle =
    sym (ap (object_seen table) c.in-NoObject.is) ∙ c.initialized_at-of.ensures.seen in (
      nothing,
      subst (λ (of : Initialized). IsRowOf told nodes surroundings known handle of nothing) what refl,
      tells_nothing table c.args.found.now c.known.result c.known.ensures,
    )

pub returns-in-NoPlace-clause-says : goal.returns-in-NoPlace-clause-says
returns-in-NoPlace-clause-says c =
    let nodes = nodes_of c.args.unit.now in
    let surroundings = surroundings_seen c.args.surroundings.now in
    let kept = c.args.kept.now in
    let table = kept.types in
    let told = told_in table in
    let known = facts_seen kept in
    let handle = c.args.handle in
    let what : NoPlace ≡ initialized_at told nodes surroundings known handle =
    sym (ap (object_seen table) c.in-NoPlace.is) ∙ c.initialized_at-of.ensures.seen in
    let row = breaks (breaks_at ExtraInitializer (node_at nodes c.initializing_part-init.result).token) in (
      row,
      subst (λ (of : Initialized). IsRowOf told nodes surroundings known handle of row) what
          (ap (λ h. breaks (breaks_at ExtraInitializer (node_at nodes h).token)) c.initializing_part-init.ensures),
      tells_only table table c.args.found.now c.breaks.result row (c.breaks.ensures table) (joins_none table),
    )

pub returns-in-Incomplete-clause-says : goal.returns-in-Incomplete-clause-says
returns-in-Incomplete-clause-says c =
    let nodes = nodes_of c.args.unit.now in
    let surroundings = surroundings_seen c.args.surroundings.now in
    let kept = c.args.kept.now in
    let table = kept.types in
    let told = told_in table in
    let known = facts_seen kept in
    let handle = c.args.handle in
    let what : Incomplete ≡ initialized_at told nodes surroundings known handle =
    sym (ap (object_seen table) c.in-Incomplete.is) ∙ c.initialized_at-of.ensures.seen in
    let row = breaks (breaks_at IncompleteType (node_at nodes handle).token) in (
      row,
      subst (λ (of : Initialized). IsRowOf told nodes surroundings known handle of row) what refl,
      tells_only table table c.args.found.now c.breaks-in-Incomplete.result row (c.breaks-in-Incomplete.ensures table) (joins_none table),
    )
