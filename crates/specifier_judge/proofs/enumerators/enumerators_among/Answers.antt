use Rattle.std.proofs.Common.{[], ◌∷◌, ◌++◌, sym, ap, subst, ◌∙◌, append-nil}
use Rattle.meaning_typing.specs.EnumRows.{enumerators_among}
use Rattle.decl_judge.specs.Units.{handles_of, nodes_of}
use Rattle.enum_rows.specs.Enumerations.{StandsFor}
use Rattle.node_facts.specs.Facts.{nodes_seen}
use Rattle.specifier_judge.proofs.PartLemmas.{taken-more}
use Rattle.specifier_judge.proofs.enumerators.enumerators_among.Goals as goal

pub loop-child-init : goal.loop-child-init
loop-child-init c =
    let nodes = nodes_of c.args.unit.now in
    let facts = nodes_seen c.args.types.now c.args.facts.now in (
      [],
      c.none-taken.ensures,
      ap (λ children. enumerators_among nodes facts (handles_of children)) (c.into_iter-child-iterator.ensures.into_iter_gives ∙ c.iter-child-items.ensures.pairs),
    )

pub loop-child-preserved : goal.loop-child-preserved
loop-child-preserved c =
    let nodes = nodes_of c.args.unit.now in
    let facts = nodes_seen c.args.types.now c.args.facts.now in
    let child = c.in-Some.child in
    let before = c.loop-child.invariant in (
      before.0 ++ enumerators_among nodes facts (child ∷ []),
      c.with_child-taken.ensures before.0 before.1,
      taken-more nodes facts before.0 child (handles_of c.next.new.self) (enumerators_among nodes facts (handles_of c.args.children.now))
          (ap (λ children. before.0 ++ enumerators_among nodes facts (handles_of children)) (sym c.in-Some.ensures.steps) ∙ before.2),
    )

pub returns : goal.returns
returns c =
    let nodes = nodes_of c.args.unit.now in
    let facts = nodes_seen c.args.types.now c.args.facts.now in
    let before = c.loop-child.invariant in
    subst (StandsFor c.loop-child.taken)
    (sym (append-nil before.0)
    ∙ ap (λ children. before.0 ++ enumerators_among nodes facts (handles_of children)) (sym c.in-None.ensures.steps.0)
    ∙ before.2)
    before.1
