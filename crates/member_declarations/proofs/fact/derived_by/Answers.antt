use Rattle.std.proofs.Common.{◌≡◌, Some, None, Option, IfSome, option_map, sym, ap, ◌∙◌, subst}
use Rattle.std.specs.Option.{option_and_then}
use Rattle.sparse_model.specs.declared.ids.TypeId.{TypeId}
use Rattle.meaning_typing.specs.Declarators as meaning
use Rattle.meaning_typing.specs.Units.{children_at, kind_at}
use Rattle.c_types.specs.Table.{IsTypeId, type_at}
use Rattle.node_facts.specs.Facts.{nodes_seen}
use Rattle.node_facts.proofs.GrowthLemmas.{joins_on, nodes_later}
use Rattle.decl_judge.specs.Units.{handles_of, nodes_of}
use Rattle.member_declarations.proofs.fact.derived_by.Goals as goal

pub loop-part-preserved : goal.loop-part-preserved
loop-part-preserved c =
    let old = c.args.types.now in
    let middle = c.loop-part.types in
    let new = c.derived.new.types in
    let nodes = nodes_of c.args.unit.now in
    let kept = c.args.facts.now in
    let facts = nodes_seen old kept in
    let token = c.args.token in
    let part = c.in-Some.part in
    let of = type_at middle c.loop-part.made in
    let others = meaning.derived_by nodes facts token (handles_of c.next.new.self) in
    let made : Some (type_at new c.in-Some-2.next) ≡ meaning.derived nodes facts token (kind_at nodes part) (children_at nodes part) of =
    sym (ap (option_map (type_at new)) c.in-Some-2.is)
    ∙ c.in_ok-next.ensures.made
    ∙ ap (λ known. meaning.derived nodes known token (kind_at nodes part) (children_at nodes part) of)
    (nodes_later old middle c.loop-part.invariant.keeps kept c.requires.facts) in
    record {
      made = subst (λ (found : Option TypeId). IfSome found (IsTypeId new)) c.in-Some-2.is c.in_ok-next.ensures.known;
      keeps = joins_on old middle new c.loop-part.invariant.keeps c.in_ok-next.ensures.keeps;
      derived =
          ap (option_and_then others) made
          ∙ ap (λ parts. meaning.derived_by nodes facts token (handles_of parts) of) (sym c.in-Some.ensures.steps)
          ∙ c.loop-part.invariant.derived;
    }

pub returns-in-None-2-clause-made : goal.returns-in-None-2-clause-made
returns-in-None-2-clause-made c =
    let old = c.args.types.now in
    let middle = c.loop-part.types in
    let nodes = nodes_of c.args.unit.now in
    let kept = c.args.facts.now in
    let facts = nodes_seen old kept in
    let token = c.args.token in
    let part = c.in-Some.part in
    let of = type_at middle c.loop-part.made in
    let made : None ≡ meaning.derived nodes facts token (kind_at nodes part) (children_at nodes part) of =
    sym (ap (option_map (type_at c.derived.new.types)) c.in-None-2.is)
    ∙ c.in_ok-next.ensures.made
    ∙ ap (λ known. meaning.derived nodes known token (kind_at nodes part) (children_at nodes part) of)
    (nodes_later old middle c.loop-part.invariant.keeps kept c.requires.facts) in
    ap (option_and_then (meaning.derived_by nodes facts token (handles_of c.next.new.self))) made
    ∙ ap (λ parts. meaning.derived_by nodes facts token (handles_of parts) of) (sym c.in-Some.ensures.steps)
    ∙ c.loop-part.invariant.derived
