-- One node more.
use Rattle.std.proofs.Common.{◌≡◌, ◌+◌, ◌<◌, List, [], ◌∷◌, ◌++◌, length, take, sym, ap, ◌∙◌, subst, arith}
use Rattle.std.proofs.lemmas.List.{length-map, length-take-le, map-append, take_all, take_more}
use Rattle.meaning_typing.specs.Facts as meaning
use Rattle.decl_judge.specs.Units.{nodes_of}
use Rattle.node_facts.specs.declared.fact.NodeFact.TheVariants as facts
use Rattle.node_facts.specs.declared.fact.NodeFact.{NodeFact}
use Rattle.node_facts.specs.Facts.{node_seen, nodes_seen}
use Rattle.node_surroundings.specs.Seen.{surrounding_seen, surroundings_seen}
use Rattle.judged_objects.specs.Kept.{AreObjects}
use Rattle.judged_objects.proofs.pass.objects_of.Goals as goal

pub loop-handle-init : goal.loop-handle-init
loop-handle-init c = λ table. c.new-objects.ensures (nodes_of c.args.unit.now) (surroundings_seen c.args.surroundings.now)

pub loop-handle-preserved : goal.loop-handle-preserved
loop-handle-preserved c = λ table.
    let nodes = nodes_of c.args.unit.now in
    let stood = c.args.surroundings.now in
    let surroundings = surroundings_seen stood in
    let kept = c.args.facts.now in
    let index = c.loop-handle.handle in
    let front = take index kept in
    let here : length (nodes_seen table front) ≡ index =
    length-map front (node_seen table) ∙ length-take-le index kept (omega (arith, c.loop-handle-test.true, c.len-handle-end.ensures)) in
    let within : index < length surroundings =
    omega (arith, c.loop-handle-test.true, c.len-handle-end.ensures, c.requires.surroundings, length-map stood surrounding_seen) in
    let next : nodes_seen table front ++ node_seen table c.at.result ∷ [] ≡ nodes_seen table (take (index + 1) kept) =
    sym (map-append (node_seen table) front (c.at.result ∷ []))
    ∙ ap (nodes_seen table)
    (ap (λ (fact : NodeFact). front ++ fact ∷ []) c.at.ensures
    ∙ sym (take_more kept index facts.Unknown (omega (arith, c.loop-handle-test.true, c.len-handle-end.ensures)))) in
    subst (λ (known : List meaning.Fact). AreObjects nodes surroundings known c.add.new.self) next
    (c.in_ok-add.ensures table surroundings (nodes_seen table front) here within (sym c.get.ensures.seen) (c.loop-handle.invariant table))

pub returns : goal.returns
returns c = λ table.
    subst (λ (known : List NodeFact). AreObjects (nodes_of c.args.unit.now) (surroundings_seen c.args.surroundings.now) (nodes_seen table known) c.loop-handle.objects)
    (take_all c.loop-handle.handle c.args.facts.now (omega (arith, c.loop-handle-test.false, c.len-handle-end.ensures)))
    (c.loop-handle.invariant table)
