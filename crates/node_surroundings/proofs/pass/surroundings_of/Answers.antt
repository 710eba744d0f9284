-- Each node tells its parts in its turn.
use Rattle.std.proofs.Common.{◌≡◌, ℕ, ◌-◌, List, [], length, replicate, ap, ◌∙◌, arith}
use Rattle.std.proofs.lemmas.List.{length-map, length-replicate}
use Rattle.sparse_model.specs.declared.ids.NameId.{NameId}
use Rattle.c_tree.specs.Seen.{node_of}
use Rattle.meaning_typing.specs.Surroundings.{of_unit}
use Rattle.node_surroundings.specs.Seen.{named_nodes, surrounding_seen, surroundings_seen}
use Rattle.node_surroundings.proofs.ListLemmas.{map-replicate}
use Rattle.node_surroundings.proofs.PassLemmas.{AreAsked, none_asked}
use Rattle.node_surroundings.proofs.UnitLemmas.{length-named, next_asked}
use Rattle.node_surroundings.proofs.pass.surroundings_of.Goals as goal

pub loop-handle-init : goal.loop-handle-init
loop-handle-init c =
    let unit = c.args.unit.now in
    let count = c.len-count.result in
    let root : c.saturating_sub-root.result ≡ count - 1 = omega arith in
    record {
      asked = λ names.
          none_asked (named_nodes names unit) count (surroundings_seen c.in_ok-surroundings.surroundings)
          (omega (arith, c.len-count.ensures.value, c.requires.whole, length-named names unit))
          (ap surroundings_seen c.in_ok-surroundings.ensures ∙ map-replicate surrounding_seen count c.of_unit.result
          ∙ ap (replicate count) (c.of_unit.ensures ∙ ap of_unit root));
      all = ap length c.in_ok-surroundings.ensures ∙ length-replicate count c.of_unit.result;
    }

pub ask_parts-requires-clause-before : goal.ask_parts-requires-clause-before
ask_parts-requires-clause-before c =
    λ k d below. (c.each_node_stands_for_one_tree.ensures.order (c.loop-handle.handle - 1) (node_of c.node-node.result.now) c.node-node.ensures k d below).1

pub loop-handle-preserved : goal.loop-handle-preserved
loop-handle-preserved c =
    let asked : (names : NameId → List ℕ) → AreAsked (named_nodes names c.args.unit.now) (c.loop-handle.handle - 1) (surroundings_seen c.ask_parts.new.surroundings) = λ names.
    next_asked names c.args.unit.now c.requires.whole c.requires.laid c.each_node_stands_for_one_tree.ensures.order
    (surroundings_seen c.loop-handle.surroundings) (surroundings_seen c.ask_parts.new.surroundings) c.loop-handle.handle (node_of c.node-node.result.now)
    (omega arith) c.node-node.ensures c.in_ok-ask_parts.ensures (c.loop-handle.invariant.asked names)
    in
    record {
      asked = asked;
      all =
          omega (
            arith,
            (asked (λ _. [])).all,
            length-map c.ask_parts.new.surroundings surrounding_seen,
            length-named (λ _. []) c.args.unit.now,
            c.len-count.ensures.value,
            c.requires.whole,
          );
    }
