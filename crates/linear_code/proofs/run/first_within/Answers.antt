-- Down to the least child of the least child, and so on.
use Rattle.std.proofs.Common.{None, ap, sym, ◌∙◌, arith}
use Rattle.meaning_tree.specs.Laid.{itself}
use Rattle.linear_code.specs.Run.{least_from}
use Rattle.linear_code.proofs.RunLemmas.{next-begins, next-falls, next-within, run-begins}
use Rattle.linear_code.proofs.run.first_within.Goals as goal

pub down-init : goal.down-init
down-init c = record { inside = c.requires.root; within = itself; begun = λ part within below. within }

pub down-smaller : goal.down-smaller
down-smaller c =
    let is = ap (least_from None) c.children.ensures.2 ∙ sym c.least_child.ensures ∙ c.in-Some.is in
    next-falls c.args.unit.now c.requires.whole c.each_node_stands_for_one_tree.ensures.order c.requires.laid c.each_node_stands_for_one_tree.ensures.trees
    c.down.first c.in-Some.least c.children.ensures.0 c.children.ensures.1 is

pub down-preserved : goal.down-preserved
down-preserved c =
    let unit = c.args.unit.now in
    let order = c.each_node_stands_for_one_tree.ensures.order in
    let trees = c.each_node_stands_for_one_tree.ensures.trees in
    let was = c.down.invariant in
    let node = c.children.ensures.0 in
    let has = c.children.ensures.1 in
    let is = ap (least_from None) c.children.ensures.2 ∙ sym c.least_child.ensures ∙ c.in-Some.is in
    record {
      inside = omega (arith, was.inside, next-falls unit c.requires.whole order c.requires.laid trees c.down.first c.in-Some.least node has is);
      within = next-within unit c.requires.whole order c.requires.laid trees c.args.root c.down.first c.in-Some.least node has is was.within;
      begun = next-begins unit c.requires.whole order c.requires.laid trees c.args.root c.down.first c.in-Some.least node c.requires.root has is was.within was.begun;
    }

pub returns : goal.returns
returns c =
    let is = ap (least_from None) c.children.ensures.2 ∙ sym c.least_child.ensures ∙ c.in_default.is in
    run-begins c.args.unit.now c.requires.whole c.each_node_stands_for_one_tree.ensures.order c.requires.laid c.each_node_stands_for_one_tree.ensures.trees
    c.args.root c.down.first c.children.ensures.0 c.requires.root c.children.ensures.1 is c.down.invariant.within c.down.invariant.begun
