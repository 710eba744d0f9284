-- Each node in its turn.
use Rattle.std.proofs.Common.{◌≡◌, ℕ, ◌+◌, ◌-◌, ◌<◌, length, sym, ap, subst, ◌∙◌, arith, length-set}
use Rattle.std.specs.Prelude.{slice_set}
use Rattle.std.proofs.lemmas.List.{length-map, length-replicate}
use Rattle.meaning_typing.specs.Surroundings.{Surrounding}
use Rattle.decl_judge.specs.Units.{named_node, nodes_of}
use Rattle.node_surroundings.specs.Seen.{surrounding_seen, surroundings_seen}
use Rattle.statement_judge.specs.Enclosing.{enclosing_next, nothing_above}
use Rattle.statement_judge.proofs.EnclosingLemmas.{AreFrom, none_from, one_more_from}
use Rattle.statement_judge.proofs.pass.enclosings_of.Goals as goal

pub loop-handle-init : goal.loop-handle-init
loop-handle-init c =
    let nodes = nodes_of c.args.unit.now in
    let kept = c.in_ok-enclosings.enclosings in
    record {
      are =
          none_from nodes (surroundings_seen c.args.surroundings.now) c.len-count.result kept
          (omega (arith, c.len-count.ensures.value, c.requires.whole, length-map c.args.unit.now.nodes named_node)) c.in_ok-enclosings.ensures;
      all = ap length c.in_ok-enclosings.ensures ∙ length-replicate c.len-count.result nothing_above;
    }

pub loop-handle-preserved : goal.loop-handle-preserved
loop-handle-preserved c =
    let nodes = nodes_of c.args.unit.now in
    let surroundings = surroundings_seen c.args.surroundings.now in
    let count = length-map c.args.unit.now.nodes named_node in
    let first = c.loop-handle.handle in
    let handle = first - 1 in
    let kept = c.loop-handle.enclosings in
    let later = c.enclose.new.enclosings in
    let next : first ≡ handle + 1 = omega arith in
    let set : later ≡ slice_set kept handle (enclosing_next nodes (surrounding_seen c.get.result) handle kept) = c.in_ok-enclose.ensures in
    let standing = ap (λ (s : Surrounding). slice_set kept handle (enclosing_next nodes s handle kept)) c.get.ensures.seen in
    record {
      are =
          one_more_from nodes surroundings handle kept later
          (length-map c.args.surroundings.now surrounding_seen ∙ c.requires.surroundings ∙ sym count)
          (omega (arith, c.loop-handle.invariant.all, c.len-count.ensures.value, c.requires.whole, count))
          (omega (arith, c.len-count.ensures.value, c.requires.whole, count)) (set ∙ standing)
          (subst (λ (n : ℕ). AreFrom nodes surroundings n kept) next c.loop-handle.invariant.are);
      all = ap length set ∙ length-set kept handle (enclosing_next nodes (surrounding_seen c.get.result) handle kept) ∙ c.loop-handle.invariant.all;
    }
