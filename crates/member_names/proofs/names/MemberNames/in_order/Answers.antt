use Rattle.std.proofs.Common.{◌≡◌, suc, ◌+◌, length, subst, arith}
use Rattle.std.proofs.lemmas.List.{length-map}
use Rattle.decl_judge.specs.Units.{named_node, nodes_of}
use Rattle.node_surroundings.specs.Seen.{surroundings_seen}
use Rattle.member_names.specs.Kept.{AreSeen, AreTwiceBelow}
use Rattle.member_names.proofs.NameLemmas.{all_twice}
use Rattle.member_names.proofs.names.MemberNames.in_order.Goals as goal

pub loop-handle-preserved : goal.loop-handle-preserved
loop-handle-preserved c =
    let nodes = nodes_of c.args.unit.now in
    let surroundings = surroundings_seen c.args.surroundings.now in
    let next : suc c.loop-handle.handle ≡ c.loop-handle.handle + 1 = omega arith in
    record {
      seen = subst (λ count. AreSeen nodes surroundings count c.add.new.keys.keys) next c.in_ok-add.ensures.seen;
      twice = subst (λ count. AreTwiceBelow nodes surroundings count c.add.new.self) next c.in_ok-add.ensures.twice;
    }

pub returns : goal.returns
returns c =
    let unit = c.args.unit.now in
    let nodes = nodes_of unit in
    let surroundings = surroundings_seen c.args.surroundings.now in
    let all : c.loop-handle.handle ≡ length nodes =
    omega (arith, c.loop-handle-test.false, c.loop-handle.auto.handle-end, c.len-handle-end.ensures.value, c.requires.whole, length-map unit.nodes named_node) in
    all_twice nodes surroundings c.loop-handle.names
    (subst (λ count. AreTwiceBelow nodes surroundings count c.loop-handle.names) all c.loop-handle.invariant.twice)
