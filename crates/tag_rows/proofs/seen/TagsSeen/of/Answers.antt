use Rattle.std.proofs.Common.{◌≡◌, length, subst, arith}
use Rattle.std.proofs.lemmas.List.{length-map}
use Rattle.decl_judge.specs.Units.{named_node, nodes_of}
use Rattle.tag_rows.specs.Kept.{StandsForFirst}
use Rattle.tag_rows.proofs.seen.TagsSeen.of.Goals as goal

pub returns : goal.returns
returns c =
    let unit = c.args.unit.now in
    let all : c.loop-handle.handle ≡ length (nodes_of unit) =
    omega (arith, c.loop-handle-test.false, c.loop-handle.auto.handle-end, c.len-handle-end.ensures.value, c.requires, length-map unit.nodes named_node) in
    subst (λ count. StandsForFirst (nodes_of unit) count c.loop-handle.tags) all c.loop-handle.invariant
