-- No name was told before the first node, and each node tells its own.
use Rattle.std.proofs.Common.{◌≡◌, ℕ, suc, ◌+◌, length, ap, ◌∙◌, arith}
use Rattle.c_types.specs.Table.{TypeTable}
use Rattle.decl_judge.specs.Units.{nodes_of}
use Rattle.node_surroundings.specs.Seen.{surroundings_seen}
use Rattle.node_judge.specs.NamedTypes.{names_told, renamed, with_node}
use Rattle.node_judge.proofs.named_types.name_types.Goals as goal

pub loop-handle-init : goal.loop-handle-init
loop-handle-init c = ap (renamed c.args.types.now) c.requires.none

pub loop-handle-preserved : goal.loop-handle-preserved
loop-handle-preserved c =
    let nodes = nodes_of c.args.unit.now in
    let surroundings = surroundings_seen c.args.surroundings.now in
    let next : suc c.loop-handle.handle ≡ c.loop-handle.handle + 1 = omega arith in
    c.in_ok-name_type.ensures
    ∙ ap (λ (table : TypeTable). renamed table (with_node nodes surroundings c.loop-handle.handle table.names)) c.loop-handle.invariant
    ∙ ap (λ (count : ℕ). renamed c.args.types.now (names_told nodes surroundings count)) next

pub returns : goal.returns
returns c =
    let all : c.loop-handle.handle ≡ length c.args.unit.now.nodes =
    omega (arith, c.loop-handle-test.false, c.loop-handle.auto.handle-end, c.len-handle-end.ensures.value, c.requires.whole) in
    c.loop-handle.invariant
    ∙ ap (λ (count : ℕ). renamed c.args.types.now (names_told (nodes_of c.args.unit.now) (surroundings_seen c.args.surroundings.now) count)) all
