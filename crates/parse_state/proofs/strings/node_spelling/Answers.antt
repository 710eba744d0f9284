-- The name of a node is that of its tree.
use Rattle.std.proofs.Common.{sym, ◌∙◌}
use Rattle.c_tree.specs.Seen.{node_of}
use Rattle.parse_state.proofs.LiteralLengths.{node_name_known, node_name-seen}
use Rattle.parse_state.proofs.strings.node_spelling.Goals as goal

pub spelling-requires : goal.spelling-requires
spelling-requires c = node_name_known c.args.names.now c.args.unit.now c.args.handle (node_of c.node.result.now) c.requires.known c.node.ensures

pub returns : goal.returns
returns c =
    c.spelling.ensures.seen
    ∙ sym (node_name-seen c.args.names.now c.args.unit.now c.requires.first c.each_node_stands_for_one_tree.ensures.order c.args.handle (node_of c.node.result.now) c.node.ensures)
