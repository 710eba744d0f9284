use Rattle.parse_state.specs.Seen.{state_of}
use Rattle.c_decl.proofs.Appending.{list_below}
use Rattle.c_decl.proofs.attributes.append_node.Goals as goal

pub append_made-requires-clause-list : goal.append_made-requires-clause-list
append_made-requires-clause-list c = list_below (state_of c.args.state.now).values c.requires.finds
