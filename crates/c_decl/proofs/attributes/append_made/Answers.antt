use Rattle.parse_state.specs.Seen.{state_of}
use Rattle.parse_state.specs.Sources.{made_tree}
use Rattle.c_decl.proofs.Appending.{made_covers}
use Rattle.c_decl.proofs.attributes.append_made.Goals as goal

pub collect-requires : goal.collect-requires
collect-requires c =
    let s = state_of c.args.state.now in
    record { covers = made_covers s (state_of c.make.new.self) c.args.shape.now.takes (made_tree c.args.shape.now s.values) c.in_ok-make.ensures.goes c.requires.list }
