-- The node tells its name, if it names a type.
use Rattle.std.proofs.Common.{◌≡◌, OnOk, List, subst}
use Rattle.sparse_model.specs.declared.ids.NameId.{NameId}
use Rattle.c_tree.specs.Seen.{node_of}
use Rattle.c_types.specs.declared.bodies.Named.{Named}
use Rattle.node_surroundings.specs.Seen.{surroundings_seen}
use Rattle.node_judge.specs.NamedTypes.{renamed}
use Rattle.node_judge.proofs.NamedTypeLemmas.{node_tells}
use Rattle.node_judge.proofs.named_types.name_type.Goals as goal

pub returns : goal.returns
returns c =
    subst (λ (names : List (Named × NameId)). OnOk c.tell_name.result (c.tell_name.new.types ≡ renamed c.args.types.now names))
    (node_tells c.args.unit.now c.requires.whole (surroundings_seen c.args.surroundings.now) c.args.handle (node_of c.node.result.now) c.node.ensures
    c.in_ok-what.what c.in_ok-what.ensures c.args.types.now.names)
    c.tell_name.ensures
