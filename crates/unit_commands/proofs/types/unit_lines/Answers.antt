-- Before the first node nothing is known, and nodes stand in the surroundings of the unit.
use Rattle.std.proofs.lemmas.Result.{IfOk-weaker}
use Rattle.decl_judge.specs.Units.{nodes_of}
use Rattle.node_facts.specs.Facts.{name_seen}
use Rattle.node_surroundings.specs.Seen.{surroundings_seen}
use Rattle.unit_commands.proofs.types.unit_lines.Goals as goal

pub returns : goal.returns
returns c =
    IfOk-weaker c.known_lines-text.result _ _
    (λ text lines. record { surroundings = surroundings_seen c.in_ok-surroundings.surroundings; are = c.in_ok-surroundings.ensures.exact name_seen; lines = lines })
    c.known_lines-text.ensures
