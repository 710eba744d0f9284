use Rattle.meaning_tree.proofs.Standing.{StandsFor-joined_front, StandsFor-joined_part}
use Rattle.meaning_tree.proofs.nodes.trees_stay_in_joined_lists.Goals as goal

pub returns-clause-in_front : goal.returns-clause-in_front
returns-clause-in_front g c = StandsFor-joined_front

pub returns-clause-behind : goal.returns-clause-behind
returns-clause-behind g c = StandsFor-joined_part
