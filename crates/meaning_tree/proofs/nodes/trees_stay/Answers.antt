use Rattle.meaning_tree.proofs.Standing.{StandsFor-grows, StandFor-grows, StandsFor-grown}
use Rattle.meaning_tree.proofs.nodes.trees_stay.Goals as goal

pub returns-clause-stay : goal.returns-clause-stay
returns-clause-stay g c = StandsFor-grows

pub returns-clause-parts_stay : goal.returns-clause-parts_stay
returns-clause-parts_stay g c = StandFor-grows

pub returns-clause-none_come : goal.returns-clause-none_come
returns-clause-none_come g c = StandsFor-grown
