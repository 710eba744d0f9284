use Rattle.meaning_tree.proofs.Standing.{StandsFor-unique, StandFor-unique, tree_exists}
use Rattle.meaning_tree.proofs.nodes.each_node_stands_for_one_tree.Goals as goal

pub returns-clause-unique : goal.returns-clause-unique
returns-clause-unique g c = StandsFor-unique

pub returns-clause-unique_parts : goal.returns-clause-unique_parts
returns-clause-unique_parts g c = StandFor-unique

pub returns-clause-exist : goal.returns-clause-exist
returns-clause-exist g c = tree_exists
