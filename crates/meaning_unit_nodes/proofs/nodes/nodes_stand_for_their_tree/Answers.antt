use Rattle.meaning_unit_nodes.specs.Numbered.{spellings_told, number_told}
use Rattle.meaning_unit_nodes.proofs.Behind.{tree-ordered}
use Rattle.meaning_unit_nodes.proofs.Naming.{nodes-named}
use Rattle.meaning_unit_nodes.proofs.Standing.{nodes_stand, nodes_are_laid}
use Rattle.meaning_unit_nodes.proofs.nodes.nodes_stand_for_their_tree.Goals as goal

pub returns-clause-stand : goal.returns-clause-stand
returns-clause-stand c = nodes_stand

pub returns-clause-laid : goal.returns-clause-laid
returns-clause-laid c = nodes_are_laid

pub returns-clause-behind : goal.returns-clause-behind
returns-clause-behind c tree = tree-ordered 0 tree

pub returns-clause-named : goal.returns-clause-named
returns-clause-named c toks tree = nodes-named (number_told (spellings_told toks)) 0 tree
