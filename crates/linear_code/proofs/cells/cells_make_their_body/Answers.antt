-- Each node's own cell stands behind those of its parts, and none is left over.
use Rattle.linear_code.proofs.CellLemmas.{make-body}
use Rattle.linear_code.proofs.TreeLemmas.{are-one-tree}
use Rattle.linear_code.proofs.cells.cells_make_their_body.Goals as goal

pub returns : goal.returns
returns c = λ body. (make-body body, are-one-tree body)
