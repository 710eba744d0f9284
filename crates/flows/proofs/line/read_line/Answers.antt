-- Blocks that aren't read.
use Rattle.flows.specs.Lines.{line_at}
use Rattle.flows.specs.Answers.{IsReadingOf}
use Rattle.flows.proofs.LineLemmas.{blocks-unread, handed-on}
use Rattle.flows.proofs.line.read_line.Goals as goal

pub returns-in_err-rest-clause-fails : goal.returns-in_err-rest-clause-fails
returns-in_err-rest-clause-fails c =
    handed-on (IsReadingOf (line_at c.args.text.now)) _ c.from_residual.result c.from_residual.ensures.1
    (blocks-unread c.args.text.now c.behind_spaces.result.now _ c.behind_spaces.ensures.text c.in_err-rest.ensures.fails)
