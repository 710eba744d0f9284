-- A line is answered as what it says is.
use Rattle.flows.proofs.LineLemmas.{line-answered, line-lacking}
use Rattle.flows.proofs.text.answer_line.Goals as goal

pub returns-clause-answer : goal.returns-clause-answer
returns-clause-answer c = line-answered c.args.text.now _ c.answer_flow.result c.in_ok-note.ensures.reads c.answer_flow.ensures.answer

pub returns-clause-fault : goal.returns-clause-fault
returns-clause-fault c = line-lacking c.args.text.now _ c.answer_flow.result c.in_ok-note.ensures.reads c.answer_flow.ensures.fault
