use Rattle.meaning_reached.proofs.Answering.{graph_has_an_answer}
use Rattle.meaning_reached.proofs.Points.{body_has_an_answer}
use Rattle.meaning_reached.proofs.Calls.{function_has_an_answer}
use Rattle.meaning_reached.proofs.reached.control_paths_have_an_answer.Goals as goal

pub returns-clause-graphs : goal.returns-clause-graphs
returns-clause-graphs c = graph_has_an_answer

pub returns-clause-bodies : goal.returns-clause-bodies
returns-clause-bodies c = body_has_an_answer

pub returns-clause-functions : goal.returns-clause-functions
returns-clause-functions c = function_has_an_answer
