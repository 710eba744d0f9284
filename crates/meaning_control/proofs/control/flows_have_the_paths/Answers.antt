use Rattle.meaning_control.proofs.Flows.{has_the_paths}
use Rattle.meaning_control.proofs.control.flows_have_the_paths.Goals as goal

pub returns : goal.returns
returns c = λ cells root brace closing tables graph body is are flow. has_the_paths cells root brace closing tables graph are flow body is
