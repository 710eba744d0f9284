use Rattle.meaning_control.proofs.Contexts.{function_without}
use Rattle.meaning_control.proofs.control.functions_without_contexts_change_nothing.Goals as goal

pub returns : goal.returns
returns c = λ unit function is_among are among. function_without unit is_among are function among
