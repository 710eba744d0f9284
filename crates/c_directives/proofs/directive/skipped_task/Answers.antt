use Rattle.std.proofs.Common.{ap, sym}
use Rattle.meaning_preprocessing.specs.Groups.{Turns}
use Rattle.c_directives.proofs.directive.skipped_task.Goals as goal

pub returns-in-Ok-clause-done : goal.returns-in-Ok-clause-done
returns-in-Ok-clause-done c = λ value s. ap (λ open_groups. Turns open_groups s) (sym (c.in-Ok.ensures.opened c.args.names.now))
