use Rattle.std.proofs.Common.{sym, ◌∙◌}
use Rattle.c_directives.proofs.GroupLemmas.{closed-first}
use Rattle.c_directives.proofs.groups.outermost.Goals as goal

pub returns : goal.returns
returns c = λ s. closed-first s c.args.groups.now.items c.in-Some.group.now _ (sym c.as_slice.ensures.value ∙ c.in-Some.ensures.cases.0)
