use Rattle.std.proofs.Common.{ap, sym, ◌∙◌}
use Rattle.meaning_preprocessing.specs.Search.{wants_slash}
use Rattle.c_directives.proofs.SearchLemmas.{wants-last}
use Rattle.c_directives.proofs.search.wants_slash.Goals as goal

pub returns : goal.returns
returns c = sym (wants-last c.in-Some.field-0-1.now c.in-Some.field-0-0.now) ∙ ap wants_slash (sym c.in-Some.ensures.cases.0)
