use Rattle.std.proofs.Common.{ap, ◌∙◌, is_some}
use Rattle.c_macros.proofs.TableLemmas.{differ}
use Rattle.c_macros.specs.Table.{Table, macro_at}
use Rattle.c_macros.proofs.KnowsLemmas.{KnowsAll-undef}
use Rattle.c_macros.proofs.table.MacroTable.undef.Goals as goal

pub returns-clause-found : goal.returns-clause-found
returns-clause-found c = c.is_some.ensures ∙ ap is_some (c.swap_remove.ensures.value ∙ ap (λ table. macro_at table c.args.name) c.self.view_is)

pub returns-clause-dropped : goal.returns-clause-dropped
returns-clause-dropped c = c.swap_remove.ensures.updates.1

pub returns-clause-others : goal.returns-clause-others
returns-clause-others c = λ other apart.
    c.swap_remove.ensures.updates.2 other (differ c.args.name other apart)
    ∙ ap (λ table. macro_at table other) c.self.view_is

pub returns-clause-known : goal.returns-clause-known
returns-clause-known c = λ names knows.
    KnowsAll-undef names c.args.self.now _ c.args.name (returns-clause-dropped c) (returns-clause-others c)
    (ap (λ (table : Table). table.files) c.self.view_is) knows
