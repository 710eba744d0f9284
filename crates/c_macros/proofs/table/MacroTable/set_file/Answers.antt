use Rattle.std.proofs.Common.{ap, sym, ◌∙◌}
use Rattle.std.proofs.lemmas.Bool.{ne_eqb}
use Rattle.c_macros.specs.Table.{Table, spelling_of_file}
use Rattle.c_macros.proofs.KnowsLemmas.{KnowsAll-set_file}
use Rattle.c_macros.proofs.table.MacroTable.set_file.Goals as goal

pub returns-clause-spelled : goal.returns-clause-spelled
returns-clause-spelled c = c.in_ok-insert.ensures.updates.1

pub returns-clause-others : goal.returns-clause-others
returns-clause-others c = λ other apart.
    c.in_ok-insert.ensures.updates.2 other (ne_eqb c.args.file other (λ same. apart (sym same)))
    ∙ ap (λ table. spelling_of_file table other) c.self.view_is

pub returns-clause-known : goal.returns-clause-known
returns-clause-known c = λ names knows known.
    KnowsAll-set_file names c.args.self.now _ c.args.file c.args.spelled (returns-clause-spelled c) (returns-clause-others c)
    (ap (λ (table : Table). table.macros) c.self.view_is) knows known
