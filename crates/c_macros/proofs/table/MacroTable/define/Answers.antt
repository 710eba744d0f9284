use Rattle.std.proofs.Common.{◌∙◌, Some, sym, ap, refl}
use Rattle.c_macros.proofs.TableLemmas.{differ, redefines-None, redefines-agreeing, redefines-other, defined_as-Some, defined_as-None, Ok-Err, Memory-Redefined}
use Rattle.c_macros.specs.Table.{Table, macro_at}
use Rattle.c_macros.proofs.KnowsLemmas.{KnowsAll-define}
use Rattle.c_macros.proofs.table.MacroTable.define.Goals as goal

pub returns-then-agrees-clause-defined : goal.returns-then-agrees-clause-defined
returns-then-agrees-clause-defined c =
    defined_as-Some _ c.in-Some.entry.now c.args.m (ap (λ table. macro_at table c.args.name) (sym c.self.view_is) ∙ sym c.in-Some.ensures.value)

pub returns-then-agrees-clause-redefined : goal.returns-then-agrees-clause-redefined
returns-then-agrees-clause-redefined c = (
  λ told. absurd (Ok-Err told),
  λ other. absurd (redefines-agreeing _ c.definition.result.now c.args.m
      (ap (λ table. macro_at table c.args.name) (sym c.self.view_is) ∙ sym c.in-Some.ensures.value ∙ ap Some (sym c.definition.ensures))
      (sym c.agrees.ensures ∙ c.if-agrees.true) other),
)

pub returns-in-Some-clause-redefined : goal.returns-in-Some-clause-redefined
returns-in-Some-clause-redefined c = (
  λ told. redefines-other _ c.definition.result.now c.args.m
      (ap (λ table. macro_at table c.args.name) (sym c.self.view_is) ∙ sym c.in-Some.ensures.value ∙ ap Some (sym c.definition.ensures))
      (sym c.agrees.ensures ∙ c.if-agrees.false),
  λ other. refl,
)

pub returns-in_err-insert-clause-redefined : goal.returns-in_err-insert-clause-redefined
returns-in_err-insert-clause-redefined c = (
  λ told. absurd (Memory-Redefined c.from_residual-in_err-insert.result c.from_residual-in_err-insert.ensures.1 told),
  λ other. absurd (redefines-None _ c.args.m (ap (λ table. macro_at table c.args.name) (sym c.self.view_is) ∙ sym c.in_default.ensures.value) other),
)

pub returns-clause-redefined : goal.returns-clause-redefined
returns-clause-redefined c = (
  λ told. absurd (Ok-Err told),
  λ other. absurd (redefines-None _ c.args.m (ap (λ table. macro_at table c.args.name) (sym c.self.view_is) ∙ sym c.in_default.ensures.value) other),
)

pub returns-clause-others : goal.returns-clause-others
returns-clause-others c = λ other apart.
    c.in_ok-insert.ensures.updates.2 other (differ c.args.name other apart)
    ∙ ap (λ table. macro_at table other) c.self.view_is

pub returns-clause-defined : goal.returns-clause-defined
returns-clause-defined c =
    c.in_ok-insert.ensures.updates.1 ∙ ap Some c.in_ok-entry.ensures
    ∙ defined_as-None _ c.args.m (ap (λ table. macro_at table c.args.name) (sym c.self.view_is) ∙ sym c.in_default.ensures.value)

pub returns-in_err-insert-clause-memory : goal.returns-in_err-insert-clause-memory
returns-in_err-insert-clause-memory c = λ told. ap (λ table. macro_at table c.args.name) (sym c.self.view_is) ∙ sym c.in_default.ensures.value

pub returns-in_err-entry-clause-redefined : goal.returns-in_err-entry-clause-redefined
returns-in_err-entry-clause-redefined c = (
  λ told. absurd (Memory-Redefined c.from_residual.result c.from_residual.ensures.1 told),
  λ other. absurd (redefines-None _ c.args.m (ap (λ table. macro_at table c.args.name) (sym c.self.view_is) ∙ sym c.in_default.ensures.value) other),
)

pub returns-in_err-entry-clause-memory : goal.returns-in_err-entry-clause-memory
returns-in_err-entry-clause-memory c = λ told. ap (λ table. macro_at table c.args.name) (sym c.self.view_is) ∙ sym c.in_default.ensures.value

pub returns-clause-known : goal.returns-clause-known
returns-clause-known c = λ names knows known known_m.
    KnowsAll-define names c.args.self.now _ c.args.name c.args.m (returns-clause-defined c) (returns-clause-others c)
    (ap (λ (table : Table). table.files) c.self.view_is) knows known known_m
