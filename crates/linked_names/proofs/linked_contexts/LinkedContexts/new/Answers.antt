-- Any table goes on from the empty one.
use Rattle.std.proofs.Common.{sym, subst}
use Rattle.c_types.specs.Table.{Extends}
use Rattle.linked_names.specs.declared.trace.DeclaredTrace.{DeclaredTrace}
use Rattle.linked_names.proofs.GrowthLemmas.{Extends-none}
use Rattle.linked_names.proofs.linked_contexts.LinkedContexts.new.Goals as goal

pub returns-clause-over : goal.returns-clause-over
returns-clause-over c = λ table. subst (λ (trace : DeclaredTrace). Extends trace.over table) (sym c.new-3.ensures) (Extends-none table)
