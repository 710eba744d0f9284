use Rattle.std.proofs.Common.{nat_lt, reverse, ap, ◌∙◌}
use Rattle.meaning_scopes.specs.Scopes.{is_open}
use Rattle.c_scope.proofs.StackLemmas.{opened_in-open}
use Rattle.c_scope.proofs.scopes.Scopes.is_open.Goals as goal

pub returns : goal.returns
returns c = ap (nat_lt 0) c.self.invariant.opened_at ∙ opened_in-open (reverse c.self.inside.slots.items) ∙ ap is_open c.self.view_is
