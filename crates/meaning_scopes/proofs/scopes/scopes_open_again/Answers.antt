use Rattle.std.proofs.Common.{◌∷◌}
use Rattle.meaning_scopes.specs.Scopes.{Opened}
use Rattle.meaning_scopes.proofs.Opening.{without_scope-entries, opens_again}
use Rattle.meaning_scopes.proofs.scopes.scopes_open_again.Goals as goal

pub returns-clause-leaves : goal.returns-clause-leaves
returns-clause-leaves g c = λ items entries. without_scope-entries (Opened ∷ items) entries

pub returns-clause-again : goal.returns-clause-again
returns-clause-again g c = opens_again
