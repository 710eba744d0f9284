use Rattle.std.proofs.Common.{subst}
use Rattle.c_tokens.specs.Spellings.{AreApart}
use Rattle.c_tokens.proofs.TableLemmas.{AreApart-keys}
use Rattle.c_tokens.proofs.names.Names.apart.Goals as goal

pub returns-clause-apart : goal.returns-clause-apart
returns-clause-apart c = subst AreApart c.self.view_is (AreApart-keys (λ key. key.items) c.self.inside.set.keys c.as_slice-set.ensures.unique)
