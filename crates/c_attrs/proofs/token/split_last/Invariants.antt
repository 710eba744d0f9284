use Rattle.std.proofs.Common.{◌≡◌, length}
use Rattle.c_attrs.specs.Seen.{significant}
use Rattle.c_attrs.proofs.token.split_last.Given as goal

abbrev pub invariant-extensions : goal.invariant-extensions
invariant-extensions l = significant l.names l.rest ≡ significant l.names l.toks

abbrev pub decreases-extensions : goal.decreases-extensions
decreases-extensions l = length l.rest
