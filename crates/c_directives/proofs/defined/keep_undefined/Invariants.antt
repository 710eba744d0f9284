use Rattle.std.proofs.Common.{◌≡◌, ◌++◌, filter, length}
use Rattle.c_directives.specs.Conditions.{is_left_identifier}
use Rattle.c_directives.proofs.defined.keep_undefined.Given as goal

-- those so far and those to come are all
abbrev pub invariant-tokens : goal.invariant-tokens
invariant-tokens l = l.undefined.items ++ filter is_left_identifier l.left ≡ l.fn.undefined.items ++ filter is_left_identifier l.tokens

abbrev pub decreases-tokens : goal.decreases-tokens
decreases-tokens l = length l.left
