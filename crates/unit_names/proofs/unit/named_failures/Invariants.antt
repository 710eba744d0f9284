-- The failures so far are those of the tokens so far.
use Rattle.std.proofs.Common.{◌≡◌, List, take}
use Rattle.c_tokens.specs.declared.token.Token.{Token}
use Rattle.c_preproc.specs.Units.{failures_from}
use Rattle.unit_names.proofs.unit.named_failures.Given as goal

abbrev pub invariant-loop-index : goal.invariant-loop-index
invariant-loop-index l = (others : List Token) → l.failures ≡ failures_from 0 others → l.list.items ≡ failures_from 0 (take l.index l.tokens)
