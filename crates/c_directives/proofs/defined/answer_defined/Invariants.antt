use Rattle.std.proofs.Common.{◌≡◌, List, length}
use Rattle.meaning_macros.specs.Macros.{Definition}
use Rattle.meaning_preprocessing.specs.ConditionLines.{Nothing, answered}
use Rattle.c_tokens.specs.Seen.{toks_of}
use Rattle.c_directives.specs.Conditions.{AreKnown, HasMacros, IsKnownWaiting, waiting_seen}
use Rattle.c_directives.proofs.ConditionLemmas.{answers_before}
use Rattle.c_directives.proofs.defined.answer_defined.Given as goal

-- the answers so far and those to come are all
abbrev pub invariant-tokens : goal.invariant-tokens
invariant-tokens l =
    record {
      same : (definitions : List Definition) → HasMacros l.names definitions l.macros →
          answers_before (toks_of l.names l.done.items) (answered definitions (waiting_seen l.names l.waiting) (toks_of l.names l.left)) ≡ answered definitions Nothing (toks_of l.names l.line);
      done : AreKnown l.names l.done.items;
      left : AreKnown l.names l.left;
      waiting : IsKnownWaiting l.names l.waiting;
    }

abbrev pub decreases-tokens : goal.decreases-tokens
decreases-tokens l = length l.left
