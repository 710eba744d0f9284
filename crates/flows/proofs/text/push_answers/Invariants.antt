use Rattle.std.proofs.Common.{List, ℕ, Option, ◌+◌, ◌≤◌, length}
use Rattle.flows.specs.declared.wrong.Place.{Place}
use Rattle.flows.specs.Answers.{Shows}
use Rattle.flows.proofs.text.push_answers.Given as goal

abbrev pub invariant-lines : goal.invariant-lines
invariant-lines l =
    record {
      on : (after : List ℕ) (stop : Option Place) → Shows l.number l.shown.items l.rest after stop → Shows 1 l.fn.shown.items l.text after stop;
      within : length l.rest ≤ length l.text;
      number : l.number + length l.rest ≤ 1 + length l.text;
    }

abbrev pub decreases-lines : goal.decreases-lines
decreases-lines l = length l.rest
