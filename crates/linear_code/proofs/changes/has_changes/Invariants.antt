-- No node so far changes counts.
use Rattle.std.proofs.Common.{◌≡◌, ◌<◌, ◌≤◌, ℕ, false}
use Rattle.meaning_typing.specs.Units.{kind_at}
use Rattle.decl_judge.specs.Units.{nodes_of}
use Rattle.linear_code.specs.Changes.{changes}
use Rattle.linear_code.specs.Known.{judged_unit}
use Rattle.linear_code.proofs.changes.has_changes.Given as goal

abbrev pub invariant-loop-handle : goal.invariant-loop-handle
invariant-loop-handle g l =
    (k : ℕ) → l.first ≤ k → k < l.handle
    → changes (judged_unit l.unit (g.J.ControlFacts.known l.facts)) k (kind_at (nodes_of l.unit) k) ≡ false
