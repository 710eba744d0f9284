-- The parts from the next one on are to be visited.
use Rattle.std.proofs.Common.{◌≡◌, ◌++◌, drop, map}
use Rattle.meaning_control.specs.Nodes.{JudgedUnit, parts_where}
use Rattle.linear_code.specs.Cells.{controls_in}
use Rattle.linear_code.specs.Tasks.{Visit, tasks_seen}
use Rattle.linear_code.proofs.cells.push_visits.Given as goal

abbrev pub invariant-loop-place : goal.invariant-loop-place
invariant-loop-place l =
    (unit : JudgedUnit)
    → tasks_seen unit l.tasks.items
    ≡ map Visit (parts_where (controls_in unit) l.kind l.is_tested l.place (drop l.place l.passed)) ++ tasks_seen unit l.initial.tasks.items
