-- What is made, and what is left to do, makes all cells.
use Rattle.std.proofs.Common.{◌≡◌, ◌≤◌, length}
use Rattle.node_facts.specs.Facts.{name_seen}
use Rattle.meaning_control.specs.Functions.{body_of}
use Rattle.control_cells.specs.Numbers.{most_cells}
use Rattle.control_cells.specs.Seen.{cells_seen}
use Rattle.linear_code.specs.Cells.{cells_of}
use Rattle.linear_code.specs.Known.{judged_unit}
use Rattle.linear_code.specs.Tasks.{cells_behind, tasks_seen, turns_left}
use Rattle.linear_code.proofs.cells.cells_of.Given as goal

abbrev pub invariant-tasks : goal.invariant-tasks
invariant-tasks g l =
    record {
      all :
          cells_behind (tasks_seen (judged_unit l.unit (g.J.ControlFacts.known l.facts)) l.tasks.items) (cells_seen name_seen l.cells.items) l.roots.items
          ≡ cells_of (body_of (judged_unit l.unit (g.J.ControlFacts.known l.facts)) l.function);
      few : length l.cells.items ≤ most_cells;
    }

abbrev pub decreases-tasks : goal.decreases-tasks
decreases-tasks g l = turns_left (tasks_seen (judged_unit l.unit (g.J.ControlFacts.known l.facts)) l.tasks.items)
