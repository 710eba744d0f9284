-- With one part that stands twice, and without.
use Rattle.std.proofs.Common.{◌++◌, ◌∷◌, [], List, true, get_or, ap, ap₂, sym, ◌∙◌, map, append_assoc}
use Rattle.std.proofs.lemmas.Result.{on_ok_weaker}
use Rattle.meaning_control.specs.Nodes.{tests}
use Rattle.linear_code.specs.Cells.{node_where}
use Rattle.linear_code.specs.Tasks.{Task, Visit, tasks_seen}
use Rattle.linear_code.proofs.TaskLemmas.{next-seen, once-is, parts_from, twice-is}
use Rattle.linear_code.proofs.cells.push_parts.Goals as goal
use Rattle.linear_code.proofs.cells.push_parts.Goals.{then-stands_twice+in_ok-push, else-stands_twice}

pub returns : goal.returns
returns c =
    elim c.if-stands_twice.branch [
      | then-stands_twice+in_ok-push w ↦
          on_ok_weaker c.push_visits.result
          (λ each unit.
          let parts = parts_from unit c.args.kind c.args.is_tested 0 c.args.passed.now in
          let old = tasks_seen unit c.args.tasks.now.items in
          let again : Task = Visit (node_where unit (get_or c.args.passed.now 1 0) (tests c.args.kind c.args.is_tested 1 true)) in
          each unit
          ∙ ap (λ (tasks : List Task). map Visit parts ++ tasks)
          (ap (λ vec. tasks_seen unit vec.items) w.tasks-is ∙ ap (tasks_seen unit) w.in_ok-push.ensures.items ∙ next-seen unit c.args.tasks.now.items _
          ∙ ap (λ test. Visit (node_where unit (get_or c.args.passed.now 1 0) test) ∷ old) w.is_condition-again.ensures)
          ∙ sym (append_assoc (map Visit parts) (again ∷ []) old)
          ∙ ap (λ (front : List Task). front ++ old)
          (sym (twice-is unit c.args.kind c.args.is_tested c.args.passed.now (sym c.stands_twice.ensures ∙ w.if-stands_twice.true))))
          c.push_visits.ensures
      | else-stands_twice w ↦
          on_ok_weaker c.push_visits.result
          (λ each unit.
          each unit
          ∙ ap₂ (λ nodes (tasks : List Task). map Visit nodes ++ tasks)
          (sym (once-is unit c.args.kind c.args.is_tested c.args.passed.now (sym c.stands_twice.ensures ∙ w.if-stands_twice.false)))
          (ap (λ vec. tasks_seen unit vec.items) w.tasks-is))
          c.push_visits.ensures
    ]
