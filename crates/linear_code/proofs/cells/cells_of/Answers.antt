-- A body is visited, and then node by node; where nothing is left to do, all cells are made.
use Rattle.std.proofs.Common.{◌≡◌, false, ◌<◌, ◌-◌, ◌++◌, ◌∷◌, [], List, ℕ, take, ap, ap₂, sym, subst, ◌∙◌, refl, length, arith}
use Rattle.std.proofs.lemmas.List.{length-map, nil_from_length}
use Rattle.meaning_typing.specs.Units.{node_at}
use Rattle.meaning_control.specs.Functions.{body_of, statement_of}
use Rattle.meaning_control.specs.Kinds.{Body}
use Rattle.meaning_control.specs.States.{ControlNodes, count_of, parts_of}
use Rattle.decl_judge.specs.Units.{nodes_of}
use Rattle.node_facts.specs.Facts.{name_seen}
use Rattle.control_cells.specs.Exits.{EachIsPartOnce}
use Rattle.control_cells.specs.Seen.{cell_seen, cells_seen, kind_seen}
use Rattle.control_cells.specs.Trees.{IsOneTree}
use Rattle.control_cells.specs.declared.cell.Cell.{Cell as KeptCell}
use Rattle.linear_code.specs.Cells.{node_where}
use Rattle.linear_code.specs.Known.{judged_unit}
use Rattle.linear_code.specs.Tasks.{Task, Finish, Visit, cells_behind, tasks_seen, turns_left, visits}
use Rattle.linear_code.specs.declared.cells.Task.{Task as KeptTask}
use Rattle.linear_code.proofs.CellLemmas.{are-parts-once, stand-behind-parts}
use Rattle.linear_code.proofs.ControlLemmas.{body-is, token-is}
use Rattle.linear_code.proofs.TaskLemmas.{taken-seen, turn-falls, turn-visit}
use Rattle.linear_code.proofs.TreeLemmas.{are-one-tree, tree-named}
use Rattle.linear_code.proofs.cells.cells_of.Goals as goal

pub tasks-init : goal.tasks-init
tasks-init g c =
    let known = g.J.ControlFacts.known c.args.facts.now in
    let judged = judged_unit c.args.unit.now known in
    let nodes = nodes_of c.args.unit.now in
    let function = c.args.function in
    let statement = statement_of judged function in
    let parts : ControlNodes = parts_of (body_of judged function) in
    let token : ℕ = (node_at nodes statement).token in
    let new : List Task = tasks_seen judged c.visit.new.tasks.items in
    let same : parts_of (node_where judged c.body_of-body.result false) ≡ parts =
    ap (λ at. parts_of (node_where judged at false)) (c.body_of-body.ensures known)
    ∙ sym (body-is c.args.unit.now known c.requires.whole c.each_node_stands_for_one_tree.ensures.order function c.requires.kind)
    in
    let given : new ≡ visits parts ++ Finish Body token (count_of parts) ∷ [] =
    c.in_ok-visit.ensures
    ∙ ap₂ (λ (at : ℕ) (own : ControlNodes). visits own ++ Finish Body (node_at nodes at).token (count_of own) ∷ tasks_seen judged c.new-tasks.result.items)
    (c.body_of-body.ensures known) same
    ∙ ap (λ (old : List KeptTask). visits parts ++ Finish Body token (count_of parts) ∷ tasks_seen judged old) c.new-tasks.ensures.items
    in
    record {
      all =
          ap₂ (λ (cells : List KeptCell) (roots : List ℕ). cells_behind new (cells_seen name_seen cells) roots) c.new-cells.ensures.items c.new-roots.ensures.items
          ∙ turn-visit [] new (body_of judged function) Body token refl refl given [] [];
      few = omega (arith, ap (λ (cells : List KeptCell). length cells) c.new-cells.ensures.items);
    }

pub tasks-smaller-in-Visit : goal.tasks-smaller-in-Visit
tasks-smaller-in-Visit g c =
    let judged = judged_unit c.args.unit.now (g.J.ControlFacts.known c.args.facts.now) in
    let front = c.pop.new.self.items in
    let token = (node_at (nodes_of c.args.unit.now) c.in-Visit.handle).token in
    let node = node_where judged c.in-Visit.handle c.in-Visit.is_tested in
    let new : List Task = tasks_seen judged c.visit-in-Visit.new.tasks.items in
    let taken : tasks_seen judged c.tasks.tasks.items ≡ Visit node ∷ tasks_seen judged front =
    taken-seen judged c.tasks.tasks.items front _ (c.in-Some.ensures.items ∙ ap (λ (task : KeptTask). front ++ task ∷ []) c.in-Visit.is)
    in
    subst (λ (tasks : List Task). turns_left new < turns_left tasks) (sym taken)
    (turn-falls (tasks_seen judged front) new node (kind_seen name_seen token c.control_kind-kind.result) token c.in_ok-visit-in-Visit.ensures)

pub tasks-preserved-in-Visit : goal.tasks-preserved-in-Visit
tasks-preserved-in-Visit g c =
    let known = g.J.ControlFacts.known c.args.facts.now in
    let judged = judged_unit c.args.unit.now known in
    let front = c.pop.new.self.items in
    let cells = cells_seen name_seen c.tasks.cells.items in
    let roots = c.tasks.roots.items in
    let handle = c.in-Visit.handle in
    let token = (node_at (nodes_of c.args.unit.now) handle).token in
    let node = node_where judged handle c.in-Visit.is_tested in
    let new : List Task = tasks_seen judged c.visit-in-Visit.new.tasks.items in
    let taken : tasks_seen judged c.tasks.tasks.items ≡ Visit node ∷ tasks_seen judged front =
    taken-seen judged c.tasks.tasks.items front _ (c.in-Some.ensures.items ∙ ap (λ (task : KeptTask). front ++ task ∷ []) c.in-Visit.is)
    in
    record {
      all =
          turn-visit (tasks_seen judged front) new node (kind_seen name_seen token c.control_kind-kind.result) token c.control_kind-kind.ensures
          (sym (token-is c.args.unit.now known c.requires.whole c.each_node_stands_for_one_tree.ensures.order handle c.in-Visit.is_tested))
          c.in_ok-visit-in-Visit.ensures cells roots
          ∙ ap (λ (tasks : List Task). cells_behind tasks cells roots) (sym taken)
          ∙ c.tasks.invariant.all;
      few = c.tasks.invariant.few;
    }

pub tasks-preserved : goal.tasks-preserved
tasks-preserved g c =
    let judged = judged_unit c.args.unit.now (g.J.ControlFacts.known c.args.facts.now) in
    let front = c.pop.new.self.items in
    let roots = c.tasks.roots.items in
    let token = c.in-Finish.token in
    let made = c.in_ok-finish-in-Finish.ensures in
    let own = Finish (kind_seen name_seen token c.in-Finish.kind) token c.in-Finish.parts in
    let taken : tasks_seen judged c.tasks.tasks.items ≡ own ∷ tasks_seen judged front =
    taken-seen judged c.tasks.tasks.items front _ (c.in-Some.ensures.items ∙ ap (λ (task : KeptTask). front ++ task ∷ []) c.in-Finish.is)
    in
    record {
      all =
          ap₂ (cells_behind (tasks_seen judged front)) made.cells
          (made.roots
          ∙ ap (λ (number : ℕ). take (length roots - c.in-Finish.parts) roots ++ number ∷ []) (sym (length-map c.tasks.cells.items (cell_seen name_seen))))
          ∙ ap (λ (tasks : List Task). cells_behind tasks (cells_seen name_seen c.tasks.cells.items) roots) (sym taken)
          ∙ c.tasks.invariant.all;
      few = made.few;
    }

pub returns-clause-before : goal.returns-clause-before
returns-clause-before g c =
    let judged = judged_unit c.args.unit.now (g.J.ControlFacts.known c.args.facts.now) in
    let none = nil_from_length c.tasks.tasks.items (omega (arith, c.in_default.ensures.cases.0)) in
    let made =
    ap (λ (tasks : List KeptTask). cells_behind (tasks_seen judged tasks) (cells_seen name_seen c.tasks.cells.items) c.tasks.roots.items) (sym none)
    ∙ c.tasks.invariant.all
    in
    stand-behind-parts name_seen c.tasks.cells.items (subst EachIsPartOnce (sym made) (are-parts-once (body_of judged c.args.function)))

pub returns-clause-tree : goal.returns-clause-tree
returns-clause-tree g c =
    let judged = judged_unit c.args.unit.now (g.J.ControlFacts.known c.args.facts.now) in
    let none = nil_from_length c.tasks.tasks.items (omega (arith, c.in_default.ensures.cases.0)) in
    let made =
    ap (λ (tasks : List KeptTask). cells_behind (tasks_seen judged tasks) (cells_seen name_seen c.tasks.cells.items) c.tasks.roots.items) (sym none)
    ∙ c.tasks.invariant.all
    in
    λ names. tree-named name_seen names c.tasks.cells.items (subst IsOneTree (sym made) (are-one-tree (body_of judged c.args.function)))
