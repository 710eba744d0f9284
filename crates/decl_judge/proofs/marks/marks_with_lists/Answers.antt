use Rattle.std.proofs.Common.{ap, sym, ◌∙◌}
use Rattle.decl_judge.specs.Seen.{marks_over, marks_seen}
use Rattle.decl_judge.specs.Units.{handles_of, nodes_of}
use Rattle.decl_judge.proofs.MarkLemmas.{over_cons}
use Rattle.decl_judge.proofs.marks.marks_with_lists.Goals as goal

pub loop-child-preserved : goal.loop-child-preserved
loop-child-preserved c =
    let nodes = nodes_of c.args.unit.now in
    let rest = handles_of c.next.new.self in
    ap (λ marks. marks_over nodes marks rest) c.in_ok-after.ensures
    ∙ sym (over_cons nodes (marks_seen c.loop-child.after) c.in-Some.child rest)
    ∙ ap (λ children. marks_over nodes (marks_seen c.loop-child.after) (handles_of children)) (sym c.in-Some.ensures.steps)
    ∙ c.loop-child.invariant
