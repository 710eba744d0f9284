use Rattle.std.proofs.Common.{ap, sym, ◌∙◌}
use Rattle.meaning_typing.specs.Specifiers.{marks_behind}
use Rattle.meaning_typing.specs.Tags.{attributes_of_specifiers, tag_attributes}
use Rattle.meaning_typing.specs.Units.{children_at, kind_at}
use Rattle.decl_judge.specs.Seen.{marks_seen}
use Rattle.decl_judge.specs.Units.{handles_of, nodes_of}
use Rattle.decl_judge.proofs.MarkLemmas.{behind_append}
use Rattle.tag_rows.proofs.attributes.marks_of_specifiers.Goals as goal

pub loop-child-preserved : goal.loop-child-preserved
loop-child-preserved c =
    let nodes = nodes_of c.args.unit.now in
    let child = c.in-Some.child in
    let marks = marks_seen c.loop-child.marks in
    let rest = attributes_of_specifiers nodes (handles_of c.next.new.self) in
    ap (λ marks. marks_behind nodes marks rest) c.in_ok-marks.ensures
    ∙ sym (behind_append nodes marks (tag_attributes nodes (kind_at nodes child) (children_at nodes child)) rest)
    ∙ ap (λ children. marks_behind nodes marks (attributes_of_specifiers nodes (handles_of children))) (sym c.in-Some.ensures.steps)
    ∙ c.loop-child.invariant
