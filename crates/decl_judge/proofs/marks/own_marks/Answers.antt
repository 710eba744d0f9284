use Rattle.std.proofs.Common.{◌≡◌, ◌-◌, IfOk, ap, sym, ◌∙◌, subst}
use Rattle.meaning_typing.specs.Declarators.{leading_lists, lists_before, lists_behind}
use Rattle.meaning_typing.specs.Specifiers as meaning
use Rattle.meaning_typing.specs.Units.{child_at, children_at, kind_at}
use Rattle.decl_judge.specs.Seen.{marks_over, marks_seen}
use Rattle.decl_judge.specs.Units.{nodes_of}
use Rattle.decl_judge.proofs.MarkLemmas.{over_append}
use Rattle.decl_judge.proofs.marks.own_marks.Goals as goal

pub returns : goal.returns
returns c =
    let nodes = nodes_of c.args.unit.now in
    let parent = c.args.parent in
    let behind = lists_behind nodes parent c.args.place in
    let handle : c.child_at-before.result ≡ child_at nodes parent (c.args.place - 1) =
    c.child_at-before.ensures ∙ ap (child_at nodes parent) c.saturating_sub.ensures in
    let before : marks_seen c.in_ok-marks.marks ≡ meaning.marks_among nodes (lists_before nodes parent c.args.place) =
    c.in_ok-marks.ensures ∙ ap (λ handle. meaning.marks_among nodes (leading_lists (kind_at nodes handle) (children_at nodes handle))) handle in
    subst (λ (meant : meaning.Marks). IfOk c.marks_behind_place.result (λ marks. marks_seen marks ≡ meant))
    (ap (λ marks. marks_over nodes marks behind) before ∙ sym (over_append nodes meaning.no_marks (lists_before nodes parent c.args.place) behind))
    c.marks_behind_place.ensures
