use Rattle.std.proofs.Common.{◌≡◌, ℕ, List, IfOk, true, false, ap, sym, ◌∙◌, subst}
use Rattle.meaning_typing.specs.Specifiers.{marks_behind}
use Rattle.meaning_typing.specs.Tags.{is_tagged}
use Rattle.meaning_typing.specs.Units.{children_at, kind_at}
use Rattle.decl_judge.specs.Seen.{marks_seen}
use Rattle.decl_judge.specs.Units.{nodes_of}
use Rattle.tag_rows.proofs.AttributeLemmas.{other_attributes, tagged_attributes}
use Rattle.tag_rows.proofs.attributes.marks_with_specifier.Goals as goal

pub returns-then-is_tagged : goal.returns-then-is_tagged
returns-then-is_tagged c =
    let nodes = nodes_of c.args.unit.now in
    let kind = kind_at nodes c.args.handle in
    let is : is_tagged kind ≡ true = sym (c.is_tagged.ensures ∙ ap is_tagged c.kind_at.ensures) ∙ c.if-is_tagged.true in
    subst (λ (attributes : List ℕ). IfOk c.marks_with_below.result (λ after. marks_seen after ≡ marks_behind nodes (marks_seen c.args.marks) attributes))
    (sym (tagged_attributes nodes kind (children_at nodes c.args.handle) is)) c.marks_with_below.ensures

pub returns-else-is_tagged : goal.returns-else-is_tagged
returns-else-is_tagged c =
    let nodes = nodes_of c.args.unit.now in
    let kind = kind_at nodes c.args.handle in
    let is : is_tagged kind ≡ false = sym (c.is_tagged.ensures ∙ ap is_tagged c.kind_at.ensures) ∙ c.if-is_tagged.false in
    subst (λ (attributes : List ℕ). IfOk c.marks_with_list.result (λ after. marks_seen after ≡ marks_behind nodes (marks_seen c.args.marks) attributes))
    (sym (other_attributes nodes kind (children_at nodes c.args.handle) is)) c.marks_with_list.ensures
