-- What stands at the place is what stands in a surrounding of it.
use Rattle.std.proofs.Common.{◌||◌, sym, ap, ◌∙◌}
use Rattle.meaning_typing.specs.Units.{child_at, children_at}
use Rattle.decl_judge.specs.Units.{nodes_of}
use Rattle.declared_contexts.specs.Sums.{attributes_standing}
use Rattle.judged_objects.specs.Noreturn.{has_noreturn, has_specifier}
use Rattle.judged_objects.proofs.noreturn.says_noreturn.Goals as goal

pub returns : goal.returns
returns c = λ surrounding parent place.
    let nodes = nodes_of c.args.unit.now in
    ap (λ has. has || c.in_attributes-listed.result) (c.has_specifier_below-specified.ensures ∙ ap (λ handle. has_specifier nodes (children_at nodes handle)) c.child_at.ensures)
    ∙ ap (λ has. has_specifier nodes (children_at nodes (child_at nodes c.args.parent 0)) || has) c.in_attributes-listed.ensures
    ∙ (λ i. has_specifier nodes (children_at nodes (child_at nodes (sym parent i) 0))
    || has_noreturn nodes (attributes_standing nodes c.args.declarator (sym parent i) (sym place i)))
