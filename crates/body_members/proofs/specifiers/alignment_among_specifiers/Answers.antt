use Rattle.std.proofs.Common.{false, max, sym, ap, ◌∙◌}
use Rattle.meaning_typing.specs.MemberDeclarations.{alignment_among, attributes_apart, attributes_in, is_still_behind}
use Rattle.meaning_typing.specs.Units.{kind_at}
use Rattle.decl_judge.specs.Units.{handles_of, nodes_of}
use Rattle.body_members.proofs.AlignmentLemmas.{over_append, over_one}
use Rattle.body_members.proofs.specifiers.alignment_among_specifiers.Goals as goal

pub loop-specifier-init : goal.loop-specifier-init
loop-specifier-init c =
    let nodes = nodes_of c.args.unit.now in
    over_one nodes (attributes_apart nodes false (handles_of c.into_iter-specifier-iterator.result))
    ∙ ap (λ children. alignment_among nodes (attributes_apart nodes false (handles_of children)))
    (c.into_iter-specifier-iterator.ensures.into_iter_gives ∙ c.iter-specifier-items.ensures.pairs)

pub loop-specifier-preserved : goal.loop-specifier-preserved
loop-specifier-preserved c =
    let nodes = nodes_of c.args.unit.now in
    let specifier = c.in-Some.specifier in
    let largest = c.loop-specifier.largest in
    let behind = c.loop-specifier.is_behind_body in
    let others = handles_of c.next.new.self in
    let rest = attributes_apart nodes (is_still_behind nodes behind (kind_at nodes specifier) specifier) others in
    ap (λ after. max c.alignment_of_specifier-largest.result (alignment_among nodes (attributes_apart nodes after others))) c.is_still_behind-is_behind_body.ensures
    ∙ ap (λ largest. max largest (alignment_among nodes rest)) c.alignment_of_specifier-largest.ensures
    ∙ over_append nodes largest (attributes_in nodes behind (kind_at nodes specifier) specifier) rest
    ∙ ap (λ children. max largest (alignment_among nodes (attributes_apart nodes behind (handles_of children)))) (sym c.in-Some.ensures.steps)
    ∙ c.loop-specifier.invariant
