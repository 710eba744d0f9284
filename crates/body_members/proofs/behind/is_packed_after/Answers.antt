use Rattle.std.proofs.Common.{◌+◌, ◌||◌, ap, sym, ◌∙◌}
use Rattle.meaning_typing.specs.Specifiers.{attributes_among}
use Rattle.decl_judge.specs.Seen.{lists_from}
use Rattle.decl_judge.specs.Units.{handles_of, nodes_of}
use Rattle.decl_judge.proofs.MarkLemmas.{from_other}
use Rattle.body_members.specs.Seen.{are_packed}
use Rattle.body_members.proofs.PackedLemmas.{packed_from}
use Rattle.body_members.proofs.behind.is_packed_after.Goals as goal

pub returns-then-is_packed_among : goal.returns-then-is_packed_among
returns-then-is_packed_among c =
    let nodes = nodes_of c.args.unit.now in
    let children = c.args.children.now in
    let next = c.loop-next.next in
    let others = are_packed nodes (attributes_among nodes (lists_from nodes children (next + 1))) in
    ap (λ here. here || others) (sym c.if-is_packed_among.true ∙ c.is_packed_among.ensures)
    ∙ sym (packed_from nodes children next c.get.result (handles_of c.in-Some.attributes.now) c.get.ensures.value (sym c.in-Some.ensures.list) c.in-Some.ensures.attributes)
    ∙ c.loop-next.invariant

pub returns-in-None : goal.returns-in-None
returns-in-None c =
    let nodes = nodes_of c.args.unit.now in
    ap (λ lists. are_packed nodes (attributes_among nodes lists))
    (sym (from_other nodes c.args.children.now c.loop-next.next c.get.result c.get.ensures.value (sym c.in-None.ensures.list)))
    ∙ c.loop-next.invariant

pub loop-next-preserved : goal.loop-next-preserved
loop-next-preserved c =
    let nodes = nodes_of c.args.unit.now in
    let children = c.args.children.now in
    let next = c.loop-next.next in
    let others = are_packed nodes (attributes_among nodes (lists_from nodes children (next + 1))) in
    ap (λ here. here || others) (sym c.if-is_packed_among.false ∙ c.is_packed_among.ensures)
    ∙ sym (packed_from nodes children next c.get.result (handles_of c.in-Some.attributes.now) c.get.ensures.value (sym c.in-Some.ensures.list) c.in-Some.ensures.attributes)
    ∙ c.loop-next.invariant
