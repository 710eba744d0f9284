use Rattle.std.proofs.Common.{◌+◌, option_map, ap, sym, ◌∙◌, arith}
use Rattle.meaning_rules.specs.Rules.{least_broken, lesser}
use Rattle.meaning_typing.specs.Specifiers.{attributes_among, attributes_of}
use Rattle.meaning_typing.specs.Tags.{bitwise_words}
use Rattle.meaning_typing.specs.Units.{children_at, kind_at}
use Rattle.decl_judge.specs.Seen.{lists_from}
use Rattle.decl_judge.specs.Units.{nodes_of}
use Rattle.decl_judge.proofs.MarkLemmas.{from_capped, from_list, from_other}
use Rattle.expression_rows.specs.Rows.{broken_seen}
use Rattle.declaration_rows.proofs.BitwiseLemmas.{words_more}
use Rattle.declaration_rows.proofs.LeastLemmas.{lesser_none}
use Rattle.declaration_rows.proofs.bitwise.words_after.Goals as goal

pub loop-next-init : goal.loop-next-init
loop-next-init c =
    let nodes = nodes_of c.args.unit.now in
    ap (λ lists. lesser (option_map broken_seen c.args.least) (least_broken (bitwise_words nodes (attributes_among nodes lists))))
    (from_capped nodes c.args.children.now c.saturating_add-next.result (c.args.place + 1) (omega (arith, c.len-next-end.ensures.value, c.len-next-end.ensures.small))
    c.saturating_add-next.ensures)

pub returns-in-None : goal.returns-in-None
returns-in-None c =
    let nodes = nodes_of c.args.unit.now in
    let least = option_map broken_seen c.loop-next.least in
    sym (lesser_none least)
    ∙ ap (λ lists. lesser least (least_broken (bitwise_words nodes (attributes_among nodes lists))))
    (sym (from_other nodes c.args.children.now c.loop-next.next c.get.result c.get.ensures.value (sym c.in-None.ensures.list)))
    ∙ c.loop-next.invariant

pub loop-next-preserved : goal.loop-next-preserved
loop-next-preserved c =
    let nodes = nodes_of c.args.unit.now in
    let children = c.args.children.now in
    let list = c.get.result.0 in
    let least = option_map broken_seen c.loop-next.least in
    let rest = attributes_among nodes (lists_from nodes children (c.loop-next.next + 1)) in
    ap (λ least. lesser least (least_broken (bitwise_words nodes rest)))
    (c.words_among-least.ensures ∙ ap (λ attributes. lesser least (least_broken (bitwise_words nodes attributes))) c.in-Some.ensures.attributes)
    ∙ words_more nodes least (attributes_of (kind_at nodes list) (children_at nodes list)) rest
    ∙ ap (λ lists. lesser least (least_broken (bitwise_words nodes (attributes_among nodes lists))))
    (sym (from_list nodes children c.loop-next.next c.get.result c.get.ensures.value (sym c.in-Some.ensures.list)))
    ∙ c.loop-next.invariant
