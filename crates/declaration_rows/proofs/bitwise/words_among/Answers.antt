use Rattle.std.proofs.Common.{[], option_map, if◌then◌else◌, sym, ap, ◌∙◌}
use Rattle.vocabulary.specs.declared.error_kind.ErrorKind.TheVariants.{BitwiseOnNoInteger}
use Rattle.meaning_rules.specs.Rules.{least_broken, lesser}
use Rattle.meaning_typing.specs.Rows.{breaks_at}
use Rattle.meaning_typing.specs.Tags.{bitwise_words, is_bitwise_word}
use Rattle.meaning_typing.specs.Units.{kind_at, node_at}
use Rattle.decl_judge.specs.Units.{handles_of, nodes_of}
use Rattle.expression_rows.specs.Rows.{broken_seen}
use Rattle.declaration_rows.proofs.LeastLemmas.{least_more}
use Rattle.declaration_rows.proofs.bitwise.words_among.Goals as goal

pub loop-attribute-preserved : goal.loop-attribute-preserved
loop-attribute-preserved c =
    let nodes = nodes_of c.args.unit.now in
    let attribute = c.in-Some.attribute in
    let least = option_map broken_seen c.loop-attribute.least in
    let own = if is_bitwise_word (kind_at nodes attribute) then breaks_at BitwiseOnNoInteger (node_at nodes attribute).token else [] in
    let rest = bitwise_words nodes (handles_of c.next.new.self) in
    ap (λ least. lesser least (least_broken rest)) (c.lesser-least.ensures ∙ ap (lesser least) c.word_broken.ensures)
    ∙ least_more least own rest
    ∙ ap (λ attributes. lesser least (least_broken (bitwise_words nodes (handles_of attributes)))) (sym c.in-Some.ensures.steps)
    ∙ c.loop-attribute.invariant
