-- What `bitwise` breaks in several lists of attributes.
use Rattle.std.proofs.Common.{◌≡◌, ℕ, [], List, ◌++◌, Option, None, if◌then◌else◌, sym, ap, ◌∙◌}
use Rattle.std.proofs.lemmas.Grind.{flat_map-append}
use Rattle.vocabulary.specs.declared.error_kind.ErrorKind.TheVariants.{BitwiseOnNoInteger}
use Rattle.meaning_operands.specs.Failures.{Broken}
use Rattle.meaning_rules.specs.Rules.{least_broken, lesser}
use Rattle.meaning_typing.specs.Rows.{breaks_at}
use Rattle.meaning_typing.specs.Specifiers.{attributes_among, attributes_of}
use Rattle.meaning_typing.specs.Tags.{bitwise_words, is_bitwise_word}
use Rattle.meaning_typing.specs.Units.{UnitNodes, children_at, kind_at, node_at}
use Rattle.declaration_rows.proofs.LeastLemmas.{least_more}

module _ (nodes : UnitNodes) where
  words_append : (front back : List ℕ) → bitwise_words nodes front ++ bitwise_words nodes back ≡ bitwise_words nodes (front ++ back)
  words_append front back =
      sym
      (flat_map-append (λ handle. if is_bitwise_word (kind_at nodes handle) then breaks_at BitwiseOnNoInteger (node_at nodes handle).token else []) front back)

  -- the least so far, one list more, and those that are left
  pub words_more : (least : Option Broken) (front back : List ℕ)
      → lesser (lesser least (least_broken (bitwise_words nodes front))) (least_broken (bitwise_words nodes back))
      ≡ lesser least (least_broken (bitwise_words nodes (front ++ back)))
  words_more least front back =
      least_more least (bitwise_words nodes front) (bitwise_words nodes back) ∙ ap (λ words. lesser least (least_broken words)) (words_append front back)

  -- those of lists in front, and those of lists behind
  pub words_around : (front back : List ℕ)
      → lesser (least_broken (bitwise_words nodes (attributes_among nodes front))) (least_broken (bitwise_words nodes (attributes_among nodes back)))
      ≡ least_broken (bitwise_words nodes (attributes_among nodes (front ++ back)))
  words_around front back =
      words_more None (attributes_among nodes front) (attributes_among nodes back)
      ∙ ap (λ attributes. least_broken (bitwise_words nodes attributes))
      (sym (flat_map-append (λ handle. attributes_of (kind_at nodes handle) (children_at nodes handle)) front back))
