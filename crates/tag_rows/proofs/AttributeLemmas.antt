-- Attributes of specifiers, and what `bitwise` breaks among them: of two lists the lesser.
use Rattle.std.proofs.Common.{◌≡◌, ℕ, true, false, List, [], ◌∷◌, ◌++◌, Option, Some, None, refl, sym, ap, ◌∙◌}
use Rattle.vocabulary.specs.declared.node_kind.NodeKind.{NodeKind}
use Rattle.vocabulary.specs.declared.node_kind.NodeKind.TheVariants as kinds
use Rattle.meaning_operands.specs.Failures.{Broken}
use Rattle.meaning_rules.specs.Rules.{least_broken, lesser}
use Rattle.meaning_typing.specs.Specifiers.{attributes_among, attributes_of}
use Rattle.meaning_typing.specs.Tags.{bitwise_words, is_tagged, tag_attributes}
use Rattle.meaning_typing.specs.Units.{UnitNodes, kind_at, node_at}
use Rattle.expression_rows.proofs.LeastLemmas.{least_both, lesser_on}
use Rattle.tag_rows.specs.Attributes.{bitwise_over, word_broken}

module _ (nodes : UnitNodes) where
  pub over_append : (least : Option Broken) (front back : List ℕ)
      → bitwise_over nodes least (front ++ back) ≡ bitwise_over nodes (bitwise_over nodes least front) back
  over_append least [] back = refl
  over_append least (handle ∷ front) back = over_append (lesser least (least_broken (word_broken (kind_at nodes handle) (node_at nodes handle).token))) front back

  lesser_none : (least : Option Broken) → least ≡ lesser least None
  lesser_none None = refl
  lesser_none (Some broken) = refl

  over_all : (least : Option Broken) (handles : List ℕ) → bitwise_over nodes least handles ≡ lesser least (least_broken (bitwise_words nodes handles))
  over_all least [] = lesser_none least
  over_all least (handle ∷ handles) =
      let word = word_broken (kind_at nodes handle) (node_at nodes handle).token in
      over_all (lesser least (least_broken word)) handles
      ∙ sym (lesser_on least (least_broken word) (least_broken (bitwise_words nodes handles)))
      ∙ ap (lesser least) (sym (least_both word (bitwise_words nodes handles)))

  -- of all attributes the least
  pub over_told : (handles : List ℕ) → bitwise_over nodes None handles ≡ least_broken (bitwise_words nodes handles)
  over_told handles = over_all None handles

  -- Those at a specifier

  pub tagged_attributes : (kind : NodeKind) (children : List ℕ) → is_tagged kind ≡ true → tag_attributes nodes kind children ≡ attributes_among nodes children
  tagged_attributes kinds.StructSpecifier children is = refl
  tagged_attributes kinds.UnionSpecifier children is = refl
  tagged_attributes kinds.EnumSpecifier children is = refl
  tagged_attributes kind children is = cc

  pub other_attributes : (kind : NodeKind) (children : List ℕ) → is_tagged kind ≡ false → tag_attributes nodes kind children ≡ attributes_of kind children
  other_attributes kinds.StructSpecifier children is = cc
  other_attributes kinds.UnionSpecifier children is = cc
  other_attributes kinds.EnumSpecifier children is = cc
  other_attributes kinds.AttributeList children is = refl
  other_attributes kind children is = refl
