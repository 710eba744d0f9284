-- Specifier words come to the same in whatever order they stand.
use Rattle.std.proofs.Common.{◌≡◌, [], ◌∷◌, refl, ap}
use Rattle.vocabulary.specs.declared.node_kind.NodeKind.{NodeKind}
use Rattle.vocabulary.specs.declared.node_kind.NodeKind.TheVariants as kinds
use Rattle.meaning_typing.specs.Units.{kind_at}
use Rattle.meaning_typing.specs.Specifiers.{Words, with_word, words_of}
use Rattle.meaning_typing.specs.laws.Words.{NeighboursMaySwap}

-- two words, the one kind after the other
swapped : (kind other : NodeKind) (words : Words) → with_word kind (with_word other words) ≡ with_word other (with_word kind words)
swapped kinds.VoidSpecifier kinds.VoidSpecifier words = refl
swapped kinds.VoidSpecifier other words = refl
swapped kinds.BoolSpecifier kinds.BoolSpecifier words = refl
swapped kinds.BoolSpecifier other words = refl
swapped kinds.CharSpecifier kinds.CharSpecifier words = refl
swapped kinds.CharSpecifier other words = refl
swapped kinds.ShortSpecifier kinds.ShortSpecifier words = refl
swapped kinds.ShortSpecifier other words = refl
swapped kinds.LongSpecifier kinds.LongSpecifier words = refl
swapped kinds.LongSpecifier other words = refl
swapped kinds.SignedSpecifier kinds.SignedSpecifier words = refl
swapped kinds.SignedSpecifier other words = refl
swapped kinds.UnsignedSpecifier kinds.UnsignedSpecifier words = refl
swapped kinds.UnsignedSpecifier other words = refl
swapped kinds.ConstQualifier kinds.ConstQualifier words = refl
swapped kinds.ConstQualifier other words = refl
swapped kinds.VolatileQualifier kinds.VolatileQualifier words = refl
swapped kinds.VolatileQualifier other words = refl
swapped kinds.TypedefSpecifier kinds.TypedefSpecifier words = refl
swapped kinds.TypedefSpecifier other words = refl
swapped kinds.ExternSpecifier kinds.ExternSpecifier words = refl
swapped kinds.ExternSpecifier other words = refl
swapped kinds.StaticSpecifier kinds.StaticSpecifier words = refl
swapped kinds.StaticSpecifier other words = refl
swapped kinds.RegisterSpecifier kinds.RegisterSpecifier words = refl
swapped kinds.RegisterSpecifier other words = refl
swapped kind other words = refl

pub neighbours_may_swap : NeighboursMaySwap
neighbours_may_swap nodes [] back one other = swapped (kind_at nodes one) (kind_at nodes other) (words_of nodes back)
neighbours_may_swap nodes (handle ∷ front) back one other = ap (with_word (kind_at nodes handle)) (neighbours_may_swap nodes front back one other)
