-- Alignments that are written: none is below 1, and of two lists the larger one counts.
use Rattle.std.proofs.Common.{◌≡◌, ℕ, ◌≤◌, false, max, List, [], ◌∷◌, ◌++◌, refl, arith}
use Rattle.vocabulary.specs.declared.node_kind.NodeKind.{NodeKind}
use Rattle.vocabulary.specs.declared.node_kind.NodeKind.TheVariants as kinds
use Rattle.meaning_typing.specs.MemberDeclarations.{alignment_among, attributes_in}
use Rattle.meaning_typing.specs.Specifiers.{attributes_of}
use Rattle.meaning_typing.specs.Units.{UnitNodes, children_at}

module _ (nodes : UnitNodes) where
  pub among_positive : (handles : List ℕ) → 1 ≤ alignment_among nodes handles
  among_positive [] = omega arith
  among_positive (handle ∷ handles) = omega (arith, among_positive handles)

  pub among_append : (front back : List ℕ) → alignment_among nodes (front ++ back) ≡ max (alignment_among nodes front) (alignment_among nodes back)
  among_append [] back = omega (arith, among_positive back)
  among_append (handle ∷ front) back = omega (arith, among_append front back)

  -- one list more
  pub over_append : (least : ℕ) (front back : List ℕ)
      → max (max least (alignment_among nodes front)) (alignment_among nodes back) ≡ max least (alignment_among nodes (front ++ back))
  over_append least front back = omega (arith, among_append front back)

  pub over_one : (handles : List ℕ) → max 1 (alignment_among nodes handles) ≡ alignment_among nodes handles
  over_one handles = omega (arith, among_positive handles)

  pub one_over : (handles : List ℕ) → max (alignment_among nodes handles) 1 ≡ alignment_among nodes handles
  one_over handles = omega (arith, among_positive handles)

  -- only a list has attributes that are its declaration's
  pub specifier_attributes : (handle : ℕ) (kind : NodeKind) → attributes_of kind (children_at nodes handle) ≡ attributes_in nodes false kind handle
  specifier_attributes handle kinds.AttributeList = refl
  specifier_attributes handle kind = refl
