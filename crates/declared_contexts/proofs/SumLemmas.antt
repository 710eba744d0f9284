-- Sums come to the same from the first attribute to the last, as the definition has them from the last one on.
use Rattle.std.proofs.Common.{◌≡◌, ℕ, ◌+◌, true, false, List, [], ◌∷◌, ◌++◌, Option, Some, None, if◌then◌else◌, refl, sym, ap, ◌∙◌, arith}
use Rattle.vocabulary.specs.declared.node_kind.NodeKind.{NodeKind}
use Rattle.vocabulary.specs.declared.node_kind.NodeKind.TheVariants as kinds
use Rattle.meaning_typing.specs.ContextSums.{ContextSums, attributes_of_declarator, contexts_of, sums_among, sums_before, sums_with}
use Rattle.meaning_typing.specs.Declarators.{is_declarator}
use Rattle.meaning_typing.specs.Surroundings.{Surrounding}
use Rattle.meaning_typing.specs.Units.{UnitNodes, kind_at}
use Rattle.declared_contexts.specs.Sums.{attributes_standing, sums_over}

-- two contexts may change places
with-swap : (enters leaves more_enters more_leaves : ℕ) (sums : Option ContextSums)
    → sums_with enters leaves (Some (sums_with more_enters more_leaves sums)) ≡ sums_with more_enters more_leaves (Some (sums_with enters leaves sums))
with-swap enters leaves more_enters more_leaves None =
    let one : enters + more_enters ≡ more_enters + enters = omega arith in
    let other : leaves + more_leaves ≡ more_leaves + leaves = omega arith in
    λ i. record { enters = one i; leaves = other i }
with-swap enters leaves more_enters more_leaves (Some sums) =
    λ i. record { enters = swap enters more_enters sums.enters i; leaves = swap leaves more_leaves sums.leaves i }
  where
    swap : (one other third : ℕ) → one + (other + third) ≡ other + (one + third)
    swap one other third = omega arith

module _ (nodes : UnitNodes) where
  before-swap : (kind other : NodeKind) (handle another : ℕ) (sums : Option ContextSums)
      → sums_before nodes kind handle (sums_before nodes other another sums) ≡ sums_before nodes other another (sums_before nodes kind handle sums)
  before-swap kinds.ContextAttribute kinds.ContextAttribute handle another sums = ap Some (with-swap _ _ _ _ sums)
  before-swap kinds.ContextAttribute other handle another sums = refl
  before-swap kind other handle another sums = refl

  over-before : (kind : NodeKind) (handle : ℕ) (sums : Option ContextSums) (handles : List ℕ)
      → sums_over nodes (sums_before nodes kind handle sums) handles ≡ sums_before nodes kind handle (sums_over nodes sums handles)
  over-before kind handle sums [] = refl
  over-before kind handle sums (next ∷ handles) =
      ap (λ sums. sums_over nodes sums handles) (before-swap (kind_at nodes next) kind next handle sums)
      ∙ over-before kind handle (sums_before nodes (kind_at nodes next) next sums) handles

  pub over-among : (handles : List ℕ) → sums_over nodes None handles ≡ sums_among nodes handles
  over-among [] = refl
  over-among (handle ∷ handles) =
      over-before (kind_at nodes handle) handle None handles
      ∙ ap (sums_before nodes (kind_at nodes handle) handle) (over-among handles)

  -- some attributes, and those behind them
  pub over_append : (sums : Option ContextSums) (front back : List ℕ) → sums_over nodes sums (front ++ back) ≡ sums_over nodes (sums_over nodes sums front) back
  over_append sums [] back = refl
  over_append sums (handle ∷ front) back = over_append (sums_before nodes (kind_at nodes handle) handle sums) front back

  pub over_four : (sums : Option ContextSums) (one two three four : List ℕ)
      → sums_over nodes sums (one ++ two ++ three ++ four) ≡ sums_over nodes (sums_over nodes (sums_over nodes (sums_over nodes sums one) two) three) four
  over_four sums one two three four =
      over_append sums (one ++ two ++ three) four
      ∙ ap (λ before. sums_over nodes before four) (over_append sums (one ++ two) three ∙ ap (λ before. sums_over nodes before three) (over_append sums one two))

  pub standing-contexts : (declarator parent place : ℕ) → is_declarator (kind_at nodes declarator) ≡ true
      → (surrounding : Surrounding) → surrounding.parent ≡ parent → surrounding.place ≡ place
      → sums_over nodes None (attributes_standing nodes declarator parent place) ≡ contexts_of nodes declarator surrounding
  standing-contexts declarator parent place is surrounding above at =
      over-among (attributes_standing nodes declarator parent place)
      ∙ (λ i. sums_among nodes (attributes_standing nodes declarator (sym above i) (sym at i)))
      ∙ ap (λ test. if test then sums_among nodes (attributes_of_declarator nodes declarator surrounding) else None) (sym is)

  -- what is no declarator carries none
  pub no-contexts : (declarator : ℕ) (surrounding : Surrounding) → is_declarator (kind_at nodes declarator) ≡ false
      → None ≡ contexts_of nodes declarator surrounding
  no-contexts declarator surrounding is =
      ap (λ test. if test then sums_among nodes (attributes_of_declarator nodes declarator surrounding) else None) (sym is)
