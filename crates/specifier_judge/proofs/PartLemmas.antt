-- Parts of specifiers and enumerators, as they are looked up, are those of the definitions.
use Rattle.std.proofs.Common.{◌≡◌, ℕ, zero, suc, ◌+◌, ◌-◌, ◌<◌, Bool, true, false, ◌||◌, not, is_none, is_some, List, [], ◌∷◌, ◌++◌, All, length, take, Option, Some, None, option_map, if◌then◌else◌, refl, sym, ap, ◌∙◌, arith}
use Rattle.std.specs.List.{list_any}
use Rattle.std.proofs.lemmas.List.{append_assoc, get_or-take}
use Rattle.std.proofs.lemmas.List.Elements.{All-head, All-tail}
use Rattle.vocabulary.specs.declared.node_kind.NodeKind.{NodeKind}
use Rattle.vocabulary.specs.declared.node_kind.NodeKind.TheVariants as kinds
use Rattle.meaning_typing.specs.EnumRows.{SeenEnumerator, enumerator_before, enumerators_among, expression_among, expression_of, is_enumerator, is_expression_part, seen_before}
use Rattle.meaning_typing.specs.Facts.{Fact, Unknown, fact_at}
use Rattle.meaning_typing.specs.MemberDeclarations.{member_list}
use Rattle.meaning_typing.specs.Units.{UnitNodes, child_at, children_at, kind_at}
use Rattle.specifier_judge.specs.Kinds.{is_member_list}
use Rattle.specifier_judge.specs.Parts.{enumerator_at, expression_part}

-- Lists of members

pub one_list : (kind : NodeKind) (handle : ℕ) → is_member_list kind ≡ true → member_list kind handle ≡ handle ∷ []
one_list kinds.MemberList handle is = refl
one_list kind handle is = cc

pub no_list : (kind : NodeKind) (handle : ℕ) → is_member_list kind ≡ false → member_list kind handle ≡ []
no_list kinds.MemberList handle is = cc
no_list kind handle is = refl

-- Expressions

module _ (nodes : UnitNodes) (facts : List Fact) where
  expression_told : (handles : List ℕ) → option_map (fact_at facts) (expression_part nodes handles) ≡ expression_among nodes facts handles
  expression_told [] = refl
  expression_told (handle ∷ handles) = by (is_expression_part (kind_at nodes handle)) (expression_told handles)
    where
      by : (test : Bool) → option_map (fact_at facts) (expression_part nodes handles) ≡ expression_among nodes facts handles
          → option_map (fact_at facts) (if test then Some handle else expression_part nodes handles)
          ≡ (if test then Some (fact_at facts handle) else expression_among nodes facts handles)
      by true others = refl
      by false others = others

  pub expression-is : (enumerator : ℕ)
      → option_map (fact_at facts) (expression_part nodes (children_at nodes enumerator)) ≡ expression_of nodes facts enumerator
  expression-is enumerator = expression_told (children_at nodes enumerator)

  is_mapped : {X Y : Type 0} (f : X → Y) (found : Option X) → is_some found ≡ not (is_none (option_map f found))
  is_mapped f None = refl
  is_mapped f (Some x) = refl

  -- whether there is one isn't asked of facts
  pub has_expression : (enumerator : ℕ) → is_some (expression_part nodes (children_at nodes enumerator)) ≡ not (is_none (expression_of nodes facts enumerator))
  has_expression enumerator =
      is_mapped (fact_at facts) (expression_part nodes (children_at nodes enumerator))
      ∙ ap (λ (found : Option Fact). not (is_none found)) (expression-is enumerator)

  pub before_told : (parent place : ℕ) → (place ≡ 0 → ⊥)
      → enumerator_at nodes facts (child_at nodes parent (place - 1)) ≡ enumerator_before nodes facts parent place
  before_told parent zero some = absurd (some refl)
  before_told parent (suc place) some = ap (λ n. enumerator_at nodes facts (child_at nodes parent n)) before
    where
      before : suc place - 1 ≡ place
      before = omega arith

-- Enumerators

module _ (nodes : UnitNodes) (facts : List Fact) where
  -- a child, and those behind it
  pub among-more : (handle : ℕ) (handles : List ℕ)
      → enumerators_among nodes facts (handle ∷ []) ++ enumerators_among nodes facts handles ≡ enumerators_among nodes facts (handle ∷ handles)
  among-more handle handles = by (is_enumerator (kind_at nodes handle))
    where
      by : (test : Bool)
          → (if test then seen_before nodes facts handle [] else []) ++ enumerators_among nodes facts handles
          ≡ (if test then seen_before nodes facts handle (enumerators_among nodes facts handles) else enumerators_among nodes facts handles)
      by true = refl
      by false = refl

  among-without : (handle : ℕ) (handles : List ℕ) (test : Bool) → (test || list_any (λ child. is_enumerator (kind_at nodes child)) handles) ≡ false
      → (list_any (λ child. is_enumerator (kind_at nodes child)) handles ≡ false → enumerators_among nodes facts handles ≡ [])
      → (if test then seen_before nodes facts handle (enumerators_among nodes facts handles) else enumerators_among nodes facts handles) ≡ []
  among-without handle handles true none others = cc
  among-without handle handles false none others = others none

  pub among-none : (handles : List ℕ) → list_any (λ child. is_enumerator (kind_at nodes child)) handles ≡ false → enumerators_among nodes facts handles ≡ []
  among-none [] none = refl
  among-none (handle ∷ handles) none = among-without handle handles (is_enumerator (kind_at nodes handle)) none (among-none handles)

  -- a child that is one, and one that isn't
  pub one-taken : (child : ℕ) → is_enumerator (kind_at nodes child) ≡ true → (has : Bool) (fact : Fact) → has ≡ not (is_none (expression_of nodes facts child))
      → fact ≡ fact_at facts child → (record { has_expression = has; fact = fact } ∷ []) ≡ enumerators_among nodes facts (child ∷ [])
  one-taken child is has fact expression known =
      (λ i. record { has_expression = expression i; fact = known i } ∷ [])
      ∙ ap (λ (test : Bool). if test then seen_before nodes facts child [] else []) (sym is)

  pub none-taken : (child : ℕ) → is_enumerator (kind_at nodes child) ≡ false → [] ≡ enumerators_among nodes facts (child ∷ [])
  none-taken child other = ap (λ (test : Bool). if test then seen_before nodes facts child [] else []) (sym other)

  -- what is taken for a list and a child stands for both
  pub taken-more : (list : List SeenEnumerator) (handle : ℕ) (handles : List ℕ) (all : List SeenEnumerator)
      → list ++ enumerators_among nodes facts (handle ∷ handles) ≡ all
      → (list ++ enumerators_among nodes facts (handle ∷ [])) ++ enumerators_among nodes facts handles ≡ all
  taken-more list handle handles all is =
      append_assoc list (enumerators_among nodes facts (handle ∷ [])) (enumerators_among nodes facts handles)
      ∙ ap (λ others. list ++ others) (among-more handle handles)
      ∙ is

-- what is known of later nodes isn't asked of children
module _ (nodes : UnitNodes) (facts : List Fact) (count : ℕ) where
  same_seen : (enumerator : ℕ) → enumerator < count → (others : List SeenEnumerator)
      → seen_before nodes (take count facts) enumerator others ≡ seen_before nodes facts enumerator others
  same_seen enumerator below others =
      λ i.
      record {
        has_expression = (sym (has_expression nodes (take count facts) enumerator) ∙ has_expression nodes facts enumerator) i;
        fact = get_or-take count facts enumerator Unknown below i;
      }
      ∷ others

  same_by : (handle : ℕ) (handles : List ℕ) (test : Bool) → handle < count
      → enumerators_among nodes (take count facts) handles ≡ enumerators_among nodes facts handles
      → (if test then seen_before nodes (take count facts) handle (enumerators_among nodes (take count facts) handles) else enumerators_among nodes (take count facts) handles)
      ≡ (if test then seen_before nodes facts handle (enumerators_among nodes facts handles) else enumerators_among nodes facts handles)
  same_by handle handles true below others =
      ap (seen_before nodes (take count facts) handle) others ∙ same_seen handle below (enumerators_among nodes facts handles)
  same_by handle handles false below others = others

  pub among-same : (handles : List ℕ) → All (λ handle. handle < count) handles
      → enumerators_among nodes (take count facts) handles ≡ enumerators_among nodes facts handles
  among-same [] below = refl
  among-same (handle ∷ handles) below =
      same_by handle handles (is_enumerator (kind_at nodes handle)) (All-head (λ handle. handle < count) handle handles below)
      (among-same handles (All-tail (λ handle. handle < count) handle handles below))
