-- What is known of a member's declarator: lists behind its width, and types to which attributes add.
use Rattle.std.proofs.Common.{◌≡◌, ℕ, suc, ◌+◌, ◌≤◌, true, false, List, [], ◌∷◌, drop, length, slice_get, Some, IfSome, option_map, refl, sym, ap, ◌∙◌, subst, arith}
use Rattle.std.proofs.Math.Seq.{drop-cons}
use Rattle.std.proofs.lemmas.List.{drop_all, length-map}
use Rattle.vocabulary.specs.declared.node_kind.NodeKind.{NodeKind}
use Rattle.vocabulary.specs.declared.node_kind.NodeKind.TheVariants as kinds
use Rattle.meaning_typing.specs.Declarators.{specified_by}
use Rattle.meaning_typing.specs.Facts.{SpecifiedFact, Specified}
use Rattle.meaning_typing.specs.MemberDeclarations.{behind_width, specified_type, unless_width}
use Rattle.meaning_typing.specs.Units.{UnitNodes, kind_at}
use Rattle.c_types.specs.Table.{TypeTable, IsTypeId, type_at}
use Rattle.node_facts.specs.declared.fact.NodeFact.{NodeFact}
use Rattle.node_facts.specs.declared.fact.NodeFact.TheVariants as facts
use Rattle.node_facts.specs.Facts.{IsKnownNodeFact, node_seen}
use Rattle.decl_judge.specs.Asked.{specified_in}
use Rattle.decl_judge.specs.Units.{handles_of}
use Rattle.member_declarations.specs.Facts.{is_width}
use Rattle.member_declarations.proofs.EntryLemmas.{child_here, child_within}

-- Lists behind a width

behind_is : (kind : NodeKind) (handle : ℕ) (handles : List ℕ) → is_width kind ≡ true → unless_width kind handle handles ≡ handles
behind_is kinds.BitFieldWidth handle handles is = refl
behind_is kind handle handles is = cc

behind_not : (kind : NodeKind) (handle : ℕ) (handles : List ℕ) → is_width kind ≡ false → unless_width kind handle handles ≡ handle ∷ handles
behind_not kinds.BitFieldWidth handle handles not = cc
behind_not kind handle handles not = refl

module _ (nodes : UnitNodes) (children : List (ℕ × ℕ)) (place : ℕ) where
  pub behind_end : length children ≤ place → behind_width nodes (drop place (handles_of children)) ≡ drop place (handles_of children)
  behind_end past = ap (behind_width nodes) none ∙ sym none
    where
      none : drop place (handles_of children) ≡ []
      none = drop_all place (handles_of children) (subst (λ count. count ≤ place) (sym (length-map children (λ (child : ℕ × ℕ). child.0))) past)

  module _ (child : ℕ × ℕ) (found : slice_get children place ≡ Some child) where
    here : drop place (handles_of children) ≡ child.0 ∷ drop (place + 1) (handles_of children)
    here =
        drop-cons (handles_of children) place 0 (child_within nodes children place child found)
        ∙ (λ i. child_here nodes children place child found i ∷ drop (next i) (handles_of children))
      where
        next : suc place ≡ place + 1
        next = omega arith

    pub behind_one : is_width (kind_at nodes child.0) ≡ true → behind_width nodes (drop place (handles_of children)) ≡ drop (place + 1) (handles_of children)
    behind_one is = ap (behind_width nodes) here ∙ behind_is (kind_at nodes child.0) child.0 (drop (place + 1) (handles_of children)) is

    pub behind_none : is_width (kind_at nodes child.0) ≡ false → behind_width nodes (drop place (handles_of children)) ≡ drop place (handles_of children)
    behind_none not =
        ap (behind_width nodes) here
        ∙ behind_not (kind_at nodes child.0) child.0 (drop (place + 1) (handles_of children)) not
        ∙ sym here

-- Types that are specified

module _ (table : TypeTable) where
  specified_seen : (fact : NodeFact) → option_map (type_at table) (option_map (λ said. said.of) (specified_in fact)) ≡ specified_type (specified_by (node_seen table fact))
  specified_seen facts.Unknown = refl
  specified_seen (facts.Expression expression) = refl
  specified_seen (facts.Specified said) = refl
  specified_seen (facts.Declared declaration) = refl
  specified_seen (facts.NamedType of) = refl

  pub specified_told : (fact : NodeFact) (said : SpecifiedFact) → node_seen table fact ≡ Specified said
      → option_map (type_at table) (option_map (λ said. said.of) (specified_in fact)) ≡ Some said.type_
  specified_told fact said is = specified_seen fact ∙ ap (λ fact. specified_type (specified_by fact)) is

  pub specified_known : (fact : NodeFact) → IsKnownNodeFact table fact → IfSome (option_map (λ said. said.of) (specified_in fact)) (IsTypeId table)
  specified_known facts.Unknown known = tt
  specified_known (facts.Expression expression) known = tt
  specified_known (facts.Specified said) known = known
  specified_known (facts.Declared declaration) known = tt
  specified_known (facts.NamedType of) known = tt
