-- Kinds of nodes whose rows stand here: none of them has a constant of its own but enumerators, which have theirs already.
use Rattle.std.proofs.Common.{◌≡◌, ◌≢◌, ℕ, Bool, true, false, List, None, if◌then◌else◌, option_map, refl, sym, ap, ◌∙◌}
use Rattle.vocabulary.specs.declared.node_kind.NodeKind.{NodeKind}
use Rattle.vocabulary.specs.declared.node_kind.NodeKind.TheVariants as kinds
use Rattle.meaning_constants.specs.Nodes.{Fold, NoFold, fold_of, folded}
use Rattle.meaning_constants.specs.Sizes.{sizes_by}
use Rattle.meaning_typing.specs.Aggregates.{KnownAggregates}
use Rattle.meaning_typing.specs.Facts.{Fact}
use Rattle.meaning_typing.specs.Rows.{Row}
use Rattle.meaning_typing.specs.Surroundings.{Surrounding, surrounding_at}
use Rattle.meaning_typing.specs.Typing.{row_with_constant, token_at}
use Rattle.meaning_typing.specs.Units.{UnitNodes, kind_at}
use Rattle.meaning_typing.specs.Wholes.{row_loaded}
use Rattle.meaning_typing.specs.WholeTyping.{keeps_constant, whole_constant_at, whole_facts_for_constant, whole_row_by, whole_row_of}
use Rattle.specifier_judge.specs.Kinds.{is_of_specifiers}

no_fold : (kind : NodeKind) → is_of_specifiers kind ≡ true → fold_of kind ≡ NoFold
no_fold kinds.Specifiers is = refl
no_fold kinds.StructSpecifier is = refl
no_fold kinds.UnionSpecifier is = refl
no_fold kinds.EnumSpecifier is = refl
no_fold kinds.Enumerator is = refl
no_fold kinds.TypedefName is = refl
no_fold kinds.TypeofType is = refl
no_fold kinds.TypeofExpression is = refl
no_fold kinds.TypeName is = refl
no_fold kind is = cc

asks_constant : (kind : NodeKind) → is_of_specifiers kind ≡ true → kind ≢ kinds.Enumerator → keeps_constant kind ≡ false
asks_constant kinds.Enumerator is other = absurd (other refl)
asks_constant kinds.BitFieldWidth is other = cc
asks_constant kind is other = refl

-- the last of them
pub only_name : (kind : NodeKind) → is_of_specifiers kind ≡ true → kind ≢ kinds.Enumerator → kind ≢ kinds.Specifiers → kind ≢ kinds.StructSpecifier
    → kind ≢ kinds.UnionSpecifier → kind ≢ kinds.EnumSpecifier → kind ≢ kinds.TypedefName → kind ≢ kinds.TypeofType → kind ≢ kinds.TypeofExpression
    → kind ≡ kinds.TypeName
only_name kinds.Enumerator is enumerator specifiers structure union enumeration typedef type_ expression = absurd (enumerator refl)
only_name kinds.Specifiers is enumerator specifiers structure union enumeration typedef type_ expression = absurd (specifiers refl)
only_name kinds.StructSpecifier is enumerator specifiers structure union enumeration typedef type_ expression = absurd (structure refl)
only_name kinds.UnionSpecifier is enumerator specifiers structure union enumeration typedef type_ expression = absurd (union refl)
only_name kinds.EnumSpecifier is enumerator specifiers structure union enumeration typedef type_ expression = absurd (enumeration refl)
only_name kinds.TypedefName is enumerator specifiers structure union enumeration typedef type_ expression = absurd (typedef refl)
only_name kinds.TypeofType is enumerator specifiers structure union enumeration typedef type_ expression = absurd (type_ refl)
only_name kinds.TypeofExpression is enumerator specifiers structure union enumeration typedef type_ expression = absurd (expression refl)
only_name kinds.TypeName is enumerator specifiers structure union enumeration typedef type_ expression = refl
only_name kind is enumerator specifiers structure union enumeration typedef type_ expression = cc

-- The row of one by its kind

module _ (aggregates : KnownAggregates) (nodes : UnitNodes) (surroundings : List Surrounding) (facts : List Fact) (handle : ℕ) where
  abbrev own : NodeKind → Row
  own kind = whole_row_of aggregates nodes surroundings facts handle kind

  abbrev loaded : Row → Row
  loaded row = row_loaded aggregates.told (token_at nodes handle) (surrounding_at surroundings handle).want row

  no_constant : (kind : NodeKind) → kind_at nodes handle ≡ kind → is_of_specifiers kind ≡ true
      → whole_constant_at aggregates nodes surroundings facts handle ≡ None
  no_constant kind here is =
      ap
      (λ (fold : Fold). option_map (λ constant. constant.number)
      (folded (sizes_by aggregates.told) fold (whole_facts_for_constant aggregates nodes surroundings facts handle)))
      (ap fold_of here ∙ no_fold kind is)

  -- it has no constant, and is loaded where its value is wanted
  pub row_by : (kind : NodeKind) → kind_at nodes handle ≡ kind → is_of_specifiers kind ≡ true → kind ≢ kinds.Enumerator
      → loaded (row_with_constant None (own kind)) ≡ whole_row_by aggregates nodes surroundings facts handle kind
  row_by kind here is other =
      ap (λ constant. loaded (row_with_constant constant (own kind))) (sym (no_constant kind here is))
      ∙ ap
      (λ test. if test then own kind else loaded (row_with_constant (whole_constant_at aggregates nodes surroundings facts handle) (own kind)))
      (sym (asks_constant kind is other))
