-- The rows of names: an enumerator has its own constant, and what a declarator declares has none.
use Rattle.std.proofs.Common.{◌≡◌, ℕ, ℤ, Bool, true, false, List, [], ◌∷◌, Option, Some, None, if◌then◌else◌, option_map, refl, sym, ap, subst, ◌∙◌}
use Rattle.vocabulary.specs.declared.node_kind.NodeKind.{NodeKind}
use Rattle.vocabulary.specs.declared.node_kind.NodeKind.TheVariants as kinds
use Rattle.meaning_types.specs.Types.{TypeTree, Typed, IntegerTree, RestrictedTree}
use Rattle.meaning_constants.specs.Constants.{Constant, own_constant}
use Rattle.meaning_constants.specs.Nodes.{fold_of, folded, loaded_type, of_one}
use Rattle.meaning_constants.specs.Sizes.{sizes_by}
use Rattle.meaning_typing.specs.Aggregates.{KnownAggregates}
use Rattle.meaning_typing.specs.EnumRows.{enumerator_name_fact, is_enumerator}
use Rattle.meaning_typing.specs.Facts as meaning
use Rattle.meaning_typing.specs.Facts.{Fact}
use Rattle.meaning_typing.specs.Names.{declared_behind, name_row}
use Rattle.meaning_typing.specs.Rows.{Row, known}
use Rattle.meaning_typing.specs.Surroundings.{Surrounding, surrounding_at}
use Rattle.meaning_typing.specs.Typing.{part_seen, row_with_constant, token_at, with_constant}
use Rattle.meaning_typing.specs.Units.{UnitNodes, kind_at, node_at}
use Rattle.meaning_typing.specs.Wholes.{row_loaded}
use Rattle.meaning_typing.specs.WholeTyping.{whole_facts_for_constant, whole_row_by}
use Rattle.c_types.specs.Table.{TypeTable, type_at}
use Rattle.node_facts.specs.declared.fact.NodeFact.{NodeFact}
use Rattle.node_facts.specs.declared.fact.NodeFact.TheVariants as facts
use Rattle.node_facts.specs.Facts.{fact_seen, node_seen, number_in}
use Rattle.expr_judge.proofs.RowLemmas.{name_none}

abbrev number_if : Option Constant → Option ℤ
number_if constant = option_map (λ known. known.number) constant

-- what is kept of a node has the constant that it has itself
own_number : (of : TypeTree) (fouled : Bool) (bits : Option ℕ)
    → number_if (own_constant (record { of = of; fouled = fouled; number = number_in of bits })) ≡ number_in of bits
own_number (Typed (IntegerTree kind) _ _) fouled (Some bits) = refl
own_number (Typed (RestrictedTree kind identity) _ _) fouled (Some bits) = refl
own_number (Typed (IntegerTree kind) _ _) fouled None = refl
own_number (Typed (RestrictedTree kind identity) _ _) fouled None = refl
own_number of fouled (Some bits) = refl
own_number of fouled None = refl

own_stays : (table : TypeTable) (fact : NodeFact)
    → with_constant (number_if (of_one own_constant (part_seen (node_seen table fact) ∷ []))) (node_seen table fact) ≡ node_seen table fact
own_stays table facts.Unknown = refl
own_stays table (facts.Expression expression) =
    ap (λ number. meaning.Expression (record (fact_seen table expression) { constant = number }))
    (own_number (loaded_type expression.node.value.width (type_at table expression.node.of)) expression.node.value.fouled expression.node.value.constant)
own_stays table (facts.Specified specifiers) = refl
own_stays table (facts.Declared declaration) = refl
own_stays table (facts.NamedType of) = refl

module _ (aggregates : KnownAggregates) (nodes : UnitNodes) (surroundings : List Surrounding) (list : List Fact) (handle : ℕ) (is : kind_at nodes handle ≡ kinds.Name) where
  abbrev declaration : ℕ
  declaration = (node_at nodes handle).number

  abbrev enumerator : Fact
  enumerator = enumerator_name_fact nodes surroundings list declaration

  -- by whether it stands for an enumerator
  abbrev named_row : (enumerates : Bool) → Row
  named_row enumerates =
      row_with_constant (number_if (of_one own_constant ((if enumerates then part_seen enumerator else None) ∷ [])))
      (if enumerates then known enumerator else name_row list (declared_behind nodes surroundings list declaration))

  abbrev loaded : Row → Row
  loaded row = row_loaded aggregates.told (token_at nodes handle) (surrounding_at surroundings handle).want row

  named_by : (enumerates : Bool) → is_enumerator (kind_at nodes declaration) ≡ enumerates
      → loaded (named_row enumerates) ≡ whole_row_by aggregates nodes surroundings list handle kinds.Name
  named_by enumerates same =
      ap (λ test. loaded (named_row test)) (sym same)
      ∙ ap
      (λ (kind : NodeKind). loaded
      (row_with_constant (number_if (folded (sizes_by aggregates.told) (fold_of kind) (whole_facts_for_constant aggregates nodes surroundings list handle)))
      (if is_enumerator (kind_at nodes declaration) then known enumerator else name_row list (declared_behind nodes surroundings list declaration))))
      (sym is)

  pub declared_named : is_enumerator (kind_at nodes declaration) ≡ false
      → loaded (name_row list (declared_behind nodes surroundings list declaration)) ≡ whole_row_by aggregates nodes surroundings list handle kinds.Name
  declared_named same =
      ap (λ fact. loaded (record (name_row list (declared_behind nodes surroundings list declaration)) { fact = fact })) (sym (name_none list (declared_behind nodes surroundings list declaration)))
      ∙ named_by false same

  pub enumerator_named : is_enumerator (kind_at nodes declaration) ≡ true → (table : TypeTable) (fact : NodeFact) → node_seen table fact ≡ enumerator
      → loaded (known enumerator) ≡ whole_row_by aggregates nodes surroundings list handle kinds.Name
  enumerator_named same table fact seen =
      ap (λ fact. loaded (known fact)) (sym own)
      ∙ named_by true same
    where
      own : with_constant (number_if (of_one own_constant (part_seen enumerator ∷ []))) enumerator ≡ enumerator
      own = subst (λ (fact : Fact). with_constant (number_if (of_one own_constant (part_seen fact ∷ []))) fact ≡ fact) seen (own_stays table fact)
