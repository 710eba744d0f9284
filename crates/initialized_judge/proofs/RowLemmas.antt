-- The row of a node that initializes an object.
use Rattle.std.proofs.Common.{◌≡◌, ◌≢◌, ℕ, Bool, List, [], ◌∷◌, ◌++◌, Option, None, Some, refl, sym, ap, subst, ◌∙◌}
use Rattle.vocabulary.specs.declared.node_kind.NodeKind.{NodeKind}
use Rattle.vocabulary.specs.declared.node_kind.NodeKind.TheVariants as kinds
use Rattle.sparse_model.specs.declared.failure.Failure.{Failure}
use Rattle.sparse_model.specs.declared.ids.TypeId.{TypeId}
use Rattle.meaning_operands.specs.Failures as meaning
use Rattle.meaning_layout.specs.Sizes.{Told}
use Rattle.meaning_rules.specs.Rules.{least_broken, least_token}
use Rattle.meaning_types.specs.Types.{TypeTree}
use Rattle.meaning_typing.specs.Facts.{Fact, Unknown, fact_at}
use Rattle.meaning_typing.specs.Rows.{Row, unless_broken}
use Rattle.meaning_typing.specs.Surroundings.{Surrounding, surrounding_at}
use Rattle.meaning_typing.specs.Units.{UnitNodes, kind_at, node_at}
use Rattle.meaning_initializers.specs.Filling.{Outcome}
use Rattle.meaning_initializers.specs.Plans.{Refusal}
use Rattle.meaning_initializers.specs.Reading.{InitializesAt, initializer_failures}
use Rattle.meaning_initialized.specs.Initialized.{declarator_before, initializing_part}
use Rattle.meaning_initialized.specs.Rows.{completed_otherwise, declared_complete, failures_by, failures_unless, fact_by, passed_unless, refused_so, row_of_outcome}
use Rattle.c_types.specs.Layouts.{told_in}
use Rattle.c_types.specs.Table.{TypeTable, type_at}
use Rattle.declaration_judge.specs.declared.declarations.Declarations.{Declarations}
use Rattle.declaration_judge.specs.Kept.{IsWhole, OnlyTypesJoin, facts_seen}
use Rattle.declaration_judge.proofs.KeptLemmas.{facts_later}
use Rattle.expr_judge.specs.Rows.{SaysOnly, Tells}
use Rattle.expr_judge.proofs.GrowthLemmas.{appended_both}
use Rattle.expression_rows.specs.declared.row.Broken as rows
use Rattle.expression_rows.specs.Arguments.{Appends}
use Rattle.expression_rows.specs.Rows.{broken_seen}
use Rattle.node_facts.specs.declared.fact.NodeFact.{NodeFact}
use Rattle.node_facts.specs.declared.fact.NodeFact.TheVariants as facts
use Rattle.node_facts.specs.Facts.{IsKnownNodeFact, node_seen}
use Rattle.initialized_judge.specs.Judging.{TellsObject}

-- By the kind of a node that is no compound literal

module _ (nodes : UnitNodes) (surroundings : List Surrounding) (known : List Fact) (handle : ℕ) (is_static : Bool) (complete : TypeTree) where
  abbrev declarator : ℕ
  declarator = declarator_before nodes (surrounding_at surroundings handle)

  pub fact_declared : (kind : NodeKind) → kind ≢ kinds.CompoundLiteral
      → fact_by nodes surroundings known handle is_static complete kind ≡ declared_complete complete (fact_at known declarator)
  fact_declared kinds.CompoundLiteral other = absurd (other refl)
  fact_declared kind other = refl

  pub failures_declared : (kind : NodeKind) → kind ≢ kinds.CompoundLiteral
      → failures_by nodes surroundings known handle complete kind ≡ completed_otherwise nodes surroundings known declarator complete (fact_at known declarator)
  failures_declared kinds.CompoundLiteral other = absurd (other refl)
  failures_declared kind other = refl

-- An outcome in which nothing is refused, and one in which something is

module _ (told : Told) (nodes : UnitNodes) (surroundings : List Surrounding) (known : List Fact) (handle : ℕ) (is_static : Bool) (outcome : Outcome) where
  abbrev init_token : ℕ
  init_token = (node_at nodes (initializing_part nodes handle)).token

  abbrev own_fact : Fact
  own_fact = fact_by nodes surroundings known handle is_static outcome.complete (kind_at nodes handle)

  abbrev own_failures : List meaning.Failure
  own_failures = initializer_failures nodes known outcome.leaves ++ failures_by nodes surroundings known handle outcome.complete (kind_at nodes handle)

  abbrev row_with : List Refusal → Row
  row_with refusals =
      record {
        fact = unless_broken (refused_so refusals) own_fact;
        broken = refused_so refusals;
        failures = failures_unless own_failures refusals;
        passed = passed_unless told init_token outcome.complete refusals;
      }

  -- where one is told, nothing else is said
  refused_row : (table : TypeTable) (refusals : List Refusal) (broken : rows.Broken) → least_broken (refused_so refusals) ≡ Some (broken_seen broken)
      → SaysOnly table (record { fact = facts.Unknown; broken = Some broken; passed = None }) (row_with refusals)
  refused_row table [] broken told-so = cc told-so
  refused_row table (refusal ∷ refusals) broken told-so =
      record { row = λ i. record { fact = Unknown; broken = sym told-so i; passed = None }; ids = tt; silent = refl }

module _ (nodes : UnitNodes) (surroundings : List Surrounding) (old new : Declarations) (handle : ℕ) (object : TypeTree) (is_static : Bool)
    (only : OnlyTypesJoin old new) (whole : IsWhole old) (outcome : Outcome)
    (initializes : InitializesAt nodes surroundings (facts_seen old) object is_static (initializing_part nodes handle) outcome) where
  abbrev known : List Fact
  known = facts_seen old

  same : facts_seen new ≡ facts_seen old
  same = facts_later old new only whole

  pub tells_completed :
      outcome.refusals ≡ [] → (complete : TypeId) → type_at new.types complete ≡ outcome.complete → (before middle after : List Failure)
      → Appends new.types before middle (initializer_failures nodes known outcome.leaves)
      → (fact : NodeFact) → node_seen new.types fact ≡ fact_by nodes surroundings (facts_seen new) handle is_static (type_at new.types complete) (kind_at nodes handle)
      → IsKnownNodeFact new.types fact
      → Appends new.types middle after (failures_by nodes surroundings (facts_seen new) handle (type_at new.types complete) (kind_at nodes handle))
      → (passed : Option ℕ)
      → passed ≡ least_token (passed_unless (told_in new.types) (init_token (told_in old.types) nodes surroundings known handle is_static outcome) (type_at new.types complete) [])
      → TellsObject nodes surroundings old new handle object is_static before after (record { fact = fact; broken = None; passed = passed })
  tells_completed none complete completes before middle after leaves fact fact_is id others passed passed_is =
      let told = told_in old.types in
      let row = row_with told nodes surroundings known handle is_static outcome in
      let meant : row_of_outcome told nodes surroundings known handle is_static outcome ≡ row [] = ap row none in
      let failures = failures_by nodes surroundings known handle outcome.complete (kind_at nodes handle) in (
        row_of_outcome told nodes surroundings known handle is_static outcome,
        (outcome, initializes, refl),
        subst (λ (one : Row). Tells old.types new.types before after (record { fact = fact; broken = None; passed = passed }) one) (sym meant)
            (record {
              row =
                  λ i. record {
                    fact = (fact_is ∙ (λ j. fact_by nodes surroundings (same j) handle is_static (completes j) (kind_at nodes handle))) i;
                    broken = None;
                    passed = (passed_is ∙ (λ j. least_token (passed_unless (only.types.layouts j) (init_token told nodes surroundings known handle is_static outcome) (completes j) []))) i;
                  };
              ids = id;
              failures =
                  appended_both new.types before middle after (initializer_failures nodes known outcome.leaves) failures leaves
                  (subst (λ (more : List meaning.Failure). Appends new.types middle after more)
                  (λ j. failures_by nodes surroundings (same j) handle (completes j) (kind_at nodes handle)) others);
              keeps = only.types;
            }),
      )

  pub tells_refused : (broken : rows.Broken) → least_broken (refused_so outcome.refusals) ≡ Some (broken_seen broken) → (before after : List Failure) → after ≡ before
      → Appends new.types before before [] → TellsObject nodes surroundings old new handle object is_static before after (record { fact = facts.Unknown; broken = Some broken; passed = None })
  tells_refused broken told-so before after kept none =
      let told = told_in old.types in
      let says = refused_row told nodes surroundings known handle is_static outcome new.types outcome.refusals broken told-so in (
        row_of_outcome told nodes surroundings known handle is_static outcome,
        (outcome, initializes, refl),
        record {
          row = says.row;
          ids = says.ids;
          failures =
              subst (λ (more : List meaning.Failure). Appends new.types before after more) (sym says.silent)
              (subst (λ (last : List Failure). Appends new.types before last []) (sym kept) none);
          keeps = only.types;
        },
      )
