-- One node more is judged and kept.
use Rattle.std.proofs.Common.{◌≡◌, ℕ, suc, ◌+◌, ◌<◌, List, [], ◌∷◌, ◌++◌, None, Result, Ok, Err, IfOk, IsErrAnd, length, option_map, refl, sym, ap, ap₂, subst, ◌∙◌, arith, length-append}
use Rattle.std.proofs.lemmas.List.Elements.{All-nil}
use Rattle.meaning_rules.specs.Rules.{gathered, least_broken, least_token, lesser}
use Rattle.meaning_typing.specs.Facts.{Fact}
use Rattle.meaning_typing.specs.Rows.{Row}
use Rattle.meaning_typing.specs.Surroundings.{Surrounding}
use Rattle.meaning_typing.specs.Units.{UnitNodes}
use Rattle.meaning_units.specs.UnitRows.{IsUnitRow}
use Rattle.meaning_units.specs.WholeRows.{broken_at, facts_of, failures_at, passed_at}
use Rattle.meaning_units.proofs.RowLemmas.{first_more, first_none}
use Rattle.c_types.specs.Table.{TypeTable, Extends}
use Rattle.linked_names.proofs.GrowthLemmas.{Extends-twice}
use Rattle.expression_rows.specs.Rows.{IsKnownFailure, broken_seen}
use Rattle.expr_judge.specs.declared.row.NodeRow.{NodeRow}
use Rattle.expr_judge.specs.Found.{AreKnownFailures, found_seen}
use Rattle.expr_judge.specs.Rows.{KeptRow}
use Rattle.expr_judge.proofs.GrowthLemmas.{appended_known, appended_seen}
use Rattle.node_facts.specs.Facts.{node_seen}
use Rattle.node_judge.specs.declared.known.Known.{Known}
use Rattle.node_judge.specs.Known.{IsKnownOf, facts_seen, table_of}
use Rattle.statement_judge.specs.Statements.{IsKeptOf}
use Rattle.type_judge.specs.declared.pass.Pass.{Pass}
use Rattle.type_judge.specs.Judging.{IsPassOver}
use Rattle.type_judge.specs.Least.{lowest}
use Rattle.type_judge.specs.Rows.{TellsAccessedRow, accessed}
use Rattle.type_judge.proofs.FactLemmas.{broken_more, facts_more, failures_more, known_itself, passed_more}
use Rattle.type_judge.proofs.GrowthLemmas.{appended_later, failures_known, failures_later}
use Rattle.type_judge.proofs.LeastLemmas.{least_both, lowest_both}

-- What `?` hands on is no pass.
pub nothing_made : {T F : Type 0} (P : T → Type 0) (Q : F → Type 0) (result : Result T F) → IsErrAnd result Q → IfOk result P
nothing_made P Q (Ok value) is = absurd is
nothing_made P Q (Err fault) is = tt

module _ (nodes : UnitNodes) (surroundings : List Surrounding) where
  -- before the first node
  pub pass_none :
      (pass : Pass) → IsKnownOf nodes surroundings 0 [] pass.known → IsKeptOf nodes surroundings [] 0 pass.statements
      → pass.found ≡ [] → pass.broken ≡ None → pass.passed ≡ None → IsPassOver nodes surroundings 0 pass
  pass_none pass known kept found broken passed =
      record {
        rows = [];
        are_rows = first_none nodes surroundings;
        all = refl;
        known = known;
        kept = kept;
        failures = ap (found_seen (table_of pass.known)) found;
        ids = subst (AreKnownFailures (table_of pass.known)) (sym found) (All-nil (IsKnownFailure (table_of pass.known)));
        broken = ap (option_map broken_seen) broken;
        passed = passed;
      }

  module _ (handle : ℕ) (before : Pass) (was : IsPassOver nodes surroundings handle before) where
    -- what was known goes in to the row
    pub known_before : IsKnownOf nodes surroundings handle (facts_seen before.known) before.known
    known_before = known_itself nodes surroundings handle before.known was.known

    pub kept_before : IsKeptOf nodes surroundings (facts_seen before.known) handle before.statements
    kept_before = subst (λ (facts : List Fact). IsKeptOf nodes surroundings facts handle before.statements) (sym was.known.facts) was.kept

    module _ (between : Known) (stays : IsKnownOf nodes surroundings handle (facts_seen before.known) between) where
      facts_same : facts_seen between ≡ facts_of was.rows
      facts_same = stays.facts ∙ was.known.facts

      -- and what is known then to what is kept
      pub known_between : IsKnownOf nodes surroundings handle (facts_seen between) between
      known_between = known_itself nodes surroundings handle between stays

      pub kept_between : IsKeptOf nodes surroundings (facts_seen between) handle before.statements
      kept_between = subst (λ (facts : List Fact). IsKeptOf nodes surroundings facts handle before.statements) (sym facts_same) was.kept

      module _ (after : Pass) (row : NodeRow) (tells : TellsAccessedRow nodes surroundings before.known between handle before.found after.found row)
          (within : handle < length nodes) where
        abbrev meant : Row
        meant = tells.0

        abbrev rows : List Row
        rows = was.rows ++ meant ∷ []

        -- it is the row of the next node
        next_row : IsUnitRow nodes surroundings (facts_of was.rows) (length was.rows) meant
        next_row =
            subst (λ (n : ℕ). IsUnitRow nodes surroundings (facts_of was.rows) n meant) (sym was.all)
            (subst (λ (facts : List Fact). IsUnitRow nodes surroundings facts handle meant) was.known.facts tells.1)

        facts_now : facts_seen between ++ node_seen (table_of between) row.fact ∷ [] ≡ facts_of rows
        facts_now =
            ap₂ (λ front last. front ++ last ∷ []) facts_same (ap (λ (r : KeptRow). r.fact) tells.2.row)
            ∙ sym (facts_more was.rows meant)

        next : handle + 1 ≡ suc handle
        next = omega arith

        failures_now : (new : TypeTable) → Extends (table_of before.known) new → Extends (table_of between) new
            → found_seen new after.found ≡ gathered (failures_at nodes surroundings rows) (suc handle)
        failures_now new extends later =
            appended_seen new before.found after.found _ (appended_later (table_of between) new later before.found after.found _ tells.2.failures)
            ∙ ap (λ front. front ++ (accessed nodes surroundings handle meant).failures)
            (failures_later (table_of before.known) new extends before.found was.ids ∙ was.failures)
            ∙ sym (failures_more nodes surroundings was.rows meant handle was.all)

        broken_now : option_map broken_seen after.broken ≡ lesser (option_map broken_seen before.broken) (option_map broken_seen row.broken)
            → option_map broken_seen after.broken ≡ least_broken (gathered (broken_at rows) (suc handle))
        broken_now is =
            is ∙ ap₂ lesser was.broken (ap (λ (r : KeptRow). r.broken) tells.2.row)
            ∙ sym (least_both (gathered (broken_at was.rows) handle) meant.broken)
            ∙ ap least_broken (sym (broken_more nodes surroundings was.rows meant handle was.all))

        passed_now : after.passed ≡ lowest before.passed row.passed → after.passed ≡ least_token (gathered (passed_at rows) (suc handle))
        passed_now is =
            is ∙ ap₂ lowest was.passed (ap (λ (r : KeptRow). r.passed) tells.2.row)
            ∙ sym (lowest_both (gathered (passed_at was.rows) handle) meant.passed)
            ∙ ap least_token (sym (passed_more nodes surroundings was.rows meant handle was.all))

        pub pass_more :
            IsKnownOf nodes surroundings (handle + 1) (facts_seen between ++ node_seen (table_of between) row.fact ∷ []) after.known
            → IsKeptOf nodes surroundings (facts_seen between ++ node_seen (table_of between) row.fact ∷ []) (handle + 1) after.statements
            → Extends (table_of between) (table_of after.known)
            → option_map broken_seen after.broken ≡ lesser (option_map broken_seen before.broken) (option_map broken_seen row.broken)
            → after.passed ≡ lowest before.passed row.passed → IsPassOver nodes surroundings (handle + 1) after
        pass_more known kept extends lesser_is lowest_is =
            let old = table_of before.known in
            let new = table_of after.known in
            let later : Extends old new = Extends-twice old (table_of between) new tells.2.keeps.extends extends in
            let appends = appended_later (table_of between) new extends before.found after.found _ tells.2.failures in
            subst (λ (count : ℕ). IsPassOver nodes surroundings count after) (sym next)
            (record {
              rows = rows;
              are_rows = first_more nodes surroundings was.rows meant was.are_rows (omega (arith, within, was.all)) next_row;
              all = omega (arith, was.all, length-append was.rows (meant ∷ []));
              known = subst (λ (facts : List Fact). IsKnownOf nodes surroundings (suc handle) facts after.known) facts_now
                  (subst (λ (count : ℕ). IsKnownOf nodes surroundings count (facts_seen between ++ node_seen (table_of between) row.fact ∷ []) after.known) next known);
              kept = subst (λ (facts : List Fact). IsKeptOf nodes surroundings facts (suc handle) after.statements) facts_now
                  (subst (λ (count : ℕ). IsKeptOf nodes surroundings (facts_seen between ++ node_seen (table_of between) row.fact ∷ []) count after.statements) next kept);
              failures = failures_now new later extends;
              ids = appended_known new before.found after.found _ appends (failures_known old new later before.found was.ids);
              broken = broken_now lesser_is;
              passed = passed_now lowest_is;
            })
