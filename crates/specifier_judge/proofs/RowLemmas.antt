-- Rows that were taken over tell what the rows of the definition tell.
use Rattle.std.proofs.Common.{◌≡◌, ℕ, List, ◌++◌, Option, Some, None, IfSome, option_map, refl, sym, ap, subst, ◌∙◌}
use Rattle.std.specs.Borrow.{Bor}
use Rattle.std.specs.Option.{option_copied}
use Rattle.sparse_model.specs.declared.failure.Failure.{Failure}
use Rattle.meaning_operands.specs.Failures as meaning
use Rattle.meaning_rules.specs.Rules.{least_token}
use Rattle.meaning_typing.specs.Facts.{Fact}
use Rattle.meaning_typing.specs.Rows.{Row, known}
use Rattle.meaning_typing.specs.WholeTyping.{row_of_tag}
use Rattle.c_types.specs.Table.{TypeTable}
use Rattle.node_facts.specs.declared.fact.NodeFact.{NodeFact}
use Rattle.node_facts.specs.Facts.{IsKnownNodeFact, node_seen}
use Rattle.node_facts.specs.Growing.{TypesJoin}
use Rattle.expression_rows.specs.declared.row.Broken.{Broken}
use Rattle.expression_rows.specs.Arguments.{Appends, listed_failure}
use Rattle.expression_rows.specs.Rows.{IsKnownFailure, Told, broken_seen, failure_listed, told}
use Rattle.tag_rows.specs.declared.row.TagRow.{TagRow}
use Rattle.tag_rows.specs.Seen.{broken_listed}
use Rattle.tag_rows.specs.Seen as tags
use Rattle.enum_rows.specs.declared.row.EnumRow.{EnumRow}
use Rattle.enum_rows.specs.Rows.{IsKnownRow}
use Rattle.enum_rows.specs.Rows as enumerations
use Rattle.aggregate_rows.specs.declared.row.AggregateRow.{AggregateRow}
use Rattle.aggregate_rows.specs.Seen.{passed_listed}
use Rattle.aggregate_rows.specs.Seen as aggregates
pub use Rattle.aggregate_rows.proofs.RowLemmas.{first_body_is_all}
use Rattle.expr_judge.specs.declared.row.NodeRow.{NodeRow}
use Rattle.expr_judge.specs.Rows.{SaysOnly, Tells, known_row, row_kept, row_seen}
use Rattle.expr_judge.proofs.TellingLemmas.{one_known, one_listed}
use Rattle.specifier_judge.specs.Rows.{aggregate_taken, enum_taken, kept_tagged, tag_taken}

one_passed : (passed : Option ℕ) → passed ≡ least_token (passed_listed passed)
one_passed None = refl
one_passed (Some token) = refl

module _ (table : TypeTable) where
  pub says_tag : (row : TagRow) (meant : Row) → tags.row_seen table row ≡ told meant → IsKnownNodeFact table row.fact → SaysOnly table (tag_taken row) meant
  says_tag row meant is id =
      record {
        row = λ i. record { fact = (is i).fact; broken = (is i).broken; passed = least_token (is i).passed };
        ids = id;
        silent = sym (ap (λ (row : Told). row.failures) is);
      }

  pub says_aggregate : (row : AggregateRow) (meant : Row) → aggregates.row_seen table row ≡ told meant → IsKnownNodeFact table row.fact
      → SaysOnly table (aggregate_taken row) meant
  says_aggregate row meant is id =
      record {
        row =
            (λ i. record { fact = node_seen table row.fact; broken = option_map broken_seen row.broken; passed = one_passed row.passed i })
            ∙ (λ i. record { fact = (is i).fact; broken = (is i).broken; passed = least_token (is i).passed });
        ids = id;
        silent = sym (ap (λ (row : Told). row.failures) is);
      }

  -- a row of which this alone is known
  pub says_known : (row : NodeRow) (fact : NodeFact) (meant : Fact) → row ≡ known_row fact → node_seen table fact ≡ meant → IsKnownNodeFact table fact
      → SaysOnly table row (known meant)
  says_known row fact meant made is id =
      subst (λ (said : NodeRow). SaysOnly table said (known meant)) (sym made)
      (record { row = λ i. record { fact = is i; broken = None; passed = None }; ids = id; silent = refl })

-- What is behind a reference that may be there

pub copied_map : {T X : Type 0} (f : T → X) (found : Option (Bor T)) → option_map (λ x. f x.now) found ≡ option_map f (option_copied found)
copied_map f None = refl
copied_map f (Some x) = refl

pub copied_some : {T : Type 0} (P : T → Type 0) (found : Option (Bor T)) → IfSome (option_copied found) P → IfSome found (λ x. P x.now)
copied_some P None known = tt
copied_some P (Some x) known = known

-- Enumerations and enumerators

-- it is kept by what is broken at its tag
tagged_kept : (broken : Option Broken) (row : Row) → kept_tagged (option_map broken_seen broken) (row_kept row) ≡ row_kept (row_of_tag (broken_listed broken) row)
tagged_kept None row = refl
tagged_kept (Some broken) row = refl

module _ (old new : TypeTable) (before after : List Failure) (join : TypesJoin old new) (row : EnumRow) (meant : Row) (is : enumerations.row_seen new row ≡ told meant) (known : IsKnownRow new row) where
  enum_kept : row_seen new (enum_taken row) ≡ row_kept meant
  enum_kept = λ i. record { fact = (is i).fact; broken = (is i).broken; passed = least_token (is i).passed }

  -- an enumeration, whose failure is appended
  pub tells_enumeration : (said : NodeRow) (broken : Option Broken) (tag : List meaning.Broken) → broken_listed broken ≡ tag
      → row_seen new said ≡ kept_tagged (option_map broken_seen broken) (row_seen new (enum_taken row)) → IsKnownNodeFact new said.fact
      → after ≡ before ++ listed_failure row.failure → Tells old new before after said (row_of_tag tag meant)
  tells_enumeration said broken tag listed seen id appended =
      record {
        row =
            seen
            ∙ ap (kept_tagged (option_map broken_seen broken)) enum_kept
            ∙ tagged_kept broken meant
            ∙ ap (λ broken. row_kept (row_of_tag broken meant)) listed;
        ids = id;
        failures =
            (listed_failure row.failure, appended, one_listed new row.failure ∙ ap (λ (row : Told). row.failures) is, one_known new row.failure known.failure);
        keeps = join;
      }

  -- an enumerator, by which another rule may fail
  pub tells_enumerator : (failure : Option Failure) (meant_failures : List meaning.Failure) → after ≡ before ++ listed_failure failure
      → failure_listed new failure ≡ meant_failures → IfSome failure (IsKnownFailure new)
      → Tells old new before after (enum_taken row) (record meant { failures = meant_failures })
  tells_enumerator failure meant_failures appended listed id =
      record {
        row = enum_kept;
        ids = known.fact;
        failures = (listed_failure failure, appended, one_listed new failure ∙ listed, one_known new failure id);
        keeps = join;
      }
