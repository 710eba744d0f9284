-- Assertions break all that they say.
use Rattle.std.proofs.Common.{◌≡◌, ℕ, Bool, true, false, Option, if◌then◌else◌, option_map, refl, subst}
use Rattle.vocabulary.specs.declared.error_kind.ErrorKind.TheVariants.{StaticAssertionFailed}
use Rattle.meaning_rules.specs.Rules.{least_broken}
use Rattle.meaning_typing.specs.Facts.{Fact, Unknown, Expression, Specified, Declared, NamedType}
use Rattle.meaning_typing.specs.Rows.{breaks, breaks_at, nothing}
use Rattle.meaning_typing.specs.WholeTyping.{assertion_row, holds_number}
use Rattle.c_types.specs.Table.{TypeTable}
use Rattle.expression_rows.specs.declared.row.Broken.{Broken}
use Rattle.expression_rows.specs.Rows.{broken_seen}
use Rattle.expr_judge.specs.declared.row.NodeRow.{NodeRow}
use Rattle.expr_judge.specs.Rows.{SaysOnly}
use Rattle.declaration_judge.specs.Rows.{broken_row}
use Rattle.declaration_judge.proofs.RowLemmas.{says_broken}

module _ (token : ℕ) where
  by_test : (test : Bool)
      → breaks (if test then nothing else breaks (breaks_at StaticAssertionFailed token)).broken
      ≡ (if test then nothing else breaks (breaks_at StaticAssertionFailed token))
  by_test true = refl
  by_test false = refl

  asserted_breaks : (asserted : Fact) → breaks (assertion_row token asserted).broken ≡ assertion_row token asserted
  asserted_breaks Unknown = refl
  asserted_breaks (Expression expression) = by_test (holds_number expression.constant)
  asserted_breaks (Specified specifiers) = refl
  asserted_breaks (Declared declaration) = refl
  asserted_breaks (NamedType type_) = refl

  pub says_asserted : (table : TypeTable) (row : NodeRow) (broken : Option Broken) (asserted : Fact) → row ≡ broken_row broken
      → option_map broken_seen broken ≡ least_broken (assertion_row token asserted).broken → SaysOnly table row (assertion_row token asserted)
  says_asserted table row broken asserted made least =
      subst (SaysOnly table row) (asserted_breaks asserted) (says_broken table row broken (assertion_row token asserted).broken made least)
