-- Rows that break something, and rows that break more.
use Rattle.std.proofs.Common.{◌≡◌, ℕ, List, [], ◌∷◌, ◌++◌, Option, Some, None, IfSome, option_map, refl, sym, ap, subst, ◌∙◌}
use Rattle.std.proofs.lemmas.Option.{none-some}
use Rattle.sparse_model.specs.declared.failure.Failure.{Failure}
use Rattle.meaning_operands.specs.Failures as meaning
use Rattle.meaning_rules.specs.Rules.{least_broken, least_token, lesser}
use Rattle.meaning_typing.specs.Facts.{Fact, Unknown}
use Rattle.meaning_typing.specs.Rows.{Row, breaks, known, nothing}
use Rattle.meaning_typing.specs.Wholes.{and_breaks}
use Rattle.meaning_typing.specs.WholeTyping.{declared_unless}
use Rattle.c_types.specs.Table.{TypeTable}
use Rattle.node_facts.specs.declared.fact.NodeFact.{NodeFact}
use Rattle.node_facts.specs.declared.fact.NodeFact.TheVariants as facts
use Rattle.node_facts.specs.Facts.{IsKnownNodeFact, node_seen}
use Rattle.node_facts.proofs.GrowthLemmas.{joins_none}
use Rattle.expression_rows.specs.declared.row.Broken.{Broken}
use Rattle.expression_rows.specs.Arguments.{Appends, listed_failure}
use Rattle.expression_rows.specs.Parts.{unless}
use Rattle.expression_rows.specs.Rows.{IsKnownFailure, broken_seen, failure_listed}
use Rattle.expression_rows.proofs.LeastLemmas.{least_both, unless_told}
use Rattle.declaration_rows.proofs.LeastLemmas.{nothing_broken}
use Rattle.expr_judge.specs.declared.row.NodeRow.{NodeRow}
use Rattle.expr_judge.specs.Rows.{KeptRow, SaysOnly, Tells, known_row, row_kept, row_seen}
use Rattle.expr_judge.proofs.TellingLemmas.{one_known, one_listed}
use Rattle.declaration_judge.specs.Rows.{broken_row, kept_and, row_without_type}

-- nothing is known, and this is broken
pub says_broken : (table : TypeTable) (row : NodeRow) (broken : Option Broken) (meant : List meaning.Broken) → row ≡ broken_row broken
    → option_map broken_seen broken ≡ least_broken meant → SaysOnly table row (breaks meant)
says_broken table row broken meant made least =
    subst (λ (said : NodeRow). SaysOnly table said (breaks meant)) (sym made)
    (record { row = λ i. record { fact = Unknown; broken = least i; passed = None }; ids = tt; silent = refl })

-- What is broken besides

lesser_none : (least : Option meaning.Broken) → lesser least None ≡ least
lesser_none None = refl
lesser_none (Some broken) = refl

and_least : (row : KeptRow) (least : Option meaning.Broken)
    → record row { fact = unless least row.fact; broken = lesser row.broken least } ≡ kept_and row least
and_least row None = ap (λ broken. record row { broken = broken }) (lesser_none row.broken)
and_least row (Some broken) = refl

-- it is kept by the least of what it breaks besides
pub and_kept : (row : Row) (broken : List meaning.Broken) → kept_and (row_kept row) (least_broken broken) ≡ row_kept (and_breaks row broken)
and_kept row broken =
    sym (and_least (row_kept row) (least_broken broken))
    ∙ (λ i. record { fact = unless_told broken row.fact i; broken = sym (least_both row.broken broken) i; passed = least_token row.passed })

module _ (table : TypeTable) (row said : NodeRow) (broken : Option Broken) (meant : Row) (more : List meaning.Broken)
    (made : row_seen table said ≡ kept_and (row_seen table row) (option_map broken_seen broken))
    (least : option_map broken_seen broken ≡ least_broken more) where
  pub kept_more : row_seen table row ≡ row_kept meant → row_seen table said ≡ row_kept (and_breaks meant more)
  kept_more is = made ∙ (λ i. kept_and (is i) (least i)) ∙ and_kept meant more

  pub says_more : SaysOnly table row meant → IsKnownNodeFact table said.fact → SaysOnly table said (and_breaks meant more)
  says_more says id = record { row = kept_more says.row; ids = id; silent = says.silent }

-- Declarators, by whether their parts break something

module _ (parts names : List meaning.Broken) (declared : Row) (passed : List ℕ) where
  abbrev pub declarator_row : Row
  declarator_row = record (declared_unless parts names declared) { passed = passed }

  pub row_typed : None ≡ least_broken parts → declarator_row ≡ record declared { passed = passed }
  row_typed none = ap (λ broken. record (declared_unless broken names declared) { passed = passed }) (nothing_broken parts none)

pub row_untyped : (parts names : List meaning.Broken) (declared : Row) (passed : List ℕ) (broken : meaning.Broken) → Some broken ≡ least_broken parts
    → row_kept (declarator_row parts names declared passed) ≡ row_without_type (least_broken parts) (least_broken names) (least_token passed)
row_untyped [] names declared passed broken some = absurd (none-some broken (sym some))
row_untyped (first ∷ others) names declared passed broken some =
    λ i. record { fact = Unknown; broken = least_both (first ∷ others) names i; passed = least_token passed }

pub untyped_silent : (parts names : List meaning.Broken) (declared : Row) (passed : List ℕ) (broken : meaning.Broken) → Some broken ≡ least_broken parts
    → (declarator_row parts names declared passed).failures ≡ []
untyped_silent [] names declared passed broken some = absurd (none-some broken (sym some))
untyped_silent (first ∷ others) names declared passed broken some = refl

-- Failures

pub appends_one : (table : TypeTable) (before after : List Failure) (failure : Option Failure) (meant : List meaning.Failure)
    → after ≡ before ++ listed_failure failure → failure_listed table failure ≡ meant → IfSome failure (IsKnownFailure table)
    → Appends table before after meant
appends_one table before after failure meant appended listed known =
    (listed_failure failure, appended, one_listed table failure ∙ listed, one_known table failure known)

-- a row of which failures alone are told
pub tells_failures : (table : TypeTable) (before after : List Failure) (row : NodeRow) (meant : List meaning.Failure) → row ≡ known_row facts.Unknown
    → Appends table before after meant → Tells table table before after row (record nothing { failures = meant })
tells_failures table before after row meant made appends =
    subst (λ (said : NodeRow). Tells table table before after said (record nothing { failures = meant })) (sym made)
    (record { row = refl; ids = tt; failures = appends; keeps = joins_none table })

-- a row of which this alone is known
pub says_known : (table : TypeTable) (row : NodeRow) (fact : NodeFact) (meant : Fact) → row ≡ known_row fact → node_seen table fact ≡ meant
    → IsKnownNodeFact table fact → SaysOnly table row (known meant)
says_known table row fact meant made is id =
    subst (λ (said : NodeRow). SaysOnly table said (known meant)) (sym made)
    (record { row = λ i. record { fact = is i; broken = None; passed = None }; ids = id; silent = refl })
