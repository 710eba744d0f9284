-- Where nothing is initialized, the rows of a unit are those by the rules that know of no initializers.
use Rattle.std.proofs.Common.{◌≡◌, ℕ, zero, suc, ◌<◌, false, List, ◌++◌, length, take, slice_get, Some, option_map, refl, sym, ap, subst, ◌∙◌, arith}
use Rattle.std.proofs.lemmas.List.{length-map, take-map}
use Rattle.std.proofs.lemmas.Option.{get_or_from_slice_get, slice_get-map}
use Rattle.vocabulary.specs.declared.node_kind.NodeKind.{NodeKind}
use Rattle.vocabulary.specs.declared.node_kind.NodeKind.TheVariants as kinds
use Rattle.meaning_warnings.specs.Listing.{IsListing}
use Rattle.meaning_rules.specs.Rules.{Judgement, first_refusal, gathered, least_broken, least_token}
use Rattle.meaning_typing.specs.Facts.{Fact, Unknown, fact_at}
use Rattle.meaning_typing.specs.Rows.{Row, nothing}
use Rattle.meaning_typing.specs.Surroundings.{Surrounding, surrounding_at}
use Rattle.meaning_typing.specs.Typing.{access_failures, token_at}
use Rattle.meaning_typing.specs.Units.{UnitNodes, kind_at}
use Rattle.meaning_typing.specs.WholeTyping.{whole_row_at}
use Rattle.meaning_judgements.specs.UnitRows.{unit_row_at}
use Rattle.meaning_judgements.specs.WholeFacts.{AreWholeFacts, whole_broken_at, whole_failures_at, whole_passed_at}
use Rattle.meaning_judgements.specs.WholeRules as whole
use Rattle.meaning_judgements.proofs.JudgementLemmas as lemmas
use Rattle.meaning_judgements.proofs.RowLemmas.{statements_tell_no_facts}
use Rattle.meaning_units.specs.UnitRows.{row_by_initializer}
use Rattle.meaning_units.specs.WholeRows.{AreRows, IsRowAt, broken_at, facts_of, failures_at, passed_at, row_at}
use Rattle.meaning_units.specs.WholeRules.{IsJudged, IsJudgement, holds, refused, broken_in, failures_in, passed_in}
use Rattle.meaning_units.proofs.JudgementLemmas.{judgements_exist}
use Rattle.meaning_silence.specs.Initializing.{InitializesNothing, is_initializing}
use Rattle.meaning_silence.specs.Laws.{JudgementsAreWhole, RowsAreWhole, WholeJudgementsAreJudgements}

as-without : (kind : NodeKind) (row initializing : Row) → is_initializing kind ≡ false → row_by_initializer kind row initializing ≡ row
as-without kinds.CompoundLiteral row initializing is = absurd (cc is)
as-without kinds.Initializer row initializing is = absurd (cc is)
as-without kind row initializing is = refl

-- what is the same at each node is gathered the same
gathered-same :
    {A : Type 0} (one other : ℕ → List A) (count : ℕ) → ((handle : ℕ) → handle < count → one handle ≡ other handle) → gathered one count ≡ gathered other count
gathered-same one other zero same = refl
gathered-same one other (suc count) same =
    ap (λ before. before ++ one count) (gathered-same one other count (λ handle within. same handle (omega (arith, within))))
    ∙ ap (λ last. gathered other count ++ last) (same count (omega arith))

module _ (nodes : UnitNodes) (surroundings : List Surrounding) (rows : List Row) (no_initializer : InitializesNothing nodes) (are : AreRows nodes surroundings rows) where
  -- Rows

  abbrev fact_of : Row → Fact
  fact_of row = row.fact

  abbrev before : ℕ → List Fact
  before handle = take handle (facts_of rows)

  stands : (handle : ℕ) → handle < length nodes → IsRowAt nodes surroundings rows handle
  stands handle within = are.first.each handle (omega (arith, within, are.all))

  row-at : (handle : ℕ) (within : handle < length nodes) → row_at rows handle ≡ (stands handle within).0
  row-at handle within = get_or_from_slice_get rows handle (stands handle within).0 nothing (stands handle within).1

  pub row-is : (handle : ℕ) → handle < length nodes → row_at rows handle ≡ unit_row_at nodes surroundings (before handle) handle
  row-is handle within =
      let row = (stands handle within).2 in
      row-at handle within
      ∙ row.2
      ∙ as-without (kind_at nodes handle) (unit_row_at nodes surroundings (facts_of (take handle rows)) handle) row.0 (no_initializer handle within)
      ∙ ap (λ earlier. unit_row_at nodes surroundings earlier handle) (sym (take-map fact_of handle rows))

  told : (handle : ℕ) → handle < length nodes → slice_get (facts_of rows) handle ≡ Some (whole_row_at nodes surroundings (before handle) handle).fact
  told handle within =
      slice_get-map fact_of rows handle
      ∙ ap (option_map fact_of) (stands handle within).1
      ∙ ap (λ (row : Row). Some row.fact) (sym (row-at handle within) ∙ row-is handle within)
      ∙ ap Some (statements_tell_no_facts nodes surroundings (before handle) handle)

  pub facts-are : AreWholeFacts nodes surroundings (facts_of rows)
  facts-are = record { all = length-map rows fact_of ∙ are.all; each = told }

  -- What stands at a node

  fact-is : (handle : ℕ) → handle < length nodes → (unit_row_at nodes surroundings (before handle) handle).fact ≡ fact_at (facts_of rows) handle
  fact-is handle within =
      statements_tell_no_facts nodes surroundings (before handle) handle
      ∙ sym (get_or_from_slice_get (facts_of rows) handle _ Unknown (told handle within))

  failures-at : (handle : ℕ) → handle < length nodes → failures_at nodes surroundings rows handle ≡ whole_failures_at nodes surroundings (facts_of rows) handle
  failures-at handle within =
      ap (λ (row : Row). row.failures ++ access_failures (token_at nodes handle) (surrounding_at surroundings handle) row.fact) (row-is handle within)
      ∙ ap (λ (fact : Fact). (unit_row_at nodes surroundings (before handle) handle).failures
      ++ access_failures (token_at nodes handle) (surrounding_at surroundings handle) fact) (fact-is handle within)

  failures-in : failures_in nodes surroundings rows ≡ whole.whole_failures_in nodes surroundings (facts_of rows)
  failures-in = gathered-same (failures_at nodes surroundings rows) (whole_failures_at nodes surroundings (facts_of rows)) (length nodes) failures-at

  broken-in : broken_in nodes rows ≡ whole.whole_broken_in nodes surroundings (facts_of rows)
  broken-in =
      gathered-same (broken_at rows) (whole_broken_at nodes surroundings (facts_of rows)) (length nodes)
      (λ handle within. ap (λ (row : Row). row.broken) (row-is handle within))

  passed-in : passed_in nodes rows ≡ whole.whole_passed_in nodes surroundings (facts_of rows)
  passed-in =
      gathered-same (passed_at rows) (whole_passed_at nodes surroundings (facts_of rows)) (length nodes)
      (λ handle within. ap (λ (row : Row). row.passed) (row-is handle within))

  -- What is told

  refusal-is :
      first_refusal (least_broken (broken_in nodes rows)) (least_token (passed_in nodes rows))
      ≡ first_refusal (least_broken (whole.whole_broken_in nodes surroundings (facts_of rows))) (least_token (whole.whole_passed_in nodes surroundings (facts_of rows)))
  refusal-is =
      ap (λ broken. first_refusal (least_broken broken) (least_token (passed_in nodes rows))) broken-in
      ∙ ap (λ passed. first_refusal (least_broken (whole.whole_broken_in nodes surroundings (facts_of rows))) (least_token passed)) passed-in

  pub judged-so : (judgement : Judgement) → IsJudged nodes surroundings rows judgement → whole.IsWholeJudged nodes surroundings (facts_of rows) judgement
  judged-so _ (holds listing none is) = whole.holds listing (sym refusal-is ∙ none) (subst (λ failures. IsListing failures listing) failures-in is)
  judged-so _ (refused judgement some) = whole.refused judgement (sym refusal-is ∙ some)

-- The laws

pub rows_are_whole : RowsAreWhole
rows_are_whole nodes surroundings rows no_initializer are = (facts-are nodes surroundings rows no_initializer are, row-is nodes surroundings rows no_initializer are)

pub judgements_are_whole : JudgementsAreWhole
judgements_are_whole nodes judgement no_initializer judged = (
  judged.0,
  facts_of judged.1,
  judged.2,
  facts-are nodes judged.0 judged.1 no_initializer judged.3,
  judged-so nodes judged.0 judged.1 no_initializer judged.3 judgement judged.4,
)

pub whole_judgements_are_judgements : WholeJudgementsAreJudgements
whole_judgements_are_judgements nodes judgement unit nested no_initializer is_whole =
    let found = judgements_exist nodes unit nested in
    subst (IsJudgement nodes)
    (lemmas.judgements_are_unique nodes found.0 judgement unit (judgements_are_whole nodes found.0 no_initializer found.1) is_whole) found.1
