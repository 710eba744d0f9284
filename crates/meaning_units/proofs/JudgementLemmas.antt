-- A laid unit has at most one judgement.
use Rattle.std.proofs.Common.{◌≡◌, ℕ, List, length, Contains, Option, Some, None, refl, sym, ap, subst, ◌∙◌}
use Rattle.std.proofs.lemmas.Option.{none-some, same_Some}
use Rattle.meaning_warnings.proofs.Listings.{in_order, lists, unique}
use Rattle.meaning_typing.specs.Rows.{Row}
use Rattle.meaning_typing.specs.Units.{UnitNodes}
use Rattle.meaning_typing.specs.Surroundings.{Surrounding, AreSurroundings}
use Rattle.meaning_typing.specs.Building.{surroundings_of}
use Rattle.meaning_typing.specs.laws.Surroundings.{IsLaidUnit}
use Rattle.meaning_typing.proofs.Surroundings.{surroundings_are_unique, surroundings_are_found}
use Rattle.meaning_rules.specs.Rules.{least_broken, least_token, Judgement, Holds, first_refusal}
use Rattle.meaning_rules.proofs.Gathered.{gathered-has, gathered-from}
use Rattle.meaning_units.specs.WholeRows.{AreRows, broken_at, failures_at}
use Rattle.meaning_units.specs.WholeRules.{IsJudged, holds, refused, broken_in, failures_in, passed_in}
use Rattle.meaning_units.specs.Laws.{BrokenAreGathered, FailuresAreGathered, JudgementsAreUnique, JudgementsExist}
use Rattle.meaning_units.proofs.RowLemmas.{rows_are_unique, rows_exist}

-- Judgements

-- in given surroundings, with given rows
judged-once :
    (nodes : UnitNodes) (surroundings : List Surrounding) (rows : List Row) (judgement other : Judgement)
    → IsJudged nodes surroundings rows judgement → IsJudged nodes surroundings rows other → judgement ≡ other
judged-once nodes surroundings rows _ _ (holds listing none is) (holds other also_none also) =
    ap Holds (unique listing other is.ordered also.ordered (λ failure. is.same failure ∙ sym (also.same failure)))
judged-once nodes surroundings rows _ _ (holds listing none is) (refused other some) = absurd (none-some other (sym none ∙ some))
judged-once nodes surroundings rows _ _ (refused judgement some) (holds listing none is) = absurd (none-some judgement (sym none ∙ some))
judged-once nodes surroundings rows _ _ (refused judgement some) (refused other also) = same_Some judgement other (sym some ∙ also)

pub judgements_are_unique : JudgementsAreUnique
judgements_are_unique nodes judgement other unit is also =
    let same_surroundings = surroundings_are_unique nodes is.0 also.0 unit is.2 also.2 in
    let in_same : AreRows nodes is.0 also.1 = subst (λ surroundings. AreRows nodes surroundings also.1) (sym same_surroundings) also.3 in
    let same_rows = rows_are_unique nodes is.0 is.1 also.1 is.3 in_same in
    judged-once nodes is.0 is.1 judgement other is.4
    (subst (λ rows. IsJudged nodes is.0 rows other) (sym same_rows)
    (subst (λ surroundings. IsJudged nodes surroundings also.1 other) (sym same_surroundings) also.4))

-- by whether something is refused
judged-by :
    (nodes : UnitNodes) (surroundings : List Surrounding) (rows : List Row) (refusal : Option Judgement)
    → first_refusal (least_broken (broken_in nodes rows)) (least_token (passed_in nodes rows)) ≡ refusal
    → (judgement : Judgement) × IsJudged nodes surroundings rows judgement
judged-by nodes surroundings rows None none =
    (Holds (in_order (failures_in nodes surroundings rows)), holds _ none (lists (failures_in nodes surroundings rows)))
judged-by nodes surroundings rows (Some judgement) some = (judgement, refused judgement some)

pub judgements_exist : JudgementsExist
judgements_exist nodes unit nested =
    let surroundings = surroundings_of nodes in
    let are = surroundings_are_found nodes unit in
    let rows = rows_exist nodes surroundings (nested surroundings are) in
    let judged = judged-by nodes surroundings rows.0 _ refl in
    (judged.0, (surroundings, rows.0, are, rows.1, judged.1))

-- What nodes have, one after the other

-- what a node has in some surroundings and rows of a unit, it has in all
module _ {A : Type 0} (of_unit : List Surrounding → List Row → ℕ → List A) where
  in-all :
      (nodes : UnitNodes) (surroundings others : List Surrounding) (rows more : List Row) → IsLaidUnit nodes
      → AreSurroundings nodes surroundings → AreRows nodes surroundings rows → AreSurroundings nodes others → AreRows nodes others more
      → (handle : ℕ) (x : A) → Contains (of_unit others more handle) x → Contains (of_unit surroundings rows handle) x
  in-all nodes surroundings others rows more unit are known also also_known handle x is =
      let same_surroundings = surroundings_are_unique nodes others surroundings unit also are in
      let same_rows =
      rows_are_unique nodes surroundings more rows (subst (λ s. AreRows nodes s more) same_surroundings also_known) known in
      subst (λ r. Contains (of_unit surroundings r handle) x) same_rows
      (subst (λ s. Contains (of_unit s more handle) x) same_surroundings is)

pub failures_are_gathered : FailuresAreGathered
failures_are_gathered nodes surroundings rows unit are known failure = (
  λ fails. gathered-has (failures_at nodes surroundings rows) (length nodes) fails.2 failure fails.5
      (in-all (failures_at nodes) nodes surroundings fails.0 rows fails.1 unit are known fails.3 fails.4 fails.2 failure fails.6),
  λ is.
      let found = gathered-from (failures_at nodes surroundings rows) (length nodes) failure is in
      (surroundings, rows, found.0, are, known, found.1, found.2),
)

pub broken_are_gathered : BrokenAreGathered
broken_are_gathered nodes surroundings rows unit are known broken = (
  λ breaks. gathered-has (broken_at rows) (length nodes) breaks.2 broken breaks.5
      (in-all (λ s r. broken_at r) nodes surroundings breaks.0 rows breaks.1 unit are known breaks.3 breaks.4 breaks.2 broken breaks.6),
  λ is.
      let found = gathered-from (broken_at rows) (length nodes) broken is in
      (surroundings, rows, found.0, are, known, found.1, found.2),
)
