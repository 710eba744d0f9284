-- A laid unit has one judgement.
use Rattle.std.proofs.Common.{◌≡◌, ℕ, List, length, Contains, Option, Some, None, refl, sym, ap, subst, ◌∙◌}
use Rattle.std.proofs.lemmas.Option.{none-some, same_Some}
use Rattle.meaning_warnings.proofs.Listings.{in_order, lists, unique}
use Rattle.meaning_typing.specs.Units.{UnitNodes}
use Rattle.meaning_typing.specs.Surroundings.{Surrounding, AreSurroundings}
use Rattle.meaning_typing.specs.Facts.{Fact}
use Rattle.meaning_typing.specs.WholeTyping.{whole_facts_of}
use Rattle.meaning_typing.specs.Building.{surroundings_of}
use Rattle.meaning_typing.specs.laws.Surroundings.{IsLaidUnit}
use Rattle.meaning_typing.proofs.Surroundings.{surroundings_are_unique, surroundings_are_found}
use Rattle.meaning_judgements.proofs.FactLemmas.{whole_facts_are_found, whole_facts_are_unique}
use Rattle.meaning_judgements.specs.WholeFacts.{AreWholeFacts, whole_broken_at, whole_failures_at}
use Rattle.meaning_rules.specs.Rules.{least_broken, least_token, Judgement, Holds, first_refusal}
use Rattle.meaning_rules.proofs.Gathered.{gathered-has, gathered-from}
use Rattle.meaning_judgements.specs.WholeRules.{IsWholeJudged, holds, refused, whole_broken_in, whole_failures_in, whole_passed_in}
use Rattle.meaning_judgements.specs.Laws.{BrokenAreGathered, FailuresAreGathered, WholeJudgementsAreUnique, WholeJudgementsExist}

-- Judgements

-- in given surroundings, with given facts
judged-once :
    (nodes : UnitNodes) (surroundings : List Surrounding) (facts : List Fact) (judgement other : Judgement)
    → IsWholeJudged nodes surroundings facts judgement → IsWholeJudged nodes surroundings facts other → judgement ≡ other
judged-once nodes surroundings facts _ _ (holds listing none is) (holds other also_none also) =
    ap Holds (unique listing other is.ordered also.ordered (λ failure. is.same failure ∙ sym (also.same failure)))
judged-once nodes surroundings facts _ _ (holds listing none is) (refused other some) = absurd (none-some other (sym none ∙ some))
judged-once nodes surroundings facts _ _ (refused judgement some) (holds listing none is) = absurd (none-some judgement (sym none ∙ some))
judged-once nodes surroundings facts _ _ (refused judgement some) (refused other also) = same_Some judgement other (sym some ∙ also)

pub judgements_are_unique : WholeJudgementsAreUnique
judgements_are_unique nodes judgement other unit is also =
    let same_surroundings = surroundings_are_unique nodes is.0 also.0 unit is.2 also.2 in
    let in_same : AreWholeFacts nodes is.0 also.1 = subst (λ surroundings. AreWholeFacts nodes surroundings also.1) (sym same_surroundings) also.3 in
    let same_facts = whole_facts_are_unique nodes is.0 is.1 also.1 is.3 in_same in
    judged-once nodes is.0 is.1 judgement other is.4
    (subst (λ facts. IsWholeJudged nodes is.0 facts other) (sym same_facts)
    (subst (λ surroundings. IsWholeJudged nodes surroundings also.1 other) (sym same_surroundings) also.4))

-- by whether something is refused
judged-by :
    (nodes : UnitNodes) (surroundings : List Surrounding) (facts : List Fact) (refusal : Option Judgement)
    → first_refusal (least_broken (whole_broken_in nodes surroundings facts)) (least_token (whole_passed_in nodes surroundings facts)) ≡ refusal
    → (judgement : Judgement) × IsWholeJudged nodes surroundings facts judgement
judged-by nodes surroundings facts None none =
    (Holds (in_order (whole_failures_in nodes surroundings facts)), holds _ none (lists (whole_failures_in nodes surroundings facts)))
judged-by nodes surroundings facts (Some judgement) some = (judgement, refused judgement some)

pub judgements_exist : WholeJudgementsExist
judgements_exist nodes unit =
    let surroundings = surroundings_of nodes in
    let facts = whole_facts_of nodes surroundings in
    let judged = judged-by nodes surroundings facts _ refl in
    (judged.0, (surroundings, facts, surroundings_are_found nodes unit, whole_facts_are_found nodes surroundings, judged.1))

-- What nodes have, one after the other

-- what a node has in some surroundings and facts of a unit, it has in all
module _ {A : Type 0} (of_unit : UnitNodes → List Surrounding → List Fact → ℕ → List A) where
  in-all :
      (nodes : UnitNodes) (surroundings others : List Surrounding) (facts more : List Fact) → IsLaidUnit nodes
      → AreSurroundings nodes surroundings → AreWholeFacts nodes surroundings facts → AreSurroundings nodes others → AreWholeFacts nodes others more
      → (handle : ℕ) (x : A) → Contains (of_unit nodes others more handle) x → Contains (of_unit nodes surroundings facts handle) x
  in-all nodes surroundings others facts more unit are known also also_known handle x is =
      let same_surroundings = surroundings_are_unique nodes others surroundings unit also are in
      let same_facts =
      whole_facts_are_unique nodes surroundings more facts (subst (λ s. AreWholeFacts nodes s more) same_surroundings also_known) known in
      subst (λ f. Contains (of_unit nodes surroundings f handle) x) same_facts
      (subst (λ s. Contains (of_unit nodes s more handle) x) same_surroundings is)

pub failures_are_gathered : FailuresAreGathered
failures_are_gathered nodes surroundings facts unit are known failure = (
  λ fails. gathered-has (whole_failures_at nodes surroundings facts) (length nodes) fails.2 failure fails.5
      (in-all whole_failures_at nodes surroundings fails.0 facts fails.1 unit are known fails.3 fails.4 fails.2 failure fails.6),
  λ is.
      let found = gathered-from (whole_failures_at nodes surroundings facts) (length nodes) failure is in
      (surroundings, facts, found.0, are, known, found.1, found.2),
)

pub broken_are_gathered : BrokenAreGathered
broken_are_gathered nodes surroundings facts unit are known broken = (
  λ breaks. gathered-has (whole_broken_at nodes surroundings facts) (length nodes) breaks.2 broken breaks.5
      (in-all whole_broken_at nodes surroundings breaks.0 facts breaks.1 unit are known breaks.3 breaks.4 breaks.2 broken breaks.6),
  λ is.
      let found = gathered-from (whole_broken_at nodes surroundings facts) (length nodes) broken is in
      (surroundings, facts, found.0, are, known, found.1, found.2),
)
