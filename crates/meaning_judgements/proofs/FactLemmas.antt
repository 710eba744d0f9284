-- A unit has exactly one list of facts in the same surroundings.
use Rattle.std.proofs.Common.{◌≡◌, ℕ, zero, suc, ◌+◌, ◌<◌, ◌≤◌, List, [], ◌∷◌, length, take, Some, slice_get, refl, sym, ap, ◌∙◌, ◌⊎◌, inl, inr, arith, length-append}
use Rattle.std.proofs.lemmas.List.{take_all, take_more_same, take-append-le}
use Rattle.std.proofs.lemmas.Option.{get_or_from_slice_get}
use Rattle.meaning_typing.proofs.Lists.{stays_at, put_at}
use Rattle.meaning_typing.specs.Units.{UnitNodes}
use Rattle.meaning_typing.specs.Surroundings.{Surrounding}
use Rattle.meaning_typing.specs.Facts.{Fact, Unknown}
use Rattle.meaning_typing.specs.WholeTyping.{first_whole_facts, whole_row_at}
use Rattle.meaning_judgements.specs.Laws.{WholeFactsAreFound, WholeFactsAreUnique}
use Rattle.meaning_judgements.specs.WholeFacts.{AreWholeFacts}

-- Two lists of facts

same-fronts :
    (nodes : UnitNodes) (surroundings : List Surrounding) (facts others : List Fact) → AreWholeFacts nodes surroundings facts
    → AreWholeFacts nodes surroundings others → (count : ℕ) → count ≤ length nodes → take count facts ≡ take count others
same-fronts nodes surroundings facts others are also zero within = refl
same-fronts nodes surroundings facts others are also (suc count) within =
    let before = same-fronts nodes surroundings facts others are also count (omega (arith, within)) in
    let next : suc count ≡ count + 1 = omega arith in
    ap (λ n. take n facts) next
    ∙ take_more_same facts others count Unknown (omega (arith, within, are.all)) (omega (arith, within, also.all)) before
    (get_or_from_slice_get facts count _ Unknown (are.each count (omega (arith, within)))
    ∙ ap (λ earlier. (whole_row_at nodes surroundings earlier count).fact) before
    ∙ sym (get_or_from_slice_get others count _ Unknown (also.each count (omega (arith, within)))))
    ∙ ap (λ n. take n others) (sym next)

pub whole_facts_are_unique : WholeFactsAreUnique
whole_facts_are_unique nodes surroundings facts others are also =
    sym (take_all (length nodes) facts (omega (arith, are.all)))
    ∙ same-fronts nodes surroundings facts others are also (length nodes) (omega arith)
    ∙ take_all (length nodes) others (omega (arith, also.all))

-- The list that is found

earlier-or-last : (count all : ℕ) → count ≤ suc all → (count ≤ all) ⊎ (suc all ≡ count)
earlier-or-last count all within = grind arith

first-length : (nodes : UnitNodes) (surroundings : List Surrounding) (count : ℕ) → length (first_whole_facts nodes surroundings count) ≡ count
first-length nodes surroundings zero = refl
first-length nodes surroundings (suc count) =
    omega (arith, first-length nodes surroundings count, length-append (first_whole_facts nodes surroundings count) ((whole_row_at nodes surroundings (first_whole_facts nodes surroundings count) count).fact ∷ []))

-- its front is what was found of fewer nodes
first-front :
    (nodes : UnitNodes) (surroundings : List Surrounding) (count fewer : ℕ) → fewer ≤ count
    → take fewer (first_whole_facts nodes surroundings count) ≡ first_whole_facts nodes surroundings fewer
first-front nodes surroundings zero fewer within = let none : fewer ≡ 0 = omega (arith, within) in rw none refl
first-front nodes surroundings (suc count) fewer within =
    elim (earlier-or-last fewer count within) [
      | inl earlier ↦
          take-append-le fewer (first_whole_facts nodes surroundings count) _ (omega (arith, earlier, first-length nodes surroundings count))
          ∙ first-front nodes surroundings count fewer earlier
      | inr last ↦
          take_all fewer (first_whole_facts nodes surroundings (suc count)) (omega (arith, last, first-length nodes surroundings (suc count)))
          ∙ ap (first_whole_facts nodes surroundings) last
    ]

first-at :
    (nodes : UnitNodes) (surroundings : List Surrounding) (count handle : ℕ) → handle < count
    → slice_get (first_whole_facts nodes surroundings count) handle ≡ Some (whole_row_at nodes surroundings (first_whole_facts nodes surroundings handle) handle).fact
first-at nodes surroundings zero handle within = absurd (omega (arith, within))
first-at nodes surroundings (suc count) handle within =
    elim (earlier-or-last (suc handle) count within) [
      | inl earlier ↦
          stays_at (first_whole_facts nodes surroundings count) _ handle (omega (arith, earlier, first-length nodes surroundings count))
          ∙ first-at nodes surroundings count handle (omega (arith, earlier))
      | inr last ↦
          let is : handle ≡ count = omega (arith, last) in
          ap (slice_get (first_whole_facts nodes surroundings (suc count))) (is ∙ sym (first-length nodes surroundings count))
          ∙ put_at (first_whole_facts nodes surroundings count) _
          ∙ ap (λ n. Some (whole_row_at nodes surroundings (first_whole_facts nodes surroundings n) n).fact) (sym is)
    ]

pub whole_facts_are_found : WholeFactsAreFound
whole_facts_are_found nodes surroundings =
    record {
      all = first-length nodes surroundings (length nodes);
      each = λ handle within.
          first-at nodes surroundings (length nodes) handle within
          ∙ ap (λ earlier. Some (whole_row_at nodes surroundings earlier handle).fact)
          (sym (first-front nodes surroundings (length nodes) handle (omega (arith, within))));
    }
