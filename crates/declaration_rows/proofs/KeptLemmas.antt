-- What was kept of the nodes so far is kept of one node more.
use Rattle.std.proofs.Common.{◌≡◌, ℕ, zero, suc, ◌<◌, ◌≤◌, Bool, true, false, ◌||◌, ◌&&◌, nat_eq, bytes_eq, List, [], ◌∷◌, ◌++◌, length, if◌then◌else◌, refl, sym, ap, ◌∙◌, arith, length-append}
use Rattle.std.proofs.lemmas.Bool.Decides.{nat_tests}
use Rattle.std.proofs.lemmas.List.{get_or_append_left}
use Rattle.sparse_model.specs.declared.ids.NameId.{NameId}
use Rattle.meaning_typing.specs.DeclarationRows.{is_earlier_definition}
use Rattle.meaning_typing.specs.Facts as meaning
use Rattle.meaning_typing.specs.Facts.{Fact, fact_at}
use Rattle.meaning_typing.specs.Surroundings.{Surrounding, surrounding_at}
use Rattle.meaning_typing.specs.Units.{UnitNodes, kind_at}
use Rattle.node_facts.specs.Facts.{name_seen}
use Rattle.declaration_rows.specs.Kept.{AreTentative, declared_by, is_defined_below, tentative_below, tentative_by}

-- Names are seen alike where they have one number

and_true : (test : Bool) → test && true ≡ test
and_true true = refl
and_true false = refl

same_by : (number other : ℕ) (first second : Bool) → nat_eq number 0 ≡ first → nat_eq other 0 ≡ second
    → bytes_eq (if first then [] else number ∷ []) (if second then [] else other ∷ []) ≡ nat_eq number other
same_by number other true true e f = grind (arith, nat_tests)
same_by number other true false e f = grind (arith, nat_tests)
same_by number other false true e f = grind (arith, nat_tests)
same_by number other false false e f = and_true (nat_eq number other)

pub name_same : (name other : NameId) → bytes_eq (name_seen name) (name_seen other) ≡ nat_eq name.0 other.0
name_same name other = same_by name.0 other.0 (nat_eq name.0 0) (nat_eq other.0 0) refl refl

pub turned : (first second : ℕ) → nat_eq first second ≡ nat_eq second first
turned first second = grind (arith, nat_tests)

-- Facts of the nodes so far, and of the next one

module _ (facts : List Fact) (fact : Fact) where
  pub earlier_fact : (handle : ℕ) → handle < length facts → fact_at (facts ++ fact ∷ []) handle ≡ fact_at facts handle
  earlier_fact handle below = get_or_append_left facts (fact ∷ []) meaning.Unknown handle below

pub last_fact : (facts : List Fact) (fact : Fact) → fact_at (facts ++ fact ∷ []) (length facts) ≡ fact
last_fact [] fact = refl
last_fact (first ∷ facts) fact = last_fact facts fact

one_longer : (facts : List Fact) (fact : Fact) → length (facts ++ fact ∷ []) ≡ suc (length facts)
one_longer facts fact = omega (arith, length-append facts (fact ∷ []))

module _ (nodes : UnitNodes) (surroundings : List Surrounding) (facts : List Fact) (fact : Fact) where
  abbrev more : List Fact
  more = facts ++ fact ∷ []

  -- Definitions

  earlier_definitions : (name : List ℕ) (count : ℕ) → count ≤ length facts
      → is_defined_below nodes surroundings more name count ≡ is_defined_below nodes surroundings facts name count
  earlier_definitions name zero within = refl
  earlier_definitions name (suc count) within =
      (λ i. earlier_definitions name count (omega arith) i
      || is_earlier_definition nodes surroundings facts name count (earlier_fact facts fact count (omega arith) i))

  pub definitions_more : (name : List ℕ)
      → is_defined_below nodes surroundings more name (length more)
      ≡ is_defined_below nodes surroundings facts name (length facts) || is_earlier_definition nodes surroundings facts name (length facts) fact
  definitions_more name =
      ap (is_defined_below nodes surroundings more name) (one_longer facts fact)
      ∙ (λ i. earlier_definitions name (length facts) (omega arith) i
      || is_earlier_definition nodes surroundings facts name (length facts) (last_fact facts fact i))

  -- Tentative objects

  earlier_tentative : (count : ℕ) → count ≤ length facts
      → tentative_below nodes surroundings more count ≡ tentative_below nodes surroundings facts count
  earlier_tentative zero within = refl
  earlier_tentative (suc count) within =
      (λ i. earlier_tentative count (omega arith) i
      ++ tentative_by nodes count (surrounding_at surroundings count) (declared_by (kind_at nodes count) (earlier_fact facts fact count (omega arith) i)))

  tentative_more :
      tentative_below nodes surroundings more (length more)
      ≡ tentative_below nodes surroundings facts (length facts)
      ++ tentative_by nodes (length facts) (surrounding_at surroundings (length facts)) (declared_by (kind_at nodes (length facts)) fact)
  tentative_more =
      ap (tentative_below nodes surroundings more) (one_longer facts fact)
      ∙ (λ i. earlier_tentative (length facts) (omega arith) i
      ++ tentative_by nodes (length facts) (surrounding_at surroundings (length facts)) (declared_by (kind_at nodes (length facts)) (last_fact facts fact i)))

  pub tentative_kept : (old new : List ℕ) (handle : ℕ) (surrounding : Surrounding) → length facts ≡ handle → surrounding_at surroundings handle ≡ surrounding
      → new ≡ old ++ tentative_by nodes handle surrounding (declared_by (kind_at nodes handle) fact) → AreTentative nodes surroundings facts old → AreTentative nodes surroundings more new
  tentative_kept old new handle surrounding here stands joins are =
      joins
      ∙ (λ i. are i ++ tentative_by nodes handle (sym stands i) (declared_by (kind_at nodes handle) fact))
      ∙ (λ i. tentative_below nodes surroundings facts (length facts)
      ++ tentative_by nodes (sym here i) (surrounding_at surroundings (sym here i)) (declared_by (kind_at nodes (sym here i)) fact))
      ∙ sym tentative_more
