-- The carriers tell which declaration is the first with other contexts, and stay right where one joins.
use Rattle.std.proofs.Common.{◌≡◌, ℕ, ◌+◌, ◌≤◌, Bool, true, false, ◌&&◌, ◌||◌, not, nat_eq, List, [], ◌∷◌, ◌++◌, length, Option, Some, None, is_some, is_none, option_map, if◌then◌else◌, refl, sym, ap, ap₂, ◌∙◌, arith, eq-eqb}
use Rattle.std.specs.Option.{option_or}
use Rattle.std.proofs.lemmas.Bool.{eqb-true, false≢true, le-leb, lt-leb}
use Rattle.std.proofs.lemmas.Option.{none-some, same_Some}
use Rattle.meaning_types.specs.Types.{TypeTree}
use Rattle.meaning_types.specs.Composite.{composite}
use Rattle.meaning_typing.specs.ContextSums.{LinkedDeclaration, differs_from, first_contexts, have_other_sums, option_sums}
use Rattle.meaning_typing.specs.ContextSums as meaning
use Rattle.c_types.specs.Table.{TypeTable, type_at}
use Rattle.linked_names.specs.Contexts.{AreCarriers, are_other_sums, carriers_with, declaration_of, first_where, first_carrier_with, has_contexts, has_others, no_carriers, other_carrier, other_than, second_carrier_with, sums_of, types_declared}
use Rattle.linked_names.specs.Witnesses.{PlacedType, first_passing, placed_in}
use Rattle.linked_names.specs.declared.carriers.Carrier.{Carrier}
use Rattle.linked_names.specs.declared.carriers.Carriers.{Carriers}
use Rattle.linked_names.specs.declared.placed.Placed.{Placed}
use Rattle.linked_names.specs.declared.sums.ContextSums.{ContextSums}
use Rattle.linked_names.proofs.JoinLemmas.{map-option_or, option_or-none}
use Rattle.linked_names.proofs.PassingLemmas.{disagrees, earlier_type}

-- The first declaration that passes

-- one more is found where none before it is
pub where-more : (test : LinkedDeclaration → Bool) (place : ℕ) (list : List LinkedDeclaration) (next : LinkedDeclaration)
    → first_where test place (list ++ next ∷ []) ≡ option_or (first_where test place list) (if test next then Some (record { place = place + length list; type_ = next.type_ }) else None)
where-more test place [] next =
    let end : place ≡ place + 0 = omega arith in
    λ i. if test next then Some (record { place = end i; type_ = next.type_ }) else None
where-more test place (declaration ∷ list) next = by (test declaration) (where-more test (place + 1) list next)
  where
    by : (passes : Bool)
        → first_where test (place + 1) (list ++ next ∷ []) ≡ option_or (first_where test (place + 1) list) (if test next then Some (record { place = place + 1 + length list; type_ = next.type_ }) else None)
        → (if passes then Some (record { place = place; type_ = declaration.type_ }) else first_where test (place + 1) (list ++ next ∷ []))
        ≡ option_or (if passes then Some (record { place = place; type_ = declaration.type_ }) else first_where test (place + 1) list)
        (if test next then Some (record { place = place + length (declaration ∷ list); type_ = next.type_ }) else None)
    by true later = refl
    by false later =
        let at : place + 1 + length list ≡ place + length (declaration ∷ list) = omega arith in
        later ∙ ap (λ (end : ℕ). option_or (first_where test (place + 1) list) (if test next then Some (record { place = end; type_ = next.type_ }) else None)) at

-- none is, where none passes
where-never : (test : LinkedDeclaration → Bool) → ((declaration : LinkedDeclaration) → test declaration ≡ false) → (place : ℕ) (list : List LinkedDeclaration)
    → first_where test place list ≡ None
where-never test never place [] = refl
where-never test never place (declaration ∷ list) =
    ap (λ passes. if passes then Some (record { place = place; type_ = declaration.type_ }) else first_where test (place + 1) list) (never declaration)
    ∙ where-never test never (place + 1) list

-- none of those that are asked stands before the first place
where-from : (test : LinkedDeclaration → Bool) (place : ℕ) (list : List LinkedDeclaration) (found : PlacedType) → first_where test place list ≡ Some found → place ≤ found.place
where-from test place [] found is = absurd (none-some found is)
where-from test place (declaration ∷ list) found is = by (test declaration) is (where-from test (place + 1) list found)
  where
    by : (passes : Bool) → (if passes then Some (record { place = place; type_ = declaration.type_ }) else first_where test (place + 1) list) ≡ Some found
        → (first_where test (place + 1) list ≡ Some found → place + 1 ≤ found.place) → place ≤ found.place
    by true is later = omega (arith, ap (λ (one : PlacedType). one.place) (same_Some _ _ is))
    by false is later = omega (arith, later is)

-- of two tests
here-first : (place : ℕ) (type_ : TypeTree) (later : Option PlacedType) → ((found : PlacedType) → later ≡ Some found → place ≤ found.place)
    → earlier_type (Some (record { place = place; type_ = type_ })) later ≡ Some (record { place = place; type_ = type_ })
here-first place type_ None from = refl
here-first place type_ (Some found) from =
    ap (λ (test : Bool). if test then Some (record { place = place; type_ = type_ }) else Some found) (le-leb place found.place (from found refl))

here-second : (place : ℕ) (type_ : TypeTree) (later : Option PlacedType) → ((found : PlacedType) → later ≡ Some found → place + 1 ≤ found.place)
    → earlier_type later (Some (record { place = place; type_ = type_ })) ≡ Some (record { place = place; type_ = type_ })
here-second place type_ None from = refl
here-second place type_ (Some found) from =
    ap (λ (test : Bool). if test then Some found else Some (record { place = place; type_ = type_ })) (lt-leb found.place place (omega (arith, from found refl)))

where-either : (test other : LinkedDeclaration → Bool) (place : ℕ) (list : List LinkedDeclaration)
    → first_where (λ declaration. test declaration || other declaration) place list ≡ earlier_type (first_where test place list) (first_where other place list)
where-either test other place [] = refl
where-either test other place (declaration ∷ list) = by (test declaration) (other declaration) (where-either test other (place + 1) list)
  where
    here : PlacedType
    here = record { place = place; type_ = declaration.type_ }

    by : (passes passes_other : Bool)
        → first_where (λ one. test one || other one) (place + 1) list ≡ earlier_type (first_where test (place + 1) list) (first_where other (place + 1) list)
        → (if passes || passes_other then Some here else first_where (λ one. test one || other one) (place + 1) list)
        ≡ earlier_type (if passes then Some here else first_where test (place + 1) list) (if passes_other then Some here else first_where other (place + 1) list)
    by true true later = sym (here-first place declaration.type_ (Some here) (λ found is. omega (arith, ap (λ (one : PlacedType). one.place) (same_Some _ _ is))))
    by true false later =
        sym (here-first place declaration.type_ (first_where other (place + 1) list) (λ found is. omega (arith, where-from other (place + 1) list found is)))
    by false true later = sym (here-second place declaration.type_ (first_where test (place + 1) list) (where-from test (place + 1) list))
    by false false later = later

-- The first that differs

none-not_some : {X : Type 0} (found : Option X) → is_none found ≡ not (is_some found)
none-not_some None = refl
none-not_some (Some one) = refl

-- by types alone
where-types : (type_ : TypeTree) (place : ℕ) (list : List LinkedDeclaration)
    → first_where (λ declaration. is_none (composite declaration.type_ type_)) place list ≡ first_passing (disagrees type_) place (types_declared list)
where-types type_ place [] = refl
where-types type_ place (declaration ∷ list) =
    ap₂ (λ passes others. if passes then Some (record { place = place; type_ = declaration.type_ }) else others)
    (none-not_some (composite declaration.type_ type_)) (where-types type_ (place + 1) list)

-- it is the first whose type disagrees, or the first with other contexts
pub differing-earlier : (declaration : LinkedDeclaration) (list : List LinkedDeclaration)
    → first_where (differs_from declaration) 0 list
    ≡ earlier_type (first_passing (disagrees declaration.type_) 0 (types_declared list)) (first_where (has_others declaration.contexts) 0 list)
differing-earlier declaration list =
    where-either (λ earlier. is_none (composite earlier.type_ declaration.type_)) (has_others declaration.contexts) 0 list
    ∙ ap (λ found. earlier_type found (first_where (has_others declaration.contexts) 0 list)) (where-types declaration.type_ 0 list)

-- Contexts

others-none : (contexts : Option meaning.ContextSums) → have_other_sums contexts None ≡ false
others-none None = refl
others-none (Some sums) = refl

others-itself : (contexts : Option meaning.ContextSums) → have_other_sums contexts contexts ≡ false
others-itself None = refl
others-itself (Some sums) = λ i. not (eq-eqb sums.enters sums.enters refl i && eq-eqb sums.leaves sums.leaves refl i)

both-true : (one other : Bool) → not (one && other) ≡ false → (one ≡ true) × (other ≡ true)
both-true true true is = (refl, refl)
both-true true false is = absurd (false≢true (sym is))
both-true false other is = absurd (false≢true (sym is))

same_sums : (one other : meaning.ContextSums) → have_other_sums (Some one) (Some other) ≡ false → one ≡ other
same_sums one other is =
    let both = both-true (nat_eq one.enters other.enters) (nat_eq one.leaves other.leaves) is in
    λ i. record { enters = eqb-true one.enters other.enters both.0 i; leaves = eqb-true one.leaves other.leaves both.1 i }

-- what the first contexts tell of others
abbrev pub other_type : Option meaning.ContextSums → Option PlacedType → Option PlacedType → Option meaning.ContextSums → Option PlacedType
other_type (Some own) first second (Some sums) = if have_other_sums (Some own) (Some sums) then first else second
other_type own first second sums = None

-- a declaration with these contexts before others
abbrev with_contexts : LinkedDeclaration → Option meaning.ContextSums → List LinkedDeclaration → List LinkedDeclaration
with_contexts declaration own list = record { type_ = declaration.type_; contexts = own } ∷ list

pub others-told : (contexts : Option meaning.ContextSums) (place : ℕ) (list : List LinkedDeclaration)
    → first_where (has_others contexts) place list
    ≡ other_type (first_contexts list) (first_where has_contexts place list) (first_where (has_others (first_contexts list)) place list) contexts
others-told contexts place [] = refl
others-told contexts place (declaration ∷ list) = by declaration.contexts contexts (others-told contexts (place + 1) list)
  where
    here : PlacedType
    here = record { place = place; type_ = declaration.type_ }

    of_two : (own sums : meaning.ContextSums) (test : Bool) → have_other_sums (Some own) (Some sums) ≡ test
        → (if test then Some here else first_where (has_others (Some sums)) (place + 1) list)
        ≡ (if test then Some here else (if have_other_sums (Some own) (Some own) then Some here else first_where (has_others (Some own)) (place + 1) list))
    of_two own sums true is = refl
    of_two own sums false is =
        ap (λ one. first_where (has_others (Some one)) (place + 1) list) (sym (same_sums own sums is))
        ∙ sym (ap (λ test. if test then Some here else first_where (has_others (Some own)) (place + 1) list) (others-itself (Some own)))

    by : (own contexts : Option meaning.ContextSums)
        → first_where (has_others contexts) (place + 1) list
        ≡ other_type (first_contexts list) (first_where has_contexts (place + 1) list) (first_where (has_others (first_contexts list)) (place + 1) list) contexts
        → first_where (has_others contexts) place (with_contexts declaration own list)
        ≡ other_type (first_contexts (with_contexts declaration own list)) (first_where has_contexts place (with_contexts declaration own list)) (first_where (has_others (first_contexts (with_contexts declaration own list))) place (with_contexts declaration own list)) contexts
    by None contexts later = later
    by (Some own) None later = where-never (has_others None) (λ one. others-none one.contexts) (place + 1) list
    by (Some own) (Some sums) later = of_two own sums (have_other_sums (Some own) (Some sums)) refl

-- By ids

module _ (table : TypeTable) where
  kept-told : (first : Option Carrier) (second : Option Placed) (sums : Option ContextSums)
      → option_map (placed_in table) (other_than first second sums)
      ≡ other_type (option_map (λ carrier. sums_of carrier.sums) first) (option_map (λ carrier. placed_in table carrier.placed) first) (option_map (placed_in table) second) (option_map sums_of sums)
  kept-told None second sums = refl
  kept-told (Some first) second None = refl
  kept-told (Some first) second (Some sums) = by (are_other_sums first.sums sums)
    where
      by : (test : Bool)
          → option_map (placed_in table) (if test then Some first.placed else second) ≡ (if test then Some (placed_in table first.placed) else option_map (placed_in table) second)
      by true = refl
      by false = refl

  pub carriers-told : (list : List LinkedDeclaration) (carriers : Carriers) → AreCarriers table list carriers → (sums : Option ContextSums)
      → option_map (placed_in table) (other_carrier carriers sums) ≡ first_where (has_others (option_map sums_of sums)) 0 list
  carriers-told list carriers are sums =
      kept-told carriers.first carriers.second sums
      ∙ (λ i. other_type (are.sums i) (are.first i) (are.second i) (option_map sums_of sums))
      ∙ sym (others-told (option_map sums_of sums) 0 list)

  -- One declaration more

  pub none-carried : AreCarriers table [] no_carriers
  none-carried = record { first = refl; sums = refl; second = refl }

  contexts-more : (list : List LinkedDeclaration) (next : LinkedDeclaration) → first_contexts (list ++ next ∷ []) ≡ option_sums (first_contexts list) next.contexts
  contexts-more [] next = by next.contexts
    where
      by : (own : Option meaning.ContextSums) → option_sums own None ≡ own
      by None = refl
      by (Some sums) = refl
  contexts-more (declaration ∷ list) next = by declaration.contexts (contexts-more list next)
    where
      by : (own : Option meaning.ContextSums) → first_contexts (list ++ next ∷ []) ≡ option_sums (first_contexts list) next.contexts
          → option_sums own (first_contexts (list ++ next ∷ [])) ≡ option_sums (option_sums own (first_contexts list)) next.contexts
      by None later = later
      by (Some sums) later = refl

  module _ (list : List LinkedDeclaration) (next : Placed) (at_end : next.place ≡ length list) (sums : Option ContextSums) where
    abbrev added : LinkedDeclaration
    added = declaration_of table next.of sums

    abbrev last : PlacedType
    last = record { place = 0 + length list; type_ = type_at table next.of }

    is_last : placed_in table next ≡ last
    is_last =
        let end : next.place ≡ 0 + length list = omega (arith, at_end) in
        λ i. record { place = end i; type_ = type_at table next.of }

    first-joined : (first : Option Carrier) (sums : Option ContextSums) → option_map (λ carrier. placed_in table carrier.placed) first ≡ first_where has_contexts 0 list
        → option_map (λ carrier. placed_in table carrier.placed) (first_carrier_with first next sums)
        ≡ option_or (first_where has_contexts 0 list) (if is_some (option_map sums_of sums) then Some last else None)
    first-joined (Some first) sums is = ap (λ found. option_or found (if is_some (option_map sums_of sums) then Some last else None)) is
    first-joined None None is = ap (λ found. option_or found None) is
    first-joined None (Some sums) is = ap Some is_last ∙ ap (λ found. option_or found (Some last)) is

    sums-joined : (first : Option Carrier) (sums : Option ContextSums) → option_map (λ carrier. sums_of carrier.sums) first ≡ first_contexts list
        → option_map (λ carrier. sums_of carrier.sums) (first_carrier_with first next sums) ≡ option_sums (first_contexts list) (option_map sums_of sums)
    sums-joined (Some first) sums is = ap (λ own. option_sums own (option_map sums_of sums)) is
    sums-joined None None is = ap (λ own. option_sums own None) is
    sums-joined None (Some sums) is = ap (λ own. option_sums own (Some (sums_of sums))) is

    -- where a first one stood already
    second-joined : (first : Carrier) (second : Option Placed) (sums : Option ContextSums) (before : Option PlacedType) → option_map (placed_in table) second ≡ before
        → option_map (placed_in table) (second_carrier_with (Some first) second next sums)
        ≡ option_or before (if have_other_sums (option_map sums_of sums) (Some (sums_of first.sums)) then Some last else None)
    second-joined first second None before is = is ∙ sym (option_or-none before)
    second-joined first second (Some sums) before is =
        map-option_or (placed_in table) second (if are_other_sums sums first.sums then Some next else None)
        ∙ ap₂ option_or is (by (are_other_sums sums first.sums))
      where
        by : (test : Bool) → option_map (placed_in table) (if test then Some next else None) ≡ (if test then Some last else None)
        by true = ap Some is_last
        by false = refl

    -- and where none did
    none-joined : (contexts : Option meaning.ContextSums) → first_contexts list ≡ None
        → first_where (has_others contexts) 0 (list ++ record { type_ = type_at table next.of; contexts = contexts } ∷ []) ≡ None
    none-joined contexts none =
        where-more (has_others contexts) 0 list (record { type_ = type_at table next.of; contexts = contexts })
        ∙ ap₂ option_or
        (others-told contexts 0 list
        ∙ ap (λ own. other_type own (first_where has_contexts 0 list) (first_where (has_others (first_contexts list)) 0 list) contexts) none)
        (ap (λ test. if test then Some last else None) (others-itself contexts))

    seconds : (first : Option Carrier) (second : Option Placed) → option_map (λ carrier. sums_of carrier.sums) first ≡ first_contexts list
        → option_map (placed_in table) second ≡ first_where (has_others (first_contexts list)) 0 list
        → option_map (placed_in table) (second_carrier_with first second next sums) ≡ first_where (has_others (first_contexts (list ++ added ∷ []))) 0 (list ++ added ∷ [])
    seconds (Some first) second own is =
        second-joined first second sums (first_where (has_others (Some (sums_of first.sums))) 0 list) (is ∙ ap (λ contexts. first_where (has_others contexts) 0 list) (sym own))
        ∙ sym (where-more (has_others (Some (sums_of first.sums))) 0 list added)
        ∙ ap (λ contexts. first_where (has_others contexts) 0 (list ++ added ∷ [])) (sym (contexts-more list added ∙ ap (λ contexts. option_sums contexts (option_map sums_of sums)) (sym own)))
    seconds None second own is =
        is
        ∙ ap (λ contexts. first_where (has_others contexts) 0 list) (sym own)
        ∙ where-never (has_others None) (λ one. others-none one.contexts) 0 list
        ∙ sym (none-joined (option_map sums_of sums) (sym own))
        ∙ ap (λ contexts. first_where (has_others contexts) 0 (list ++ added ∷ [])) (sym (contexts-more list added ∙ ap (λ contexts. option_sums contexts (option_map sums_of sums)) (sym own)))

    pub carriers-more : (carriers : Carriers) → AreCarriers table list carriers → AreCarriers table (list ++ added ∷ []) (carriers_with carriers next sums)
    carriers-more carriers are =
        record {
          first = first-joined carriers.first sums are.first ∙ sym (where-more has_contexts 0 list added);
          sums = sums-joined carriers.first sums are.sums ∙ sym (contexts-more list added);
          second = seconds carriers.first carriers.second are.sums are.second;
        }
