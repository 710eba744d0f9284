-- A declaration that joins leaves the witnesses right.
use Rattle.std.proofs.Common.{◌≡◌, ◌+◌, Bool, true, false, ◌&&◌, not, List, [], ◌∷◌, ◌++◌, length, Option, Some, None, option_map, if◌then◌else◌, refl, sym, ap, ◌∙◌, arith, length-append}
use Rattle.std.specs.Option.{option_or}
use Rattle.std.proofs.lemmas.Option.{none-some, same_Some}
use Rattle.std.proofs.Math.Bool.{and-false}
use Rattle.sparse_model.specs.declared.ids.TypeId.{TypeId}
use Rattle.meaning_types.specs.Types.{TypeTree}
use Rattle.meaning_types.specs.Equality.{are_equal_bools, are_same}
use Rattle.c_types.specs.Table.{TypeTable, IsTypeId, type_at}
use Rattle.linked_names.specs.Forms.{have_one_form, is_open_array}
use Rattle.linked_names.specs.Witnesses.{PlacedType, AreGroupIds, AreWitnessIds, AreWitnesses, IsGroup, IsPlacedId, differs_in_group, first_passing, group_with, is_foreign, is_in_group, no_witnesses, placed_in, second_in_group, second_with, witnesses_with}
use Rattle.linked_names.specs.declared.placed.Placed.{Placed}
use Rattle.linked_names.specs.declared.group.Group.{Group}
use Rattle.linked_names.specs.declared.witnesses.Witnesses.{Witnesses}
use Rattle.linked_names.proofs.FormLemmas.{same-itself}
use Rattle.linked_names.proofs.PassingLemmas.{passing-more, passing-none}
use Rattle.linked_names.proofs.WitnessLemmas.{and-left}

pub map-option_or : {X Y : Type 0} (f : X → Y) (one other : Option X) → option_map f (option_or one other) ≡ option_or (option_map f one) (option_map f other)
map-option_or f (Some one) other = refl
map-option_or f None other = refl

pub option_or-none : {X : Type 0} (one : Option X) → option_or one None ≡ one
option_or-none (Some one) = refl
option_or-none None = refl

and-left_false : (one other : Bool) → one ≡ false → (one && other) ≡ false
and-left_false one other is = λ i. is i && other

module _ (table : TypeTable) (types : List TypeTree) (next : Placed) (at_end : next.place ≡ length types) where
  abbrev type_ : TypeTree
  type_ = type_at table next.of

  abbrev last : PlacedType
  last = record { place = 0 + length types; type_ = type_ }

  is_last : placed_in table next ≡ last
  is_last =
      let end : next.place ≡ 0 + length types = omega (arith, at_end) in
      λ i. record { place = end i; type_ = type_ }

  -- the first that passes, where the last one does, and where it doesn't
  passing-joined : (test : TypeTree → Bool) (kept : Option Placed) → option_map (placed_in table) kept ≡ first_passing test 0 types → test type_ ≡ true
      → option_map (placed_in table) (option_or kept (Some next)) ≡ first_passing test 0 (types ++ type_ ∷ [])
  passing-joined test kept is passes =
      map-option_or (placed_in table) kept (Some next)
      ∙ (λ i. option_or (is i) (Some (is_last i)))
      ∙ ap (λ (found : Bool). option_or (first_passing test 0 types) (if found then Some last else None)) (sym passes)
      ∙ sym (passing-more test 0 types type_)

  passing-kept : (test : TypeTree → Bool) (kept : Option Placed) → option_map (placed_in table) kept ≡ first_passing test 0 types → test type_ ≡ false
      → option_map (placed_in table) kept ≡ first_passing test 0 (types ++ type_ ∷ [])
  passing-kept test kept is fails =
      is
      ∙ sym (option_or-none (first_passing test 0 types))
      ∙ ap (λ (passes : Bool). option_or (first_passing test 0 types) (if passes then Some last else None)) (sym fails)
      ∙ sym (passing-more test 0 types type_)

  module _ (first : TypeTree) (are_open : Bool) where
    abbrev test : TypeTree → Bool
    test = is_in_group first are_open

    -- the first of all that are in the group
    found-joined : test type_ ≡ true → first_passing test 0 (types ++ type_ ∷ []) ≡ option_or (first_passing test 0 types) (Some last)
    found-joined passes = passing-more test 0 types type_ ∙ ap (λ (passes : Bool). option_or (first_passing test 0 types) (if passes then Some last else None)) passes

    found-kept : test type_ ≡ false → first_passing test 0 (types ++ type_ ∷ []) ≡ first_passing test 0 types
    found-kept fails =
        passing-more test 0 types type_
        ∙ ap (λ (passes : Bool). option_or (first_passing test 0 types) (if passes then Some last else None)) fails
        ∙ option_or-none (first_passing test 0 types)

    -- no type differs from itself
    itself : differs_in_group first are_open type_ type_ ≡ false
    itself = ap (λ (same : Bool). test type_ && not same) (same-itself type_) ∙ and-false (test type_)

    second-joined : (one two : Option Placed) (found : Option PlacedType) → first_passing test 0 types ≡ found → option_map (placed_in table) one ≡ found
        → option_map (placed_in table) two ≡ second_in_group first are_open found types → test type_ ≡ true
        → option_map (placed_in table) (second_with table one two next) ≡ second_in_group first are_open (option_or found (Some last)) (types ++ type_ ∷ [])
    second-joined None two None is_found is_one is_two passes =
        let none = passing-none test (differs_in_group first are_open type_) (λ other passes. and-left _ _ passes) 0 types is_found in
        sym
        (passing-more (differs_in_group first are_open type_) 0 types type_
        ∙ (λ i. option_or (none i) (if itself i then Some last else None)))
    second-joined None two (Some found) is_found is_one is_two passes = absurd (none-some found is_one)
    second-joined (Some one) two None is_found is_one is_two passes = absurd (none-some (placed_in table one) (sym is_one))
    second-joined (Some one) two (Some found) is_found is_one is_two passes =
        let differs = differs_in_group first are_open found.type_ in
        let same : are_same (type_at table one.of) type_ ≡ are_same found.type_ type_ = ap (λ (placed : PlacedType). are_same placed.type_ type_) (same_Some _ _ is_one) in
        map-option_or (placed_in table) two (if are_same (type_at table one.of) type_ then None else Some next)
        ∙ (λ i. option_or (is_two i) (option_map (placed_in table) (if same i then None else Some next)))
        ∙ ap (option_or (first_passing differs 0 types)) (by (are_same found.type_ type_))
        ∙ ap (λ (in_group : Bool). option_or (first_passing differs 0 types) (if in_group && not (are_same found.type_ type_) then Some last else None)) (sym passes)
        ∙ sym (passing-more differs 0 types type_)
      where
        by : (same : Bool) → option_map (placed_in table) (if same then None else Some next) ≡ (if true && not same then Some last else None)
        by true = refl
        by false = ap Some is_last

    second-kept : (two : Option Placed) (found : Option PlacedType) → option_map (placed_in table) two ≡ second_in_group first are_open found types → test type_ ≡ false
        → option_map (placed_in table) two ≡ second_in_group first are_open found (types ++ type_ ∷ [])
    second-kept two None is fails = is
    second-kept two (Some found) is fails = passing-kept (differs_in_group first are_open found.type_) two is (and-left_false _ _ fails)

    group-joined : (group : Group) → IsGroup table first are_open types group → test type_ ≡ true → IsGroup table first are_open (types ++ type_ ∷ []) (group_with table group next)
    group-joined group is passes =
        record {
          first = passing-joined test group.first is.first passes;
          second =
              second-joined group.first group.second _ refl is.first is.second passes
              ∙ ap (λ found. second_in_group first are_open found (types ++ type_ ∷ [])) (sym (found-joined passes));
        }

    group-kept : (group : Group) → IsGroup table first are_open types group → test type_ ≡ false → IsGroup table first are_open (types ++ type_ ∷ []) group
    group-kept group is fails =
        record {
          first = passing-kept test group.first is.first fails;
          second =
              second-kept group.second _ is.second fails ∙ ap (λ found. second_in_group first are_open found (types ++ type_ ∷ [])) (sym (found-kept fails));
        }

-- where no declaration is, there are no witnesses
pub none-told : (table : TypeTable) (first : TypeId) → AreWitnesses table [] (no_witnesses first)
none-told table first =
    record {
      count = refl;
      foreign = refl;
      open_arrays = record { first = refl; second = refl };
      others = record { first = refl; second = refl };
    }

module _ (table : TypeTable) (types : List TypeTree) (witnesses : Witnesses) (are : AreWitnesses table types witnesses) (of : TypeId) where
  abbrev next : Placed
  next = record { place = witnesses.count; of = of }

  abbrev form : Bool
  form = have_one_form (type_at table witnesses.first) (type_at table of)

  counted : witnesses.count + 1 ≡ length (types ++ type_at table of ∷ [])
  counted = omega (arith, are.count, length-append types (type_at table of ∷ []))

  pub with-told : AreWitnesses table (types ++ type_at table of ∷ []) (witnesses_with table witnesses of)
  with-told = by form (is_open_array (type_at table of)) refl refl
    where
      by : (is_of_form is_open : Bool) → form ≡ is_of_form → is_open_array (type_at table of) ≡ is_open
          → AreWitnesses table (types ++ type_at table of ∷ [])
          (if is_of_form
          then (if is_open
          then record witnesses { count = witnesses.count + 1; open_arrays = group_with table witnesses.open_arrays next }
          else record witnesses { count = witnesses.count + 1; others = group_with table witnesses.others next })
          else record witnesses { count = witnesses.count + 1; foreign = option_or witnesses.foreign (Some next) })
      by true true is is_open =
          record {
            count = counted;
            foreign = passing-kept table types next are.count (is_foreign (type_at table witnesses.first)) witnesses.foreign are.foreign (ap not is);
            open_arrays =
                group-joined table types next are.count (type_at table witnesses.first) true witnesses.open_arrays are.open_arrays (λ i. is i && are_equal_bools true (is_open i));
            others = group-kept table types next are.count (type_at table witnesses.first) false witnesses.others are.others (λ i. is i && are_equal_bools false (is_open i));
          }
      by true false is is_open =
          record {
            count = counted;
            foreign = passing-kept table types next are.count (is_foreign (type_at table witnesses.first)) witnesses.foreign are.foreign (ap not is);
            open_arrays =
                group-kept table types next are.count (type_at table witnesses.first) true witnesses.open_arrays are.open_arrays (λ i. is i && are_equal_bools true (is_open i));
            others = group-joined table types next are.count (type_at table witnesses.first) false witnesses.others are.others (λ i. is i && are_equal_bools false (is_open i));
          }
      by false is_open is_another _ =
          record {
            count = counted;
            foreign = passing-joined table types next are.count (is_foreign (type_at table witnesses.first)) witnesses.foreign are.foreign (ap not is_another);
            open_arrays = group-kept table types next are.count (type_at table witnesses.first) true witnesses.open_arrays are.open_arrays (and-left_false _ _ is_another);
            others = group-kept table types next are.count (type_at table witnesses.first) false witnesses.others are.others (and-left_false _ _ is_another);
          }

-- What joins is a type of the table

module _ (table : TypeTable) (next : Placed) (known : IsTypeId table next.of) where
  placed-joined : (kept : Option Placed) → IsPlacedId table kept → IsPlacedId table (option_or kept (Some next))
  placed-joined None is = known
  placed-joined (Some kept) is = is

  second-known : (one two : Option Placed) → IsPlacedId table two → IsPlacedId table (second_with table one two next)
  second-known None two is = tt
  second-known (Some one) None is = by (are_same (type_at table one.of) (type_at table next.of))
    where
      by : (same : Bool) → IsPlacedId table (if same then None else Some next)
      by true = tt
      by false = known
  second-known (Some one) (Some two) is = is

  group-known : (group : Group) → AreGroupIds table group → AreGroupIds table (group_with table group next)
  group-known group are = record { first = placed-joined group.first are.first; second = second-known group.first group.second are.second }

pub none-known : (table : TypeTable) (first : TypeId) → IsTypeId table first → AreWitnessIds table (no_witnesses first)
none-known table first known =
    record { first = known; foreign = tt; open_arrays = record { first = tt; second = tt }; others = record { first = tt; second = tt } }

module _ (table : TypeTable) (witnesses : Witnesses) (are : AreWitnessIds table witnesses) (of : TypeId) (known : IsTypeId table of) where
  abbrev joining : Placed
  joining = record { place = witnesses.count; of = of }

  pub with-known : AreWitnessIds table (witnesses_with table witnesses of)
  with-known = by (have_one_form (type_at table witnesses.first) (type_at table of)) (is_open_array (type_at table of))
    where
      by : (is_of_form is_open : Bool)
          → AreWitnessIds table
          (if is_of_form
          then (if is_open
          then record witnesses { count = witnesses.count + 1; open_arrays = group_with table witnesses.open_arrays joining }
          else record witnesses { count = witnesses.count + 1; others = group_with table witnesses.others joining })
          else record witnesses { count = witnesses.count + 1; foreign = option_or witnesses.foreign (Some joining) })
      by true true = record { first = are.first; foreign = are.foreign; open_arrays = group-known table joining known witnesses.open_arrays are.open_arrays; others = are.others }
      by true false = record { first = are.first; foreign = are.foreign; open_arrays = are.open_arrays; others = group-known table joining known witnesses.others are.others }
      by false is_open = record { first = are.first; foreign = placed-joined table joining known witnesses.foreign are.foreign; open_arrays = are.open_arrays; others = are.others }

-- the first one stays
pub first-with : (table : TypeTable) (witnesses : Witnesses) (of : TypeId) → (witnesses_with table witnesses of).first ≡ witnesses.first
first-with table witnesses of = by (have_one_form (type_at table witnesses.first) (type_at table of)) (is_open_array (type_at table of))
  where
    by : (is_of_form is_open : Bool)
        → (if is_of_form
        then (if is_open
        then record witnesses { count = witnesses.count + 1; open_arrays = group_with table witnesses.open_arrays (record { place = witnesses.count; of = of }) }
        else record witnesses { count = witnesses.count + 1; others = group_with table witnesses.others (record { place = witnesses.count; of = of }) })
        else record witnesses { count = witnesses.count + 1; foreign = option_or witnesses.foreign (Some (record { place = witnesses.count; of = of })) }).first
        ≡ witnesses.first
    by true true = refl
    by true false = refl
    by false is_open = refl
