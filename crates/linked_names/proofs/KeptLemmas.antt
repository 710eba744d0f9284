-- What is kept stays right where the table grows.
use Rattle.std.proofs.Common.{◌≡◌, true, false, List, Option, Some, None, IfSome, option_map, refl, sym, ap, ◌∙◌, Bool}
use Rattle.meaning_types.specs.Types.{TypeTree}
use Rattle.c_types.specs.Table.{TypeTable, Extends}
use Rattle.linked_names.specs.Witnesses.{AreGroupIds, AreWitnessIds, AreWitnesses, IsGroup, IsPlacedId, first_passing, is_foreign, is_in_group, placed_in, second_in_group}
use Rattle.linked_names.specs.Kept.{AreDeclarations, AreIds, AreKept}
use Rattle.linked_names.specs.declared.declarations.Declarations.{Declarations}
use Rattle.linked_names.specs.declared.placed.Placed.{Placed}
use Rattle.linked_names.specs.declared.group.Group.{Group}
use Rattle.linked_names.specs.declared.witnesses.Witnesses.{Witnesses}
use Rattle.linked_names.proofs.GrowthLemmas.{id-later, type-later}

module _ (old new : TypeTable) (extends : Extends old new) where
  pub placed-later : (placed : Option Placed) → IsPlacedId old placed → option_map (placed_in new) placed ≡ option_map (placed_in old) placed
  placed-later None known = refl
  placed-later (Some placed) known = λ i. Some (record { place = placed.place; type_ = type-later old new extends placed.of known i })

  pub placed_id-later : (placed : Option Placed) → IsPlacedId old placed → IsPlacedId new placed
  placed_id-later None known = tt
  placed_id-later (Some placed) known = id-later old new extends placed.of known

  group_ids-later : (group : Group) → AreGroupIds old group → AreGroupIds new group
  group_ids-later group known = record { first = placed_id-later group.first known.first; second = placed_id-later group.second known.second }

  pub witness_ids-later : (witnesses : Witnesses) → AreWitnessIds old witnesses → AreWitnessIds new witnesses
  witness_ids-later witnesses known =
      record {
        first = id-later old new extends witnesses.first known.first;
        foreign = placed_id-later witnesses.foreign known.foreign;
        open_arrays = group_ids-later witnesses.open_arrays known.open_arrays;
        others = group_ids-later witnesses.others known.others;
      }

  group-later : (first first_later : TypeTree) → first_later ≡ first → (are_open : Bool) (types : List TypeTree) (group : Group) → AreGroupIds old group
      → IsGroup old first are_open types group → IsGroup new first_later are_open types group
  group-later first first_later same are_open types group known is =
      record {
        first = placed-later group.first known.first ∙ is.first ∙ ap (λ (first : TypeTree). first_passing (is_in_group first are_open) 0 types) (sym same);
        second =
            placed-later group.second known.second ∙ is.second
            ∙ ap (λ (first : TypeTree). second_in_group first are_open (first_passing (is_in_group first are_open) 0 types) types) (sym same);
      }

  pub witnesses-later : (types : List TypeTree) (witnesses : Witnesses) → AreWitnessIds old witnesses → AreWitnesses old types witnesses → AreWitnesses new types witnesses
  witnesses-later types witnesses known are =
      let first = type-later old new extends witnesses.first known.first in
      record {
        count = are.count;
        foreign = placed-later witnesses.foreign known.foreign ∙ are.foreign ∙ ap (λ (first : TypeTree). first_passing (is_foreign first) 0 types) (sym first);
        open_arrays = group-later _ _ first true types witnesses.open_arrays known.open_arrays are.open_arrays;
        others = group-later _ _ first false types witnesses.others known.others are.others;
      }

  -- What is kept of a name

  pub ids-later : (declarations : Declarations) → AreIds old declarations → AreIds new declarations
  ids-later declarations known =
      record { shared = id-later old new extends declarations.shared known.shared; witnesses = witness_ids-later declarations.witnesses known.witnesses }

  pub found_ids-later : (found : Option Declarations) → IfSome found (AreIds old) → IfSome found (AreIds new)
  found_ids-later None known = tt
  found_ids-later (Some declarations) known = ids-later declarations known

  pub declarations-later : (types : List TypeTree) (declarations : Declarations) → AreIds old declarations → AreDeclarations old types declarations → AreDeclarations new types declarations
  declarations-later types declarations known are =
      record {
        first = are.first ∙ ap Some (sym (type-later old new extends declarations.witnesses.first known.witnesses.first));
        shared = are.shared ∙ ap Some (sym (type-later old new extends declarations.shared known.shared));
        witnesses = witnesses-later types declarations.witnesses known.witnesses are.witnesses;
      }

  pub kept-later : (types : List TypeTree) (found : Option Declarations) → IfSome found (AreIds old) → AreKept old types found → AreKept new types found
  kept-later types None known are = are
  kept-later types (Some declarations) known are = declarations-later types declarations known are
