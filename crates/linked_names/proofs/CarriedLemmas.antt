-- What is kept of a name tells the first that differs, and is right once one more declaration has joined.
use Rattle.std.proofs.Common.{◌≡◌, Bool, true, false, List, [], ◌∷◌, ◌++◌, length, slice_get, Option, Some, None, IfSome, option_map, if◌then◌else◌, refl, sym, ap, ap₂, ◌∙◌, subst}
use Rattle.std.proofs.lemmas.List.{length-map}
use Rattle.sparse_model.specs.declared.ids.TypeId.{TypeId}
use Rattle.meaning_types.specs.Types.{TypeTree}
use Rattle.meaning_typing.specs.ContextSums.{LinkedDeclaration, differs_from}
use Rattle.c_types.specs.Table.{TypeTable, Extends, IsTypeId, type_at}
use Rattle.linked_names.specs.Contexts.{AreCarriedIds, AreCarriedKept, AreCarriers, IsCarried, are_other_sums, carriers_with, declaration_of, differing_placed, first_carrier_with, first_where, no_carriers, other_carrier, other_than, placed_unlike, second_carrier_with, types_declared}
use Rattle.linked_names.specs.Forms.{have_one_form, is_open_array}
use Rattle.linked_names.specs.Kept.{AreDeclarations, AreIds}
use Rattle.linked_names.specs.Witnesses.{AreWitnessIds, AreWitnesses, IsPlacedId, PlacedType, earlier_of, first_passing, placed_in, unlike_in_group}
use Rattle.linked_names.specs.declared.carried.Carried.{Carried}
use Rattle.linked_names.specs.declared.carriers.Carrier.{Carrier}
use Rattle.linked_names.specs.declared.carriers.Carriers.{Carriers}
use Rattle.linked_names.specs.declared.declarations.Declarations.{Declarations}
use Rattle.linked_names.specs.declared.placed.Placed.{Placed}
use Rattle.linked_names.specs.declared.sums.ContextSums.{ContextSums}
use Rattle.linked_names.specs.declared.witnesses.Witnesses.{Witnesses}
use Rattle.linked_names.proofs.CarrierLemmas.{carriers-more, carriers-told, differing-earlier, none-carried}
use Rattle.linked_names.proofs.KeptLemmas.{declarations-later, ids-later, placed-later, placed_id-later}
use Rattle.linked_names.proofs.PassingLemmas.{disagrees, earlier_type}
use Rattle.linked_names.proofs.WitnessLemmas.{earlier-known, earlier-placed, placed_of_another, placed_of_form, type-known, type-placed, unlike_in-known}

-- Telling

module _ (table : TypeTable) where
  unlike-placed : (types : List TypeTree) (witnesses : Witnesses) → AreWitnesses table types witnesses → slice_get types 0 ≡ Some (type_at table witnesses.first) → (of : TypeId)
      → option_map (placed_in table) (placed_unlike table witnesses of) ≡ first_passing (disagrees (type_at table of)) 0 types
  unlike-placed types witnesses are first of = by (have_one_form (type_at table witnesses.first) (type_at table of)) refl
    where
      by : (form : Bool) → have_one_form (type_at table witnesses.first) (type_at table of) ≡ form
          → option_map (placed_in table)
          (if form
          then earlier_of witnesses.foreign (unlike_in_group table (if is_open_array (type_at table of) then witnesses.open_arrays else witnesses.others) (type_at table of))
          else Some (record { place = 0; of = witnesses.first }))
          ≡ first_passing (disagrees (type_at table of)) 0 types
      by true form = placed_of_form table types witnesses are of form
      by false form = placed_of_another table types witnesses are of form first

  pub carried-told : (list : List LinkedDeclaration) (carried : Carried) → IsCarried table list carried → (of : TypeId) (contexts : Option ContextSums)
      → option_map (λ (placed : Placed). placed.place) (differing_placed table carried of contexts)
      ≡ option_map (λ (found : PlacedType). found.place) (first_where (differs_from (declaration_of table of contexts)) 0 list)
  carried-told list carried is of contexts =
      place-placed (differing_placed table carried of contexts)
      ∙ ap (option_map (λ (one : PlacedType). one.place))
      (earlier-placed table (placed_unlike table carried.declarations.witnesses of) (other_carrier carried.carriers contexts)
      ∙ ap₂ earlier_type
      (unlike-placed (types_declared list) carried.declarations.witnesses is.declarations.witnesses is.declarations.first of)
      (carriers-told table list carried.carriers is.carriers contexts)
      ∙ sym (differing-earlier (declaration_of table of contexts) list))
    where
      place-placed : (placed : Option Placed) → option_map (λ (one : Placed). one.place) placed ≡ option_map (λ (one : PlacedType). one.place) (option_map (placed_in table) placed)
      place-placed None = refl
      place-placed (Some placed) = refl

-- Where the table grows

module _ (old new : TypeTable) (extends : Extends old new) where
  first-later : (first : Option Carrier) → IsPlacedId old (option_map (λ carrier. carrier.placed) first)
      → option_map (λ carrier. placed_in new carrier.placed) first ≡ option_map (λ carrier. placed_in old carrier.placed) first
  first-later None known = refl
  first-later (Some first) known = placed-later old new extends (Some first.placed) known

  carriers-later : (list : List LinkedDeclaration) (carried : Carried) → AreCarriedIds old carried → AreCarriers old list carried.carriers → AreCarriers new list carried.carriers
  carriers-later list carried known are =
      record {
        first = first-later carried.carriers.first known.first ∙ are.first;
        sums = are.sums;
        second = placed-later old new extends carried.carriers.second known.second ∙ are.second;
      }

  pub carried_ids-later : (carried : Carried) → AreCarriedIds old carried → AreCarriedIds new carried
  carried_ids-later carried known =
      record {
        declarations = ids-later old new extends carried.declarations known.declarations;
        first = placed_id-later old new extends (option_map (λ carrier. carrier.placed) carried.carriers.first) known.first;
        second = placed_id-later old new extends carried.carriers.second known.second;
      }

  pub found_carried-later : (found : Option Carried) → IfSome found (AreCarriedIds old) → IfSome found (AreCarriedIds new)
  found_carried-later None known = tt
  found_carried-later (Some carried) known = carried_ids-later carried known

  pub carried-later : (list : List LinkedDeclaration) (carried : Carried) → AreCarriedIds old carried → IsCarried old list carried → IsCarried new list carried
  carried-later list carried known is =
      record {
        declarations = declarations-later old new extends (types_declared list) carried.declarations known.declarations is.declarations;
        carriers = carriers-later list carried known is.carriers;
      }

  pub carried_kept-later : (list : List LinkedDeclaration) (found : Option Carried) → IfSome found (AreCarriedIds old) → AreCarriedKept old list found → AreCarriedKept new list found
  carried_kept-later list None known is = is
  carried_kept-later list (Some carried) known is = carried-later list carried known is

-- One declaration more

types-more : (list : List LinkedDeclaration) (next : LinkedDeclaration) → types_declared (list ++ next ∷ []) ≡ types_declared list ++ next.type_ ∷ []
types-more [] next = refl
types-more (declaration ∷ list) next = ap (λ types. declaration.type_ ∷ types) (types-more list next)

-- the first one
pub alone-carried : (table : TypeTable) (of : TypeId) (contexts : Option ContextSums) (declarations : Declarations) → AreDeclarations table (type_at table of ∷ []) declarations
    → IsCarried table (declaration_of table of contexts ∷ []) (record { declarations = declarations; carriers = carriers_with no_carriers (record { place = 0; of = of }) contexts })
alone-carried table of contexts declarations are =
    record { declarations = are; carriers = carriers-more table [] (record { place = 0; of = of }) refl contexts no_carriers (none-carried table) }

-- ids of what has joined
joined_first-known : (table : TypeTable) (first : Option Carrier) (next : Placed) (sums : Option ContextSums) → IsPlacedId table (option_map (λ carrier. carrier.placed) first)
    → IsTypeId table next.of → IsPlacedId table (option_map (λ carrier. carrier.placed) (first_carrier_with first next sums))
joined_first-known table (Some first) next sums is known = is
joined_first-known table None next None is known = tt
joined_first-known table None next (Some sums) is known = known

joined_second-known : (table : TypeTable) (first : Option Carrier) (second : Option Placed) (next : Placed) (sums : Option ContextSums) → IsPlacedId table second
    → IsTypeId table next.of → IsPlacedId table (second_carrier_with first second next sums)
joined_second-known table None second next sums is known = is
joined_second-known table (Some first) second next None is known = is
joined_second-known table (Some first) (Some second) next (Some sums) is known = is
joined_second-known table (Some first) None next (Some sums) is known = by (are_other_sums sums first.sums)
  where
    by : (test : Bool) → IsPlacedId table (if test then Some next else None)
    by true = known
    by false = tt

pub joined-known : (table : TypeTable) (declarations : Declarations) → AreIds table declarations → (carriers : Carriers) → IsPlacedId table (option_map (λ carrier. carrier.placed) carriers.first)
    → IsPlacedId table carriers.second → (next : Placed) → IsTypeId table next.of → (contexts : Option ContextSums)
    → AreCarriedIds table (record { declarations = declarations; carriers = carriers_with carriers next contexts })
joined-known table declarations ids carriers first second next known contexts =
    record {
      declarations = ids;
      first = joined_first-known table carriers.first next contexts first known;
      second = joined_second-known table carriers.first carriers.second next contexts second known;
    }

-- a later one
pub more-carried : (old new : TypeTable) (extends : Extends old new) (carried : Carried) → AreCarriedIds old carried → (of : TypeId) (contexts : Option ContextSums) (declarations : Declarations)
    → ((types : List TypeTree) → AreDeclarations old types carried.declarations → AreDeclarations new (types ++ type_at new of ∷ []) declarations)
    → (list : List LinkedDeclaration) → IsCarried old list carried
    → IsCarried new (list ++ declaration_of new of contexts ∷ [])
    (record { declarations = declarations; carriers = carriers_with carried.carriers (record { place = carried.declarations.witnesses.count; of = of }) contexts })
more-carried old new extends carried ids of contexts declarations kept list is =
    let end : carried.declarations.witnesses.count ≡ length list = is.declarations.witnesses.count ∙ length-map list (λ (one : LinkedDeclaration). one.type_) in
    record {
      declarations = subst (λ types. AreDeclarations new types declarations) (sym (types-more list (declaration_of new of contexts))) (kept (types_declared list) is.declarations);
      carriers =
          carriers-more new list (record { place = carried.declarations.witnesses.count; of = of }) end contexts carried.carriers
          (carriers-later old new extends list carried ids is.carriers);
    }
