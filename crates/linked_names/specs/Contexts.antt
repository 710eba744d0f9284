-- Declarations with linkage and their contexts: as callers see them, and the few that tell which is the first that differs from another.
use Rattle.std.specs.Prelude.{◌≡◌, ℕ, ◌+◌, Bool, ◌&&◌, not, is_some, nat_eq, List, [], ◌∷◌, map, Option, Some, None, option_map, IfSome, if◌then◌else◌, slice_get, All}
use Rattle.std.specs.List.{AllByRecursion}
use Rattle.std.specs.Option.{option_or}
use Rattle.sparse_model.specs.declared.ids.NameId.{NameId}
use Rattle.sparse_model.specs.declared.ids.TypeId.{TypeId}
use Rattle.meaning_types.specs.Types.{TypeTree}
use Rattle.meaning_typing.specs.ContextSums.{LinkedDeclaration, declarations_with, first_contexts, have_other_sums, nodes_with}
use Rattle.meaning_typing.specs.ContextSums as meaning
use Rattle.c_types.specs.Table.{TypeTable, IsTypeId, type_at}
use Rattle.linked_names.specs.Forms.{have_one_form, is_open_array}
use Rattle.linked_names.specs.Kept.{AreDeclarations, AreIds}
use Rattle.linked_names.specs.Witnesses.{IsPlacedId, PlacedType, earlier_of, placed_in, unlike_in_group}
use Rattle.linked_names.specs.declared.carried.Carried.{Carried}
use Rattle.linked_names.specs.declared.carriers.Carrier.{Carrier}
use Rattle.linked_names.specs.declared.carriers.Carriers.{Carriers}
use Rattle.linked_names.specs.declared.declaration.Declared.{Declared}
use Rattle.linked_names.specs.declared.placed.Placed.{Placed}
use Rattle.linked_names.specs.declared.sums.ContextSums.{ContextSums}
use Rattle.linked_names.specs.declared.witnesses.Witnesses.{Witnesses}

-- As callers see them

-- the declarations so far, and the table of types as it stood behind the last one
pub record CarriedDeclarations : Type 0 where
  pub declarations : List Declared
  pub over : TypeTable

abbrev pub sums_of : ContextSums → meaning.ContextSums
sums_of sums = record { enters = sums.enters; leaves = sums.leaves }

-- a declaration of this type with these contexts
abbrev pub declaration_of : TypeTable → TypeId → Option ContextSums → LinkedDeclaration
declaration_of table of contexts = record { type_ = type_at table of; contexts = option_map sums_of contexts }

-- the declarations of a name, in order
abbrev pub declarations_of : TypeTable → NameId → List Declared → List LinkedDeclaration
declarations_of table name [] = []
declarations_of table name (declared ∷ others) =
    declarations_with (nat_eq declared.name.0 name.0) (declaration_of table declared.of declared.contexts) (declarations_of table name others)

-- the nodes that declare it
abbrev pub nodes_declaring : NameId → List Declared → List ℕ
nodes_declaring name [] = []
nodes_declaring name (declared ∷ others) = nodes_with (nat_eq declared.name.0 name.0) declared.node (nodes_declaring name others)

abbrev pub types_declared : List LinkedDeclaration → List TypeTree
types_declared declarations = map (λ declaration. declaration.type_) declarations

-- Among declarations in order: the first that passes, where the first of all has this place

abbrev pub first_where : (LinkedDeclaration → Bool) → (place : ℕ) → List LinkedDeclaration → Option PlacedType
first_where test place [] = None
first_where test place (declaration ∷ declarations) =
    if test declaration then Some (record { place = place; type_ = declaration.type_ }) else first_where test (place + 1) declarations

abbrev pub has_contexts : LinkedDeclaration → Bool
has_contexts declaration = is_some declaration.contexts

abbrev pub has_others : Option meaning.ContextSums → LinkedDeclaration → Bool
has_others contexts declaration = have_other_sums declaration.contexts contexts

-- What is kept

abbrev pub are_other_sums : ContextSums → ContextSums → Bool
are_other_sums one other = not (nat_eq one.enters other.enters && nat_eq one.leaves other.leaves)

abbrev pub no_carriers : Carriers
no_carriers = record { first = None; second = None }

-- the first with other sums than these
abbrev pub other_than : Option Carrier → Option Placed → Option ContextSums → Option Placed
other_than (Some first) second (Some sums) = if are_other_sums first.sums sums then Some first.placed else second
other_than first second sums = None

abbrev pub other_carrier : Carriers → Option ContextSums → Option Placed
other_carrier carriers sums = other_than carriers.first carriers.second sums

-- once a declaration has joined
abbrev pub first_carrier_with : Option Carrier → Placed → Option ContextSums → Option Carrier
first_carrier_with (Some first) next sums = Some first
first_carrier_with None next None = None
first_carrier_with None next (Some sums) = Some (record { placed = next; sums = sums })

abbrev pub second_carrier_with : Option Carrier → Option Placed → Placed → Option ContextSums → Option Placed
second_carrier_with (Some first) second next (Some sums) = option_or second (if are_other_sums sums first.sums then Some next else None)
second_carrier_with first second next sums = second

abbrev pub carriers_with : Carriers → Placed → Option ContextSums → Carriers
carriers_with carriers next sums =
    record { first = first_carrier_with carriers.first next sums; second = second_carrier_with carriers.first carriers.second next sums }

-- the first whose type disagrees with this one, with its place
abbrev pub placed_unlike : TypeTable → Witnesses → TypeId → Option Placed
placed_unlike table witnesses of =
    if have_one_form (type_at table witnesses.first) (type_at table of)
    then earlier_of witnesses.foreign (unlike_in_group table (if is_open_array (type_at table of) then witnesses.open_arrays else witnesses.others) (type_at table of))
    else Some (record { place = 0; of = witnesses.first })

-- the first that differs from a declaration of this type with these contexts
abbrev pub differing_placed : TypeTable → Carried → TypeId → Option ContextSums → Option Placed
differing_placed table carried of contexts =
    earlier_of (placed_unlike table carried.declarations.witnesses of) (other_carrier carried.carriers contexts)

-- how many declarations
abbrev pub count_of : Option Carried → ℕ
count_of None = 0
count_of (Some carried) = carried.declarations.witnesses.count

-- That it is right

pub record AreCarriedIds (table : TypeTable) (carried : Carried) : Type 0 where
  pub declarations : AreIds table carried.declarations
  pub first : IsPlacedId table (option_map (λ carrier. carrier.placed) carried.carriers.first)
  pub second : IsPlacedId table carried.carriers.second

-- these are the carriers of these declarations
pub record AreCarriers (table : TypeTable) (list : List LinkedDeclaration) (carriers : Carriers) : Type 0 where
  pub first : option_map (λ carrier. placed_in table carrier.placed) carriers.first ≡ first_where has_contexts 0 list
  pub sums : option_map (λ carrier. sums_of carrier.sums) carriers.first ≡ first_contexts list
  pub second : option_map (placed_in table) carriers.second ≡ first_where (has_others (first_contexts list)) 0 list

-- this is kept of these declarations
pub record IsCarried (table : TypeTable) (list : List LinkedDeclaration) (carried : Carried) : Type 0 where
  pub declarations : AreDeclarations table (types_declared list) carried.declarations
  pub carriers : AreCarriers table list carried.carriers

-- the same, where nothing is kept of none
abbrev pub AreCarriedKept : TypeTable → List LinkedDeclaration → Option Carried → Type 0
AreCarriedKept table list None = list ≡ []
AreCarriedKept table list (Some carried) = IsCarried table list carried

-- each has a type of the table
abbrev pub AreDeclaredIds : TypeTable → List Declared → Type 0
AreDeclaredIds table declarations = All (λ declared. IsTypeId table declared.of) declarations

-- of each name is kept what belongs to its declarations
pub record IsCarriedIndex (over : TypeTable) (declarations : List Declared) (found : NameId → Option Carried) : Type 0 where
  pub known : AllByRecursion (λ declared. IsTypeId over declared.of) declarations
  pub ids : (name : NameId) → IfSome (found name) (AreCarriedIds over)
  pub kept : (name : NameId) → AreCarriedKept over (declarations_of over name declarations) (found name)

-- each declaration's node is kept, by how many of its name stand before it
abbrev pub AreKeptNodes : List Declared → (found : ℕ × NameId → Option ℕ) → Type 0
AreKeptNodes declarations found = (name : NameId) (place node : ℕ) → slice_get (nodes_declaring name declarations) place ≡ Some node → found (place, name) ≡ Some node

-- together
pub record IsKeptOfAll (over : TypeTable) (declarations : List Declared) (found : NameId → Option Carried) (found_node : ℕ × NameId → Option ℕ) : Type 0 where
  pub index : IsCarriedIndex over declarations found
  pub nodes : AreKeptNodes declarations found_node
