-- What is kept of each name with linkage, and that it is kept of all declarations.
use Rattle.std.specs.Prelude.{◌≡◌, Bool, List, [], Option, Some, None, IfSome, slice_get}
use Rattle.std.specs.List.{AllByRecursion}
use Rattle.sparse_model.specs.declared.ids.NameId.{NameId}
use Rattle.sparse_model.specs.contracts.ids.NameIdPartialEq.TheImpl as names
use Rattle.meaning_types.specs.Types.{TypeTree}
use Rattle.c_types.specs.Table.{TypeTable, IsTypeId, type_at}
use Rattle.linked_names.specs.Linked.{shared_type, types_of}
use Rattle.linked_names.specs.Witnesses.{AreWitnessIds, AreWitnesses}
use Rattle.linked_names.specs.declared.declaration.Linked.{Linked}
use Rattle.linked_names.specs.declared.declarations.Declarations.{Declarations}

-- all that is kept are types of the table
pub record AreIds (table : TypeTable) (declarations : Declarations) : Type 0 where
  pub shared : IsTypeId table declarations.shared
  pub witnesses : AreWitnessIds table declarations.witnesses

-- this is kept of declarations with these types
pub record AreDeclarations (table : TypeTable) (types : List TypeTree) (declarations : Declarations) : Type 0 where
  pub first : slice_get types 0 ≡ Some (type_at table declarations.witnesses.first)
  pub shared : shared_type types ≡ Some (type_at table declarations.shared)
  pub witnesses : AreWitnesses table types declarations.witnesses

-- the same, where nothing is kept of none
abbrev pub AreKept : TypeTable → List TypeTree → Option Declarations → Type 0
AreKept table types None = types ≡ []
AreKept table types (Some declarations) = AreDeclarations table types declarations

-- how the map compares names
abbrev pub same_key : NameId → NameId → Bool
same_key name other = names.eq-value.it name other

-- of each name is kept what belongs to its declarations
pub record IsIndex (over : TypeTable) (declarations : List Linked) (found : NameId → Option Declarations) : Type 0 where
  pub known : AllByRecursion (λ declaration. IsTypeId over declaration.of) declarations
  pub ids : (name : NameId) → IfSome (found name) (AreIds over)
  pub kept : (name : NameId) → AreKept over (types_of over name declarations) (found name)
