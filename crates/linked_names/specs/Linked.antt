-- Declarations with linkage (C11 6.2.2), as callers see them.
use Rattle.std.specs.Prelude.{nat_eq, List, [], ◌∷◌, Option, Some, None, All}
use Rattle.sparse_model.specs.declared.ids.NameId.{NameId}
use Rattle.meaning_types.specs.Types.{TypeTree}
use Rattle.meaning_typing.specs.Names.{before_types, common_type}
use Rattle.c_types.specs.Table.{TypeTable, IsTypeId, type_at}
use Rattle.linked_names.specs.declared.declaration.Linked.{Linked}

-- the declarations so far, and the table of types as it stood behind the last one
pub record LinkedDeclarations : Type 0 where
  pub declarations : List Linked
  pub over : TypeTable

-- the table that holds nothing
abbrev pub no_types : TypeTable
no_types = record { rows = []; bodies = []; names = [] }

-- the types of the declarations of a name, in order
abbrev pub types_of : TypeTable → NameId → List Linked → List TypeTree
types_of table name [] = []
types_of table name (declaration ∷ declarations) =
    before_types (nat_eq declaration.name.0 name.0) (type_at table declaration.of) (types_of table name declarations)

-- the type of what they declare, if there is one (6.2.7 p3)
abbrev pub shared_type : List TypeTree → Option TypeTree
shared_type [] = None
shared_type (first ∷ types) = Some (common_type first (first ∷ types))

-- each has a type of the table
abbrev pub AreTypeIds : TypeTable → List Linked → Type 0
AreTypeIds table declarations = All (λ declaration. IsTypeId table declaration.of) declarations
