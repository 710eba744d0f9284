-- Typedefs (C11 6.7.8), as callers see them.
use Rattle.std.specs.Prelude.{◌≡◌, ℕ, Bool, ◌&&◌, nat_eq, List, [], ◌∷◌, Option, Some, None, All, if◌then◌else◌}
use Rattle.sparse_model.specs.declared.ids.NameId.{NameId}
use Rattle.sparse_model.specs.declared.ids.TypeId.{TypeId}
use Rattle.sparse_model.specs.contracts.ids.NameIdPartialEq.TheImpl as names
use Rattle.c_types.specs.Table.{TypeTable, IsTypeId}
use Rattle.linked_names.specs.declared.declaration.Typedef.{Typedef}

-- it is a typedef of this name in this scope
abbrev pub is_typedef_of : (scope : ℕ) → NameId → Typedef → Bool
is_typedef_of scope name typedef = nat_eq typedef.scope scope && nat_eq typedef.name.0 name.0

-- the type of the first one
abbrev pub first_of : (scope : ℕ) → NameId → List Typedef → Option TypeId
first_of scope name [] = None
first_of scope name (typedef ∷ typedefs) = if is_typedef_of scope name typedef then Some typedef.of else first_of scope name typedefs

-- each has a type of the table
abbrev pub AreTypedefIds : TypeTable → List Typedef → Type 0
AreTypedefIds table typedefs = All (λ typedef. IsTypeId table typedef.of) typedefs

-- How a map stands for them

-- how the map compares names in their scopes
abbrev pub same_scoped : ℕ × NameId → ℕ × NameId → Bool
same_scoped key other = nat_eq key.0 other.0 && names.eq-value.it key.1 other.1

-- the map has the first ones
abbrev pub KeepsFirst : List Typedef → (ℕ × NameId → Option TypeId) → Type 0
KeepsFirst typedefs found = (key : ℕ × NameId) → found key ≡ first_of key.0 key.1 typedefs
