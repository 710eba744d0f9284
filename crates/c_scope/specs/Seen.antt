-- How the values of this crate are seen by the definitions of `meaning_scopes`.
use Rattle.std.specs.Prelude.{ℕ, Bool, nat_eq}
use Rattle.vocabulary.specs.declared.scope.NameSpace.{NameSpace}
use Rattle.vocabulary.specs.declared.scope.Bound.{Bound}
use Rattle.sparse_model.specs.declared.ids.NameId.{NameId}
use Rattle.meaning_scopes.specs.Scopes.{Entry, Found}
use Rattle.c_scope.specs.declared.slot.Binding.{Binding}

-- an entry with these parts
abbrev pub entry_with : NameSpace → NameId → ℕ → Bound → Entry NameId
entry_with space name handle bound = record { space = space; name = name; declaration = handle; bound = bound }

-- the entry that a binding is
abbrev pub entry_of : Binding → Entry NameId
entry_of binding = entry_with binding.space binding.name binding.handle binding.bound

-- two ids are one
abbrev pub same_name : NameId → NameId → Bool
same_name name other = nat_eq name.0 other.0

-- what a look-up tells of the entry that it finds
abbrev pub told_of : Found NameId → ℕ × Bound × Bool
told_of found = (found.entry.declaration, found.entry.bound, found.is_innermost)
