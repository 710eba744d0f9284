-- A table of macros, by the ids of their names.
use Rattle.std.specs.Prelude.{ℕ, nat_eq, List, Option}
use Rattle.std.specs.Map.{lookup}
use Rattle.sparse_model.specs.declared.ids.NameId.{NameId}
use Rattle.c_macros.specs.declared.definition.Macro.{Macro}

-- the macros and the spellings of files that a table has, in no order that means anything
pub record Table : Type 0 where
  pub macros : List (NameId × Macro)
  pub files : List (ℕ × NameId)

-- the macro of a name
abbrev pub macro_at : Table → NameId → Option Macro
macro_at table name = lookup (λ (other : NameId). nat_eq name.0 other.0) table.macros

-- how `__FILE__` is spelled in a file, where that was said
abbrev pub spelling_of_file : Table → ℕ → Option NameId
spelling_of_file table file = lookup (nat_eq file) table.files
