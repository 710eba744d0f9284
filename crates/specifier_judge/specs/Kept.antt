-- What is kept of enumerations, and what it is kept of.
use Rattle.std.specs.Prelude.{◌≡◌, ℕ, ◌<◌, ◌≤◌, nat_eq, List, Option, Some, None}
use Rattle.indexmap.specs.IndexMap.{get}
use Rattle.meaning_typing.specs.EnumRows.{enumerators_of}
use Rattle.meaning_typing.specs.Facts.{Fact}
use Rattle.meaning_typing.specs.Units.{UnitNodes}
use Rattle.enum_rows.specs.declared.names.Sharing.{Sharing}
use Rattle.enum_rows.specs.declared.names.Sharing.TheVariants as sharings
use Rattle.enum_rows.specs.Names.{IsSharing}
pub use Rattle.tag_rows.specs.Kept.{StandsFor}
use Rattle.specifier_judge.specs.declared.enumerations.Enumerations.{Enumerations}

-- of a node without enumerators nothing is kept: each of them has its own type
abbrev pub sharing_or_own : Option Sharing → Sharing
sharing_or_own None = sharings.Own
sharing_or_own (Some sharing) = sharing

abbrev pub sharing_kept : Enumerations → (handle : ℕ) → Sharing
sharing_kept kept handle = sharing_or_own (get nat_eq kept.sharings handle)

-- it is kept of the first so many nodes, over what is known of nodes
pub record IsKeptOf (nodes : UnitNodes) (facts : List Fact) (count : ℕ) (kept : Enumerations) : Type 0 where
  -- what is said of the types of the enumerators that are children of each of them
  pub each : (handle : ℕ) → handle < count → IsSharing (sharing_kept kept handle) (enumerators_of nodes facts handle)
  -- and nothing of the others
  pub others : (handle : ℕ) → count ≤ handle → get nat_eq kept.sharings handle ≡ None
