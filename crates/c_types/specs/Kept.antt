-- How the table is kept.
use Rattle.std.specs.Prelude.{◌≡◌, ℕ, List, Some, slice_get}
use Rattle.std.specs.List.{AllByRecursion}
use Rattle.vocabulary.specs.declared.int_kind.IntKind.{IntKind}
use Rattle.meaning_types.specs.Equality.{kind_number}
use Rattle.c_types.specs.declared.bodies.AggregateBody.{AggregateBody}
use Rattle.c_types.specs.declared.form.Marking.{Marking}
use Rattle.c_types.specs.declared.layouts.AggregateLayout.{AggregateLayout}
use Rattle.c_types.specs.declared.maps.Standing.{Standing}
use Rattle.c_types.specs.Chains.{Chain}
use Rattle.c_types.specs.Layouts.{AreNarrow, told_kept, told_of_bodies}
use Rattle.c_types.specs.Levels.{AreMarkings}
use Rattle.c_types.specs.Maps.{AreMaps, names_kept}
use Rattle.c_types.specs.Members.{NameAlike, names_of_bodies}
use Rattle.c_types.specs.Rows.{Row, AreRows, types_of}
use Rattle.c_types.specs.Table.{IsBodyOver, plain_integer}

-- what is kept of a table: rows that are right, what was marked, bodies over its types with their layouts and the names of
-- their members, and the plain integers first
pub record IsKept (rows : List Row) (markings : List (Marking × ℕ)) (bodies : List (ℕ × AggregateBody)) (layouts : List (ℕ × AggregateLayout)) (chains : List Chain) (members : List (ℕ × Standing)) : Type 0 where
  pub rows_right : AreRows rows
  pub markings_right : AreMarkings rows markings
  pub bodies_known : AllByRecursion (λ entry. IsBodyOver (types_of rows) entry.1) bodies
  pub layouts_right : told_kept layouts ≡ told_of_bodies (types_of rows) bodies
  pub layouts_narrow : AreNarrow (told_kept layouts)
  pub members_kept : AreMaps (types_of rows) (told_kept layouts) chains members
  pub members_right : NameAlike (names_kept (types_of rows) (told_kept layouts) chains members) (names_of_bodies (types_of rows) bodies)
  pub integers_stand : (kind : IntKind) → slice_get (types_of rows) (kind_number kind) ≡ Some (plain_integer kind)
