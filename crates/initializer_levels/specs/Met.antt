-- What a walk meets, as a plan: over nodes, what is known of them, a table of types, and paths.
use Rattle.std.specs.Prelude.{◌≡◌, ℕ, Bool, List, [], ◌∷◌}
use Rattle.meaning_typing.specs.Facts.{Fact}
use Rattle.meaning_typing.specs.Units.{UnitNodes}
use Rattle.meaning_initializers.specs.Plans.{Plan, extra, no_part, no_plan, refused, string_alone, value_plan}
use Rattle.meaning_initializers.specs.Reading.{designator_at, given_at, initializer_at}
use Rattle.c_types.specs.Table.{IsTypeId, TypeTable}
use Rattle.initializer_levels.specs.declared.met.Finding.{Finding}
use Rattle.initializer_levels.specs.declared.met.Finding.TheVariants as findings
use Rattle.initializer_levels.specs.declared.met.Met.{Met}
use Rattle.initializer_levels.specs.declared.met.Met.TheVariants as mets
use Rattle.initializer_levels.specs.declared.met.Placed.{Placed}
use Rattle.initializer_levels.specs.Items.{items_left}
use Rattle.initializer_levels.specs.Parts.{type_seen}
use Rattle.initializer_levels.specs.Paths.{IsPathIn, path_at}
use Rattle.initializer_levels.specs.Turns.{Found, found_behind}

module _ (nodes : UnitNodes) (facts : List Fact) (is_static : Bool) (table : TypeTable) (paths : List (List ℕ)) where
  abbrev pub finding_plan : Finding → Plan
  finding_plan (findings.Leaf placed) =
      value_plan is_static (type_seen table placed.of) (path_at paths placed.path) placed.is_moved (given_at nodes facts placed.initializer)
  finding_plan (findings.Extra initializer) = refused (extra (initializer_at nodes facts initializer)) no_plan
  finding_plan (findings.NoPart designator) = refused (no_part (designator_at nodes facts designator)) no_plan

  abbrev pub met_plan : Met → Plan
  met_plan mets.Nothing = no_plan
  met_plan (mets.One finding) = finding_plan finding
  met_plan (mets.StringAlone placed behind) =
      string_alone is_static (type_seen table placed.of) (path_at paths placed.path) placed.is_moved (given_at nodes facts placed.initializer)
      (items_left nodes facts behind)

  -- what was found, and these findings behind it, in their order
  abbrev pub found_with : Found → List Finding → Found
  found_with found [] = found
  found_with found (finding ∷ findings) = found_with (found_behind found (finding_plan finding)) findings

-- the part has a type of the table, and where it stands is one of the paths
abbrev pub IsPlacedIn : TypeTable → (paths : List (List ℕ)) → Placed → Type 0
IsPlacedIn table paths placed = IsTypeId table placed.of.of × IsPathIn paths placed.path

abbrev pub IsFindingIn : TypeTable → (paths : List (List ℕ)) → Finding → Type 0
IsFindingIn table paths (findings.Leaf placed) = IsPlacedIn table paths placed
IsFindingIn table paths (findings.Extra initializer) = Unit {0}
IsFindingIn table paths (findings.NoPart designator) = Unit {0}

abbrev pub IsMetIn : TypeTable → (paths : List (List ℕ)) → Met → Type 0
IsMetIn table paths mets.Nothing = Unit {0}
IsMetIn table paths (mets.One finding) = IsFindingIn table paths finding
IsMetIn table paths (mets.StringAlone placed behind) = IsPlacedIn table paths placed
