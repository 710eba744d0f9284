-- Where designators lead, as it is kept.
use Rattle.std.specs.Prelude.{ℕ, List, [], ◌∷◌, All, map}
use Rattle.meaning_types.specs.Types.{TypeTree}
use Rattle.meaning_typing.specs.Facts.{Fact}
use Rattle.meaning_typing.specs.Units.{UnitNodes}
use Rattle.meaning_initializers.specs.Designators as meaning
use Rattle.meaning_initializers.specs.Designators.{Along, Leads, Nowhere, through}
use Rattle.meaning_initializers.specs.Items.{Designator}
use Rattle.meaning_initializers.specs.Parts as meaning_parts
use Rattle.meaning_initializers.specs.Parts.{Aggregates}
use Rattle.meaning_initializers.specs.Plans.{no_part}
use Rattle.meaning_initializers.specs.Reading.{designator_at}
use Rattle.c_types.specs.Table.{TypeTable}
use Rattle.initializer_levels.specs.declared.way.Way.{Way}
use Rattle.initializer_levels.specs.declared.way.Way.TheVariants as kept
use Rattle.initializer_levels.specs.Parts.{IsKnownPart, part_seen}

abbrev pub way_seen : UnitNodes → List Fact → TypeTable → Way → meaning.Way
way_seen nodes facts table (kept.Along parts) = Along (map (part_seen table) parts.items)
way_seen nodes facts table (kept.NoPart designator) = Nowhere (no_part (designator_at nodes facts designator))
way_seen nodes facts table kept.Unknown = Nowhere []

-- its parts are of the table
abbrev pub IsKnownWay : TypeTable → Way → Type 0
IsKnownWay table (kept.Along parts) = All (IsKnownPart table) parts.items
IsKnownWay table (kept.NoPart designator) = Unit {0}
IsKnownWay table kept.Unknown = Unit {0}

-- parts, and behind them a way
abbrev pub all_through : List meaning_parts.Part → meaning.Way → meaning.Way
all_through [] way = way
all_through (part ∷ parts) way = through part (all_through parts way)

-- wherever these designators lead from within, all lead there from the object, through these parts
abbrev pub Completes : Aggregates → (within of : TypeTree) → (designators all : List Designator) → List meaning_parts.Part → Type 0
Completes aggregates within of designators all parts =
    (rest : meaning.Way) → Leads aggregates within designators rest → Leads aggregates of all (all_through parts rest)
