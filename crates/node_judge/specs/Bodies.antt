-- What is known of aggregates, with one body more; and that what a specifier declares stays where more is known.
use Rattle.std.specs.Prelude.{◌≡◌, ◌≤◌, ◌<◌, ℕ, Bool, nat_eq, true, false, List, ◌++◌, All, length}
use Rattle.std.specs.List.{flat_map}
use Rattle.std.specs.Map.{lookup}
use Rattle.meaning_layout.specs.Members.{DeclaredBody, tell_names}
use Rattle.meaning_layout.specs.Telling.{tell}
use Rattle.meaning_typing.specs.Aggregates.{Bodies, KnownAggregates, aggregates_of, tell_const}
use Rattle.meaning_typing.specs.EnumRows.{enumerators_of}
use Rattle.meaning_typing.specs.Facts.{Fact}
use Rattle.meaning_typing.specs.MemberDeclarations.{bodies_at, bodies_before, member_list}
use Rattle.meaning_typing.specs.Surroundings.{Surrounding}
use Rattle.meaning_typing.specs.Units.{UnitNodes, children_at, kind_at}
use Rattle.c_types.specs.Table.{TypeTable, IsLonger}
use Rattle.whole_judge.specs.Known.{AreKnownBodies}

-- a body that is told behind those of which this is known
abbrev pub aggregates_with : KnownAggregates → ℕ × DeclaredBody (List ℕ) → KnownAggregates
aggregates_with aggregates entry =
    record {
      told = tell aggregates.told entry.0 entry.1.body;
      names = tell_names aggregates.told aggregates.names entry.0 entry.1.members;
      has_const = tell_const aggregates.told aggregates.has_const entry.0 entry.1.members;
    }

-- of each aggregate the first body among some is that among others, or both have none
abbrev pub AreOneFirst : Bodies → Bodies → Type 0
AreOneFirst bodies others = (number : ℕ) → lookup (nat_eq number) bodies ≡ lookup (nat_eq number) others

-- the bodies that are told behind these facts, with the one that the next node declares, if it declares one
abbrev pub bodies_behind : UnitNodes → List Surrounding → List Fact → Bodies
bodies_behind nodes surroundings facts =
    bodies_before nodes surroundings facts (length facts) ++ bodies_at nodes surroundings facts (length facts) (kind_at nodes (length facts))

-- what is known of aggregates behind these facts, and behind the body that the next node declares, if it declares one
abbrev pub aggregates_behind : UnitNodes → List Surrounding → List Fact → KnownAggregates
aggregates_behind nodes surroundings facts = aggregates_of (bodies_behind nodes surroundings facts)

-- parts stand before
abbrev pub PartsStandBefore : UnitNodes → Type 0
PartsStandBefore nodes = (handle : ℕ) → All (λ child. child < handle) (children_at nodes handle)

-- what nodes ask of those before them stays where more is known
pub record Stay (nodes : UnitNodes) (surroundings : List Surrounding) (facts others : List Fact) (handle : ℕ) : Type 0 where
  pub bodies : bodies_at nodes surroundings others handle (kind_at nodes handle) ≡ bodies_at nodes surroundings facts handle (kind_at nodes handle)
  pub before : bodies_before nodes surroundings others handle ≡ bodies_before nodes surroundings facts handle
  pub enumerators : enumerators_of nodes others handle ≡ enumerators_of nodes facts handle

abbrev pub BodiesStay : Type 0
BodiesStay =
    (nodes : UnitNodes) (surroundings : List Surrounding) (facts more : List Fact) (handle : ℕ)
    → PartsStandBefore nodes → length (facts ++ more) ≤ length nodes → handle ≤ length facts
    → Stay nodes surroundings facts (facts ++ more) handle

-- the lists of members among children
abbrev pub lists_among : UnitNodes → (handles : List ℕ) → List ℕ
lists_among nodes handles = flat_map (λ child. member_list (kind_at nodes child) child) handles

-- so many, where one was met or none
abbrev pub count_met : Bool → ℕ
count_met true = 1
count_met false = 0

-- bodies join a table, whose members are of its types, and nothing else changes
pub record BodiesJoin (old new : TypeTable) : Type 0 where
  pub rows : new.rows ≡ old.rows
  pub longer : IsLonger old.bodies new.bodies
  pub names : new.names ≡ old.names
  pub known : AreKnownBodies new
