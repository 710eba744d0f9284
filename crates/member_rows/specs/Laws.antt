-- What holds of what a table knows of aggregates, and of the steps of an offset one behind the other.
use Rattle.std.specs.Prelude.{◌≡◌, ℕ, List, [], ◌∷◌, ◌++◌, All, Option, Some}
use Rattle.std.specs.Str.{bytes_eq}
use Rattle.sparse_model.specs.declared.ids.NameId.{NameId}
use Rattle.meaning_operands.specs.Failures.{Broken, Failure}
use Rattle.meaning_layout.specs.Members.{named_member}
use Rattle.meaning_rules.specs.Rules.{least_broken, lesser}
use Rattle.meaning_typing.specs.Aggregates.{KnownAggregates}
use Rattle.meaning_typing.specs.OffsetRows.{OffsetStep, Reached, Walk, step_to, walk_from}
use Rattle.c_types.specs.Layouts.{told_in}
use Rattle.c_types.specs.Members.{member_in}
use Rattle.c_types.specs.Table.{TypeTable, IsBodyOver, types_in}
use Rattle.node_facts.specs.Facts.{name_seen}
use Rattle.node_facts.specs.Growing.{TypesJoin}
use Rattle.member_rows.specs.Aggregates.{aggregates_in}
use Rattle.member_rows.specs.Steps.{ToldWalk, walk_told}

-- Aggregates

-- what is known of them is the layouts of the table, and what its names name
abbrev pub LayoutsAreKnown : Type 0
LayoutsAreKnown = (table : TypeTable) → (aggregates_in table).told ≡ told_in table

abbrev pub MembersAreKnown : Type 0
MembersAreKnown =
    (table : TypeTable) (number : ℕ) (name : NameId)
    → named_member bytes_eq ((aggregates_in table).names number) (name_seen name) ≡ member_in table number name

-- it stays when types join the table
abbrev pub AggregatesStay : Type 0
AggregatesStay =
    (old new : TypeTable) → TypesJoin old new → All (λ entry. IsBodyOver (types_in old) entry.1) old.bodies
    → aggregates_in new ≡ aggregates_in old

-- Steps

-- what was found so far, with what is left of a walk, comes to the whole walk
pub record LeadsOn (least : Option Broken) (found : List Failure) (left whole : Walk) : Type 0 where
  pub broken : lesser least (least_broken left.broken) ≡ least_broken whole.broken
  pub failures : found ++ left.failures ≡ whole.failures
  pub reached : left.reached ≡ whole.reached

-- it does behind one step more
abbrev pub WalksGoOn : Type 0
WalksGoOn =
    (aggregates : KnownAggregates) (step : OffsetStep) (steps : List OffsetStep) (reached : Reached) (told : ToldWalk)
    (least : Option Broken) (found : List Failure) (whole : Walk)
    → told ≡ walk_told (step_to aggregates reached step)
    → LeadsOn least found (walk_from aggregates (step ∷ steps) (Some reached)) whole
    → LeadsOn (lesser least told.broken) (found ++ told.failures) (walk_from aggregates steps told.reached) whole

-- where nothing more is found, that is the whole walk
abbrev pub WalksEnd : Type 0
WalksEnd =
    (least : Option Broken) (found : List Failure) (reached : Option Reached) (whole : Walk)
    → LeadsOn least found (record { broken = []; failures = []; reached = reached }) whole
    → (least ≡ least_broken whole.broken) × (found ≡ whole.failures) × (reached ≡ whole.reached)
