-- How far the steps of an offset have come, and what is left of them.
use Rattle.std.specs.Prelude.{◌≡◌, ℕ, true, List, ◌∷◌, ◌++◌, All, drop, map, Option, Some, None, option_map}
use Rattle.sparse_model.specs.declared.failure.Failure.{Failure}
use Rattle.meaning_types.specs.Types.{TypeTree}
use Rattle.meaning_typing.specs.Aggregates.{KnownAggregates}
use Rattle.meaning_typing.specs.Facts.{Fact}
use Rattle.meaning_typing.specs.OffsetRows.{OffsetStep, ToElement, ToMember, Walk, step_of, steps_of, walk_from}
use Rattle.meaning_typing.specs.OffsetRows as meaning
use Rattle.meaning_typing.specs.Typing.{part_fact, part_token, token_at}
use Rattle.meaning_typing.specs.Units.{UnitNodes, children_at, kind_at, node_at}
use Rattle.c_types.specs.Table.{TypeTable}
use Rattle.expression_rows.specs.declared.row.Broken.{Broken}
use Rattle.expression_rows.specs.Rows.{IsKnownFailure, broken_seen, failure_seen}
use Rattle.member_rows.specs.declared.reached.Reached.{Reached}
use Rattle.member_rows.specs.Laws.{LeadsOn}
use Rattle.member_rows.specs.Steps.{reached_seen}

-- the step of the designator with this handle
abbrev pub step_at : UnitNodes → List Fact → (handle : ℕ) → OffsetStep
step_at nodes facts handle = step_of nodes facts handle (kind_at nodes handle)

-- of one that is no member's
abbrev pub element_of : UnitNodes → List Fact → (handle : ℕ) → OffsetStep
element_of nodes facts handle = ToElement (token_at nodes handle) (part_token nodes handle 0) (part_fact nodes facts handle 0)

-- the steps of the designators behind the first child
abbrev pub steps_behind : UnitNodes → List Fact → (handles : List ℕ) → List OffsetStep
steps_behind nodes facts handles = steps_of nodes facts (drop 1 handles)

-- all of them behind a first one
abbrev pub whole_walk : KnownAggregates → (first : OffsetStep) → (others : List OffsetStep) → meaning.Reached → Walk
whole_walk aggregates first others reached = walk_from aggregates (first ∷ others) (Some reached)

-- the walk of a node in an object of this type: first to the member whose name it holds
abbrev pub walk_in : KnownAggregates → UnitNodes → List Fact → (handle : ℕ) → TypeTree → Walk
walk_in aggregates nodes facts handle of =
    whole_walk aggregates (ToMember (token_at nodes handle) (node_at nodes handle).name) (steps_behind nodes facts (children_at nodes handle))
    (record { of = of; width = None; bytes = Some 0; is_known = true })

-- what is left, from where the steps so far have led
abbrev pub left_from : KnownAggregates → TypeTable → List OffsetStep → Option Reached → Walk
left_from aggregates table steps reached = walk_from aggregates steps (option_map (reached_seen table) reached)

-- What was found so far, with what is left, comes to the whole walk: failures were appended, and their types are of the table.
abbrev pub HasWalked : TypeTable → (before after : List Failure) → Option Broken → (left whole : Walk) → Type 0
HasWalked table before after broken left whole =
    (more : List Failure) × (after ≡ before ++ more)
    × LeadsOn (option_map broken_seen broken) (map (failure_seen table) more) left whole × All (IsKnownFailure table) more
