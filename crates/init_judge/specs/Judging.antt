-- What is answered of an initializer.
use Rattle.std.specs.Prelude.{◌≡◌, ℕ, Bool, List, [], map, Some, option_map}
use Rattle.sparse_model.specs.declared.failure.Failure.{Failure}
use Rattle.meaning_types.specs.Types.{TypeTree}
use Rattle.meaning_typing.specs.Facts.{Fact}
use Rattle.meaning_typing.specs.Units.{UnitNodes}
use Rattle.meaning_initializers.specs.Parts.{Aggregates}
use Rattle.meaning_initializers.specs.Filling.{Outcome, Initializes}
use Rattle.meaning_initializers.specs.Reading.{initializer_at, initializer_failures, refusal_told}
use Rattle.c_types.specs.Table.{TypeTable, type_at}
use Rattle.node_facts.specs.Growing.{TypesJoin}
use Rattle.expression_rows.specs.Arguments.{Appends}
use Rattle.expression_rows.specs.Rows.{broken_seen}
use Rattle.init_judge.specs.declared.fault.InitFault.{InitFault}
use Rattle.init_judge.specs.declared.fault.InitFault.TheVariants as faults
use Rattle.init_judge.specs.declared.judging.InitPlan.{InitPlan}
use Rattle.init_judge.specs.Leaves.{leaf_seen}
use Rattle.init_judge.specs.Said.{broken_of}

-- An object is initialized so, and nothing is refused: its leaves in order, and its completed type; the rules that fail at the leaves are
-- appended.
pub record IsInitializedBy (aggregates : Aggregates) (is_static : Bool) (nodes : UnitNodes) (facts : List Fact) (object : TypeTree) (init : ℕ)
    (table : TypeTable) (before after : List Failure) (plan : InitPlan) : Type 0 where
  pub outcome : Outcome
  pub initializes : Initializes aggregates is_static object (initializer_at nodes facts init) outcome
  pub leaves : map (leaf_seen table plan.paths) plan.leaves.items ≡ outcome.leaves
  pub complete : type_at table plan.complete ≡ outcome.complete
  pub unrefused : outcome.refusals ≡ []
  pub failures : Appends table before after (initializer_failures nodes facts outcome.leaves)

-- It is refused for what is told of the refusals; want of memory says nothing.
abbrev pub IsRefusedFor : Aggregates → (is_static : Bool) → UnitNodes → List Fact → (object : TypeTree) → (init : ℕ) → InitFault → Type 0
IsRefusedFor aggregates is_static nodes facts object init (faults.Constraint broken) =
    (outcome : Outcome) × Initializes aggregates is_static object (initializer_at nodes facts init) outcome
    × (option_map broken_of (refusal_told outcome.refusals) ≡ Some (broken_seen broken))
IsRefusedFor aggregates is_static nodes facts object init faults.Memory = Unit {0}

-- Types alone may have joined the table where it breaks a constraint; want of memory says nothing.
abbrev pub KeepsTypes : (old new : TypeTable) → InitFault → Type 0
KeepsTypes old new (faults.Constraint broken) = TypesJoin old new
KeepsTypes old new faults.Memory = Unit {0}
