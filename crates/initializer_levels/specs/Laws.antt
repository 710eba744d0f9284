-- A walk over the items of an initializer comes to the outcome.
use Rattle.std.specs.Prelude.{◌≡◌, ℕ, Bool, false, List, [], None}
use Rattle.meaning_types.specs.Types.{TypeTree}
use Rattle.meaning_tree.specs.Nodes.{ChildrenStandBefore}
use Rattle.meaning_typing.specs.Facts.{Fact}
use Rattle.meaning_typing.specs.Units.{UnitNodes, kind_at, unit_list}
use Rattle.meaning_initializers.specs.Items.{Braces, Items}
use Rattle.meaning_initializers.specs.Parts.{Aggregates, string_before}
use Rattle.meaning_initializers.specs.Plans.{Plan}
use Rattle.meaning_initializers.specs.Filling.{Receives}
use Rattle.meaning_initializers.specs.Reading.{initializer_at, initializer_by, refusal_told}
use Rattle.c_types.specs.Table.{IsLonger, TypeTable}
use Rattle.initializer_levels.specs.declared.items.ItemList.{ItemList}
use Rattle.initializer_levels.specs.declared.level.Level as kept
use Rattle.initializer_levels.specs.Kept.{level_seen}
use Rattle.initializer_levels.specs.Paths.{IsPathIn}
use Rattle.initializer_levels.specs.Turns.{Comes, Found, begun}

-- the plan has these leaves, its refusals tell this one, and it gives that length
pub record IsFoundOf (plan : Plan) (found : Found) (length : ℕ) : Type 0 where
  pub leaves : plan.leaves ≡ found.leaves
  pub told : refusal_told plan.refusals ≡ found.told
  pub len : plan.length ≡ length

-- what an object makes of braces without a string is what the walk over their items finds
abbrev pub WalksComeToPlans : Type 0
WalksComeToPlans =
    (aggregates : Aggregates) (is_static : Bool) (object : TypeTree) (handle token : ℕ) (items : Items) (found : Found) (length : ℕ)
    → string_before object items ≡ None → Comes aggregates is_static (begun object items) found length
    → (plan : Plan) × Receives aggregates is_static object [] false (Braces handle token items) plan × IsFoundOf plan found length

-- Nodes: an initializer is made of its parts, however deep they are

abbrev pub InitializersAreOfParts : Type 0
InitializersAreOfParts =
    (nodes : UnitNodes) (facts : List Fact) → ChildrenStandBefore (unit_list nodes) → (handle : ℕ)
    → initializer_at nodes facts handle ≡ initializer_by nodes facts (initializer_at nodes facts) handle (kind_at nodes handle)

-- Levels as they are kept: they stay as they are where more paths are added

abbrev pub LevelsStay : Type 0
LevelsStay =
    (table : TypeTable) (old new : List (List ℕ)) (read : ItemList → Items) (level : kept.Level) → IsLonger old new → IsPathIn old level.path
    → level_seen table new read level ≡ level_seen table old read level
