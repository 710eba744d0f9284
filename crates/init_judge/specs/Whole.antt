-- What an object receives as a whole, as it is kept.
use Rattle.std.specs.Prelude.{◌≡◌, ℕ, Bool, false, List, [], option_map}
use Rattle.sparse_model.specs.declared.ids.TypeId.{TypeId}
use Rattle.meaning_typing.specs.Facts.{Fact}
use Rattle.meaning_typing.specs.Units.{UnitNodes}
use Rattle.meaning_initializers.specs.Parts.{Aggregates}
use Rattle.meaning_initializers.specs.Plans as meaning
use Rattle.meaning_initializers.specs.Filling.{Receives}
use Rattle.meaning_initializers.specs.Reading.{initializer_at, refusal_told}
use Rattle.c_types.specs.Table.{TypeTable, type_at}
use Rattle.initializer_levels.specs.declared.plan.Plan.{Plan}
use Rattle.initializer_levels.specs.Met.{found_with}
use Rattle.initializer_levels.specs.Turns.{Found, nothing_found}
use Rattle.init_judge.specs.Said.{broken_of}

-- the plan has these leaves, of its refusals this is told as a broken constraint, and it gives that length
pub record IsFound (plan : meaning.Plan) (found : Found) (length : ℕ) : Type 0 where
  pub leaves : plan.leaves ≡ found.leaves
  pub broken : option_map broken_of (refusal_told plan.refusals) ≡ option_map broken_of found.told
  pub len : plan.length ≡ length

-- what an object of this type makes of the initializer with this handle is what was found
abbrev pub IsReceived : Aggregates → (is_static : Bool) → TypeTable → UnitNodes → List Fact → (object : TypeId) → (init : ℕ) → Plan → Type 0
IsReceived aggregates is_static table nodes facts object init plan =
    (meant : meaning.Plan) × Receives aggregates is_static (type_at table object) [] false (initializer_at nodes facts init) meant
    × IsFound meant (found_with nodes facts is_static table plan.paths nothing_found plan.findings.items) plan.length
