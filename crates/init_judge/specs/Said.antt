-- What is said of the findings of a walk, one by one and together. The rules that fail are appended to a list.
use Rattle.std.specs.Prelude.{◌≡◌, ℕ, List, [], ◌∷◌, map, All, Option, Some, option_map}
use Rattle.vocabulary.specs.declared.error_kind.ErrorKind.{ErrorKind}
use Rattle.sparse_model.specs.declared.failure.Failure.{Failure}
use Rattle.meaning_operands.specs.Failures.{Broken}
use Rattle.meaning_typing.specs.Facts.{Fact}
use Rattle.meaning_typing.specs.Units.{UnitNodes}
use Rattle.meaning_rules.specs.Rules.{least_broken}
use Rattle.meaning_initializers.specs.Plans.{Leaf, Refusal, Plan}
use Rattle.meaning_initializers.specs.Reading.{initializer_failures}
use Rattle.c_types.specs.Table.{IsTypeId, TypeTable}
use Rattle.node_facts.specs.Growing.{TypesJoin}
use Rattle.expression_rows.specs.declared.row.Broken as rows
use Rattle.expression_rows.specs.Arguments.{Appends}
use Rattle.expression_rows.specs.Rows.{broken_seen}
use Rattle.initializer_levels.specs.declared.met.Finding.{Finding}
use Rattle.initializer_levels.specs.declared.met.Finding.TheVariants as findings
use Rattle.initializer_levels.specs.declared.met.Placed.{Placed}
use Rattle.initializer_levels.specs.Met.{IsPlacedIn}
use Rattle.initializer_levels.specs.Turns.{Found}
use Rattle.init_judge.specs.declared.leaf.Said.{Said}
use Rattle.init_judge.specs.Leaves.{leaf_seen, listed_leaf}

-- a refusal, as the constraint that is broken, in whose text there is no name
abbrev pub broken_of : Refusal → Broken
broken_of refusal = record { constraint = refusal.constraint; token = refusal.token; name = [] }

-- what is kept of a plan besides the length of an array: its leaves, and the least of what is refused
pub record KeptPlan : Type 0 where
  pub leaves : List Leaf
  pub broken : Option Broken

abbrev pub plan_kept : Plan → KeptPlan
plan_kept plan = record { leaves = plan.leaves; broken = least_broken (map broken_of plan.refusals) }

abbrev pub said_seen : TypeTable → (paths : List (List ℕ)) → Said → KeptPlan
said_seen table paths said =
    record { leaves = map (leaf_seen table paths) (listed_leaf said.leaf); broken = option_map broken_seen said.broken }

-- one leaf, which may break a constraint
abbrev pub one_kept : Leaf → Option Broken → KeptPlan
one_kept leaf broken = record { leaves = leaf ∷ []; broken = broken }

-- no leaf, and a constraint that is broken at this token
abbrev pub refused_at : ErrorKind → (token : ℕ) → KeptPlan
refused_at constraint token = record { leaves = []; broken = Some (record { constraint = constraint; token = token; name = [] }) }

-- the part of a leaf has a type of the table
abbrev pub HasType : TypeTable → Finding → Type 0
HasType table (findings.Leaf placed) = IsTypeId table placed.of.of
HasType table (findings.Extra initializer) = Unit {0}
HasType table (findings.NoPart designator) = Unit {0}

-- This is what a plan says: it is kept so, and the rules that fail at its leaves are appended. Types may join the table.
pub record Says (nodes : UnitNodes) (facts : List Fact) (old new : TypeTable) (paths : List (List ℕ)) (before after : List Failure) (said : Said) (plan : Plan) : Type 0 where
  pub kept : said_seen old paths said ≡ plan_kept plan
  pub failures : Appends new before after (initializer_failures nodes facts plan.leaves)
  pub keeps : TypesJoin old new

-- The same of all that was found so far.
pub record HasJudged (nodes : UnitNodes) (facts : List Fact) (old new : TypeTable) (paths : List (List ℕ)) (before after : List Failure) (listed : List Placed) (least : Option rows.Broken) (found : Found) : Type 0 where
  pub leaves : map (leaf_seen old paths) listed ≡ found.leaves
  pub known : All (IsPlacedIn old paths) listed
  pub broken : option_map broken_seen least ≡ option_map broken_of found.told
  pub failures : Appends new before after (initializer_failures nodes facts found.leaves)
  pub keeps : TypesJoin old new
