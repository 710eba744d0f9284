-- What is known of a unit so far, and what is answered of it in the end.
use Rattle.std.specs.Prelude.{◌≡◌, ℕ, List, All, Contains, Option, Some, length, map, option_map}
use Rattle.vocabulary.specs.declared.limit.LimitKind.TheVariants as limits
use Rattle.sparse_model.specs.declared.failure.Failure.{Failure}
use Rattle.c_types.specs.Table.{TypeTable}
use Rattle.failure_listing.specs.Ranks.{KeepsRank}
use Rattle.judged_objects.specs.Kept.{AreObjects}
use Rattle.meaning_operands.specs.Failures as meaning
use Rattle.meaning_warnings.specs.Listing.{IsListing}
use Rattle.meaning_units.specs.WholeRows.{AreFirstRows, AreRows, broken_at, facts_of, failures_at, passed_at}
use Rattle.meaning_units.specs.WholeRules.{IsJudged, IsJudgement}
use Rattle.meaning_typing.specs.Rows.{Row}
use Rattle.meaning_typing.specs.Surroundings.{Surrounding, AreSurroundings}
use Rattle.meaning_typing.specs.Units.{UnitNodes}
use Rattle.meaning_rules.specs.Rules.{Judgement, Holds, BreaksConstraint, PassesObjectSize, gathered, least_broken, least_token}
use Rattle.node_facts.specs.Facts.{IsKnownNodeFact, nodes_seen}
use Rattle.expression_rows.specs.Rows.{broken_seen}
use Rattle.expr_judge.specs.Found.{AreKnownFailures, found_seen}
use Rattle.node_judge.specs.Known.{IsKnownOf, table_of}
use Rattle.statement_judge.specs.Statements.{IsKeptOf}
use Rattle.type_judge.specs.declared.fault.JudgeFault.{JudgeFault}
use Rattle.type_judge.specs.declared.fault.JudgeFault.TheVariants as faults
use Rattle.type_judge.specs.declared.judging.Judged.{Judged}
use Rattle.type_judge.specs.declared.pass.Ending.{Ending}
use Rattle.type_judge.specs.declared.pass.Pass.{Pass}
use Rattle.node_judge.specs.NamedTypes.{names_told, renamed}

-- So far

-- this is known and kept of the first so many nodes by their rows, and this was found at them: all that fails, and the least of what is
-- broken and of what is passed
pub record IsPassOver (nodes : UnitNodes) (surroundings : List Surrounding) (count : ℕ) (pass : Pass) : Type 0 where
  pub rows : List Row
  pub are_rows : AreFirstRows nodes surroundings rows
  pub all : length rows ≡ count
  pub known : IsKnownOf nodes surroundings count (facts_of rows) pass.known
  pub kept : IsKeptOf nodes surroundings (facts_of rows) count pass.statements
  pub failures : found_seen (table_of pass.known) pass.found ≡ gathered (failures_at nodes surroundings rows) count
  pub ids : AreKnownFailures (table_of pass.known) pass.found
  pub broken : option_map broken_seen pass.broken ≡ least_broken (gathered (broken_at rows) count)
  pub passed : pass.passed ≡ least_token (gathered (passed_at rows) count)

-- In the end

-- the names of the types that are known are told, what was found is listed, and what declarations come to is gathered
pub record IsEnded (nodes : UnitNodes) (surroundings : List Surrounding) (before after : Pass) (ending : Ending) : Type 0 where
  pub types : table_of after.known ≡ renamed (table_of before.known) (names_told nodes surroundings (length nodes))
  pub facts : after.known.declarations.facts ≡ before.known.declarations.facts
  pub lists : (seen : Failure → meaning.Failure) → KeepsRank seen → IsListing (map seen before.found) (map seen ending.failures)
  pub found : All (Contains before.found) ending.failures
  pub objects : (table : TypeTable) → AreObjects nodes surroundings (nodes_seen table before.known.declarations.facts) ending.objects

-- what is told of a unit by what a pass knows in the end, and by what is told besides
abbrev pub judged_from : Pass → Ending → Judged
judged_from pass ending =
    record {
      types = table_of pass.known;
      facts = pass.known.declarations.facts;
      failures = ending.failures;
      objects = ending.objects;
    }

-- Nothing is refused, and this is what is known of each node, the listing of all that fails, what types are named, and what objects are
-- declared.
pub record IsJudgedSo (nodes : UnitNodes) (judged : Judged) : Type 0 where
  pub surroundings : List Surrounding
  pub rows : List Row
  pub are_surroundings : AreSurroundings nodes surroundings
  pub are_rows : AreRows nodes surroundings rows
  pub judgement : IsJudged nodes surroundings rows (Holds (found_seen judged.types judged.failures))
  pub known : nodes_seen judged.types judged.facts ≡ facts_of rows
  pub names : judged.types.names ≡ names_told nodes surroundings (length nodes)
  pub objects : AreObjects nodes surroundings (facts_of rows) judged.objects

-- all types that are told are of its table
pub record HasTypeIds (judged : Judged) : Type 0 where
  pub facts : All (IsKnownNodeFact judged.types) judged.facts
  pub failures : AreKnownFailures judged.types judged.failures

-- A unit is refused for its least constraint, or since an object is too large; want of memory says nothing.
abbrev pub IsRefusedFor : UnitNodes → JudgeFault → Type 0
IsRefusedFor nodes (faults.Constraint broken) = IsJudgement nodes (BreaksConstraint (broken_seen broken))
IsRefusedFor nodes (faults.Limit limits.ObjectSize) = IsJudgement nodes PassesObjectSize
IsRefusedFor nodes (faults.Limit limit) = ⊥
IsRefusedFor nodes faults.Memory = Unit {0}

-- this is what a refusal of a unit says
abbrev pub IsRefusal : JudgeFault → Option Judgement → Type 0
IsRefusal (faults.Constraint broken) refusal = refusal ≡ Some (BreaksConstraint (broken_seen broken))
IsRefusal (faults.Limit limits.ObjectSize) refusal = refusal ≡ Some PassesObjectSize
IsRefusal (faults.Limit limit) refusal = ⊥
IsRefusal faults.Memory refusal = ⊥
