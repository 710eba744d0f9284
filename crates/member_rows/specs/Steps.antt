-- How the steps of an offset are seen, over a table of types.
use Rattle.std.specs.Prelude.{◌≡◌, ℕ, ℤ, pos, negsuc, true, false, ◌&&◌, Bool, is_some, List, [], ◌++◌, Option, Some, None, IfSome, option_map, if◌then◌else◌}
use Rattle.std.specs.Option.{option_and_then}
use Rattle.vocabulary.specs.declared.error_kind.ErrorKind.TheVariants.{BadDesignator, CannotDereference, CannotTakeAddress}
use Rattle.vocabulary.specs.declared.int_kind.IntKind.TheVariants as integers
use Rattle.sparse_model.specs.declared.failure.Failure.{Failure}
use Rattle.sparse_model.specs.declared.ids.TypeId.{TypeId}
use Rattle.meaning_operands.specs.Failures as failures
use Rattle.meaning_types.specs.Types.{TypeTree}
use Rattle.meaning_layout.specs.Members.{FoundMember}
use Rattle.meaning_layout.specs.Sizes.{Told}
use Rattle.meaning_constants.specs.Sizes.{NamedMember, asked_size, element_spot}
use Rattle.meaning_rules.specs.Rules.{least_broken}
use Rattle.meaning_typing.specs.Aggregates.{KnownAggregates}
use Rattle.meaning_typing.specs.Facts.{Fact, Unknown, Expression, ExpressionFact, type_of_value, value}
use Rattle.meaning_typing.specs.OffsetRows as meaning
use Rattle.meaning_typing.specs.Rows.{breaks_at, void_used}
use Rattle.meaning_typing.specs.Operators.{integer}
use Rattle.c_types.specs.Table.{TypeTable, IsTypeId, integer_kind, type_at}
use Rattle.expression_rows.specs.declared.row.Broken.{Broken}
use Rattle.expression_rows.specs.Parts.{unless}
use Rattle.expression_rows.specs.Rows as rows
use Rattle.expression_rows.specs.Rows.{IsKnownFailure, broken_seen, failure_listed}
use Rattle.member_rows.specs.declared.reached.OffsetStep.{OffsetStep}
use Rattle.member_rows.specs.declared.reached.Reached.{Reached}

abbrev pub reached_seen : TypeTable → Reached → meaning.Reached
reached_seen table reached = record { of = type_at table reached.of; width = reached.width; bytes = reached.bytes; is_known = reached.is_known }

abbrev pub IsKnownReached : TypeTable → Reached → Type 0
IsKnownReached table reached = IsTypeId table reached.of

-- what a pass takes over of a walk
pub record ToldWalk : Type 0 where
  pub broken : Option failures.Broken
  pub failures : List failures.Failure
  pub reached : Option meaning.Reached

abbrev pub walk_told : meaning.Walk → ToldWalk
walk_told walk = record { broken = least_broken walk.broken; failures = walk.failures; reached = walk.reached }

abbrev pub step_seen : TypeTable → OffsetStep → ToldWalk
step_seen table step =
    record {
      broken = option_map broken_seen step.broken;
      failures = failure_listed table step.failure;
      reached = option_map (reached_seen table) step.reached;
    }

-- its types are of the table
pub record IsKnownOffsetStep (table : TypeTable) (step : OffsetStep) : Type 0 where
  pub reached : IfSome step.reached (IsKnownReached table)
  pub failure : IfSome step.failure (IsKnownFailure table)

-- this is the least constraint that a walk breaks, and there it has led
pub record IsWalked (table : TypeTable) (broken : Option Broken) (reached : Option Reached) (walk : meaning.Walk) : Type 0 where
  pub least : option_map broken_seen broken ≡ least_broken walk.broken
  pub leads : option_map (reached_seen table) reached ≡ walk.reached

-- As they are made

abbrev pub first_reached : TypeId → Reached
first_reached of = record { of = of; width = None; bytes = Some 0; is_known = true }

abbrev pub stopped_at : Option Broken → Option Failure → OffsetStep
stopped_at broken failure = record { reached = None; broken = broken; failure = failure }

abbrev pub gone_to : Reached → Option Failure → OffsetStep
gone_to reached failure = record { reached = Some reached; broken = None; failure = failure }

-- a member that was found
abbrev pub member_reached : KnownAggregates → (name : List ℕ) → meaning.Reached → FoundMember → meaning.Reached
member_reached aggregates name reached found =
    record {
      of = found.of;
      width = found.width;
      bytes = option_and_then (meaning.bytes_to aggregates (NamedMember name) reached.of) reached.bytes;
      is_known = reached.is_known;
    }

-- an element, before which so many bytes lie
abbrev pub element_reached : Reached → (element : TypeId) → (bytes : Option ℕ) → (is_known : Bool) → Reached
element_reached reached element bytes is_known = record { of = element; width = None; bytes = bytes; is_known = reached.is_known && is_known }

-- Elements

-- so many bytes lie before an element, where so many lie before its array
abbrev pub bytes_to_element : Told → (element : TypeTree) → (index : ℕ) → ℕ → Option ℕ
bytes_to_element told element index bytes = meaning.bytes_of_part (element_spot bytes element (asked_size told element) index)

-- by the constant of an index
abbrev pub element_at_number : Told → (token : ℕ) → List failures.Failure → meaning.Reached → (element : TypeTree) → Option ℤ → meaning.Walk
element_at_number told token failing reached element (Some (pos number)) =
    meaning.led_to token failing reached element (option_and_then (bytes_to_element told element number) reached.bytes)
element_at_number told token failing reached element (Some (negsuc number)) = meaning.stopped (breaks_at BadDesignator token) failing
element_at_number told token failing reached element None = meaning.stopped (breaks_at BadDesignator token) failing

-- by an index, which is an integer or not
abbrev pub element_at_index : Told → (token index : ℕ) → meaning.Reached → (element : TypeTree) → ExpressionFact → List failures.Failure → (is_integer : Bool) → meaning.Walk
element_at_index told token index reached element expression failing is_integer =
    if is_integer then element_at_number told token failing reached element expression.constant
    else meaning.stopped (breaks_at CannotDereference token ++ void_used index expression) []

-- to an element of this type, by what is known of the index
abbrev pub to_element_of : Told → (token index : ℕ) → meaning.Reached → (element : TypeTree) → Fact → meaning.Walk
to_element_of told token index reached element (Expression expression) =
    element_at_index told token index reached element expression (meaning.restricted_index token (type_of_value expression)) (is_some (integer_kind (type_of_value expression)))
to_element_of told token index reached element fact = meaning.goes_to [] (meaning.at_element reached element reached.bytes false)

abbrev pub to_element_if : Told → (token index : ℕ) → meaning.Reached → (element : Option TypeTree) → Fact → meaning.Walk
to_element_if told token index reached None fact = meaning.stopped (breaks_at CannotDereference token) []
to_element_if told token index reached (Some element) fact = to_element_of told token index reached element fact

-- Rows

-- a bit-field has no address of its own
abbrev pub broken_by_width : (token : ℕ) → (width : Option ℕ) → List failures.Broken
broken_by_width token width = if is_some width then breaks_at CannotTakeAddress token else []

-- by the least constraint that is broken, and by whether the steps have led somewhere
abbrev pub offset_with : Option failures.Broken → (is_led : Bool) → rows.Told
offset_with broken is_led =
    record { fact = unless broken (if is_led then Expression (value (integer integers.ULong)) else Unknown); broken = broken; failures = []; passed = [] }
