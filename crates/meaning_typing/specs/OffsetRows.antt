-- `__builtin_offsetof` (C11 7.19 p3): which member or element its name and its designators lead to, and what is broken on the way.
use Rattle.std.specs.Prelude.{ℕ, ℤ, pos, negsuc, Bool, true, false, ◌&&◌, is_some, List, [], ◌∷◌, ◌++◌, map, Option, Some, None, if◌then◌else◌}
use Rattle.std.specs.Option.{option_and_then}
use Rattle.vocabulary.specs.declared.error_kind.ErrorKind.TheVariants.{CannotDereference, CannotTakeAddress, NoSuchMember, NoAggregate, IncompleteType, BadDesignator}
use Rattle.vocabulary.specs.declared.int_kind.IntKind.TheVariants as integers
use Rattle.vocabulary.specs.declared.node_kind.NodeKind.{NodeKind}
use Rattle.vocabulary.specs.declared.node_kind.NodeKind.TheVariants as kinds
use Rattle.vocabulary.specs.declared.rule.RuleCode.TheVariants.{B1}
use Rattle.meaning_types.specs.Types.{TypeTree, Typed, ArrayTree}
use Rattle.meaning_operands.specs.Failures.{Failure, Broken}
use Rattle.meaning_operands.specs.Operands.{is_restricted}
use Rattle.meaning_constants.specs.Sizes.{Designator, ElementAt, NamedMember, ObjectPart, designated}
use Rattle.meaning_typing.specs.Units.{UnitNodes, node_at, kind_at, child_at}
use Rattle.meaning_typing.specs.Facts.{Fact, Unknown, Expression, NamedType, ExpressionFact, fact_at, type_of_value, value}
use Rattle.meaning_typing.specs.Aggregates.{KnownAggregates}
use Rattle.meaning_typing.specs.Rows.{Row, nothing, breaks_at, breaks_named, fails_with, unless_broken}
use Rattle.meaning_typing.specs.Offsets.{members_named}
use Rattle.meaning_typing.specs.Operators.{ValueSort, IntegerSort, value_sort, void_alone, integer}
use Rattle.meaning_typing.specs.Members.{Selection, NotAggregate, NotComplete, Selected, selection_of}

-- Steps: to a member, whose token is that of `.`, or the word for the first one; and to an element, at `[`, by an index at its own token

pub data OffsetStep : Type 0 where
  ToMember : (token : ℕ) → (name : List ℕ) → OffsetStep
  ToElement : (token index : ℕ) → Fact → OffsetStep

-- where the steps so far have led
pub record Reached : Type 0 where
  pub of : TypeTree
  -- of a bit-field
  pub width : Option ℕ
  -- how many bytes lie before it, where that is no more than an object has
  pub bytes : Option ℕ
  -- of each index the type is known
  pub is_known : Bool

-- and what was found on the way; behind a broken step nothing is known
pub record Walk : Type 0 where
  pub broken : List Broken
  pub failures : List Failure
  pub reached : Option Reached

abbrev pub stopped : List Broken → List Failure → Walk
stopped broken failures = record { broken = broken; failures = failures; reached = None }

abbrev pub goes_to : List Failure → Reached → Walk
goes_to failures reached = record { broken = []; failures = failures; reached = Some reached }

-- how many bytes lie before what a designator leads to
abbrev pub bytes_of_part : Option ObjectPart → Option ℕ
bytes_of_part None = None
bytes_of_part (Some part) = Some part.bytes

abbrev pub bytes_to : KnownAggregates → Designator (List ℕ) → TypeTree → ℕ → Option ℕ
bytes_to aggregates designator of bytes =
    bytes_of_part (designated aggregates.told (members_named aggregates.told aggregates.names) designator bytes of)

-- Members

abbrev pub to_member : KnownAggregates → (token : ℕ) → (name : List ℕ) → Reached → Selection → Walk
to_member aggregates token name reached NotAggregate = stopped (breaks_at NoAggregate token) []
to_member aggregates token name reached NotComplete = stopped (breaks_at IncompleteType token) []
to_member aggregates token name reached (Selected qualifiers flags None) = stopped (breaks_named NoSuchMember token name) []
to_member aggregates token name reached (Selected qualifiers flags (Some found)) =
    goes_to []
    (record {
      of = found.of;
      width = found.width;
      bytes = option_and_then (bytes_to aggregates (NamedMember name) reached.of) reached.bytes;
      is_known = reached.is_known;
    })

-- Elements

abbrev pub element_in : TypeTree → Option TypeTree
element_in (Typed (ArrayTree element length) _ _) = Some element
element_in (Typed base _ _) = None

abbrev pub at_element : Reached → (element : TypeTree) → (bytes : Option ℕ) → (is_known : Bool) → Reached
at_element reached element bytes is_known = record { of = element; width = None; bytes = bytes; is_known = reached.is_known && is_known }

-- a restricted index is told
abbrev pub restricted_index : (token : ℕ) → (index : TypeTree) → List Failure
restricted_index token index = if is_restricted index then fails_with B1 token 0 (Some index) None [] ∷ [] else []

-- an index leads so far, or further than an object has bytes
abbrev pub led_to : (token : ℕ) → List Failure → Reached → (element : TypeTree) → Option ℕ → Walk
led_to token failures reached element None = stopped (breaks_at BadDesignator token) failures
led_to token failures reached element (Some bytes) = goes_to failures (at_element reached element (Some bytes) true)

-- an index is a constant that isn't below 0
abbrev pub by_number : KnownAggregates → (token : ℕ) → List Failure → Reached → (element : TypeTree) → Option ℤ → Walk
by_number aggregates token failures reached element (Some (pos number)) =
    led_to token failures reached element (option_and_then (bytes_to aggregates (ElementAt (Some (pos number))) reached.of) reached.bytes)
by_number aggregates token failures reached element (Some (negsuc number)) = stopped (breaks_at BadDesignator token) failures
by_number aggregates token failures reached element None = stopped (breaks_at BadDesignator token) failures

-- and of an integer type
abbrev pub by_index : KnownAggregates → (token index : ℕ) → Reached → (element : TypeTree) → ExpressionFact → ValueSort → Walk
by_index aggregates token index reached element expression (IntegerSort kind) =
    by_number aggregates token (restricted_index token (type_of_value expression)) reached element expression.constant
by_index aggregates token index reached element expression of = stopped (breaks_at CannotDereference token ++ void_alone index of) []

-- where nothing is known of an index, it counts as 0
abbrev pub to_element : KnownAggregates → (token index : ℕ) → Reached → Option TypeTree → Fact → Walk
to_element aggregates token index reached None fact = stopped (breaks_at CannotDereference token) []
to_element aggregates token index reached (Some element) (Expression expression) =
    by_index aggregates token index reached element expression (value_sort expression)
to_element aggregates token index reached (Some element) fact = goes_to [] (at_element reached element reached.bytes false)

-- All steps

abbrev pub step_to : KnownAggregates → Reached → OffsetStep → Walk
step_to aggregates reached (ToMember token name) = to_member aggregates token name reached (selection_of aggregates name reached.of)
step_to aggregates reached (ToElement token index fact) = to_element aggregates token index reached (element_in reached.of) fact

abbrev pub and_behind : Walk → Walk → Walk
and_behind walk behind = record { broken = walk.broken ++ behind.broken; failures = walk.failures ++ behind.failures; reached = behind.reached }

abbrev pub walk_from : KnownAggregates → List OffsetStep → Option Reached → Walk
walk_from aggregates steps None = stopped [] []
walk_from aggregates [] (Some reached) = goes_to [] reached
walk_from aggregates (step ∷ steps) (Some reached) =
    and_behind (step_to aggregates reached step) (walk_from aggregates steps (step_to aggregates reached step).reached)

-- The row: a bit-field has no address of its own

abbrev pub field_broken : (token : ℕ) → Option Reached → List Broken
field_broken token None = []
field_broken token (Some reached) = if is_some reached.width then breaks_at CannotTakeAddress token else []

abbrev pub is_led : Option Reached → Bool
is_led None = false
is_led (Some reached) = reached.is_known

abbrev pub offset_by : (token : ℕ) → Walk → Row
offset_by token walk =
    record nothing {
      fact = unless_broken (walk.broken ++ field_broken token walk.reached) (if is_led walk.reached then Expression (value (integer integers.ULong)) else Unknown);
      broken = walk.broken ++ field_broken token walk.reached;
      failures = walk.failures;
    }

-- of the named type, the member with this name, and the designators behind it; the constant is that of the node
abbrev pub offset_row : KnownAggregates → (token : ℕ) → (name : List ℕ) → (type_name : Fact) → List OffsetStep → Row
offset_row aggregates token name (NamedType type_) steps =
    offset_by token
    (walk_from aggregates (ToMember token name ∷ steps) (Some (record { of = type_; width = None; bytes = Some 0; is_known = true })))
offset_row aggregates token name fact steps = nothing

-- Nodes

-- the step that a designator makes
abbrev pub step_of : UnitNodes → List Fact → (handle : ℕ) → NodeKind → OffsetStep
step_of nodes facts handle kinds.MemberDesignator = ToMember (node_at nodes handle).token (node_at nodes handle).name
step_of nodes facts handle kind =
    ToElement (node_at nodes handle).token (node_at nodes (child_at nodes handle 0)).token (fact_at facts (child_at nodes handle 0))

abbrev pub steps_of : UnitNodes → List Fact → (handles : List ℕ) → List OffsetStep
steps_of nodes facts handles = map (λ handle. step_of nodes facts handle (kind_at nodes handle)) handles
