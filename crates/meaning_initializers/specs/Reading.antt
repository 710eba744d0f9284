-- The initializers of a unit: from its nodes and what is known of them.
use Rattle.std.specs.Prelude.{ℕ, zero, suc, ◌-◌, nat_lt, nat_eq, Bool, true, false, ◌||◌, ◌&&◌, List, [], ◌∷◌, map, take, length, Option, Some, None, if◌then◌else◌}
use Rattle.std.specs.List.{flat_map}
use Rattle.vocabulary.specs.Errors.{error_number}
use Rattle.vocabulary.specs.declared.node_kind.NodeKind.{NodeKind}
use Rattle.vocabulary.specs.declared.node_kind.NodeKind.TheVariants as kinds
use Rattle.meaning_types.specs.Types.{TypeTree}
use Rattle.meaning_operands.specs.Failures.{Failure}
use Rattle.meaning_typing.specs.Units.{UnitNodes, node_at, kind_at, children_at, child_at}
use Rattle.meaning_typing.specs.Surroundings.{Surrounding, surrounding_at}
use Rattle.meaning_typing.specs.Facts.{Fact, fact_at}
use Rattle.meaning_typing.specs.MemberDeclarations.{bodies_before}
use Rattle.meaning_initializers.specs.Items.{Given, Target, MemberNamed, ElementAt, Designator, Initializer, Value, Braces, Items, NoItems, Item}
use Rattle.meaning_initializers.specs.Parts.{Aggregates, aggregates_told}
use Rattle.meaning_initializers.specs.Plans.{Leaf, Refusal, conversion_by}
use Rattle.meaning_initializers.specs.Filling.{Outcome, Initializes}

-- Expressions

-- a string literal holds how many elements it has
abbrev pub elements_of : UnitNodes → (handle : ℕ) → NodeKind → Option ℕ
elements_of nodes handle kinds.StringLiteral = Some (node_at nodes handle).number
elements_of nodes handle kind = None

abbrev pub given_at : UnitNodes → List Fact → (handle : ℕ) → Given
given_at nodes facts handle =
    record {
      handle = handle;
      token = (node_at nodes handle).token;
      elements = elements_of nodes handle (kind_at nodes handle);
      fact = fact_at facts handle;
    }

-- Designators

abbrev pub target_of : UnitNodes → List Fact → (handle : ℕ) → NodeKind → Target
target_of nodes facts handle kinds.MemberDesignator = MemberNamed (node_at nodes handle).name
target_of nodes facts handle kind = ElementAt (fact_at facts (child_at nodes handle 0))

abbrev pub designator_at : UnitNodes → List Fact → (handle : ℕ) → Designator
designator_at nodes facts handle =
    record { handle = handle; token = (node_at nodes handle).token; target = target_of nodes facts handle (kind_at nodes handle) }

-- Items: the last part of one is its initializer, and those before are its designators

abbrev pub parts_before_last : UnitNodes → (handle : ℕ) → ℕ
parts_before_last nodes handle = length (node_at nodes handle).children - 1

abbrev pub designators_of : UnitNodes → List Fact → (item : ℕ) → List Designator
designators_of nodes facts item = map (λ handle. designator_at nodes facts handle) (take (parts_before_last nodes item) (children_at nodes item))

abbrev pub items_of : UnitNodes → List Fact → (initializer : ℕ → Initializer) → (items : List ℕ) → Items
items_of nodes facts initializer [] = NoItems
items_of nodes facts initializer (item ∷ items) =
    Item (designators_of nodes facts item) false (initializer (child_at nodes item (parts_before_last nodes item))) (items_of nodes facts initializer items)

-- Initializers

abbrev pub initializer_by : UnitNodes → List Fact → (part : ℕ → Initializer) → (handle : ℕ) → NodeKind → Initializer
initializer_by nodes facts part handle kinds.BracedInitializer =
    Braces handle (node_at nodes handle).token (items_of nodes facts part (children_at nodes handle))
initializer_by nodes facts part handle kind = Value (given_at nodes facts handle)

-- with braces that are so deep at most
abbrev pub initializer_within : UnitNodes → List Fact → (depth : ℕ) → (handle : ℕ) → Initializer
initializer_within nodes facts zero handle = Value (given_at nodes facts handle)
initializer_within nodes facts (suc depth) handle =
    initializer_by nodes facts (λ part. initializer_within nodes facts depth part) handle (kind_at nodes handle)

-- parts stand before the whole, so none is deeper than its handle says
abbrev pub initializer_at : UnitNodes → List Fact → (handle : ℕ) → Initializer
initializer_at nodes facts handle = initializer_within nodes facts (suc handle) handle

-- Objects: what the initializer with this handle, an expression or braces, makes of one

-- the structures and unions that are told behind these facts
abbrev pub aggregates_behind : UnitNodes → List Surrounding → List Fact → Aggregates
aggregates_behind nodes surroundings facts = aggregates_told (bodies_before nodes surroundings facts (length facts))

abbrev pub InitializesAt : UnitNodes → List Surrounding → List Fact → (object : TypeTree) → (is_static : Bool) → (handle : ℕ) → Outcome → Type 0
InitializesAt nodes surroundings facts object is_static handle outcome =
    Initializes (aggregates_behind nodes surroundings facts) is_static object (initializer_at nodes facts handle) outcome

-- the object of a compound literal is static where no scope but the file's is around it (6.5.2.5 p5)
abbrev pub is_unit : NodeKind → Bool
is_unit kinds.TranslationUnit = true
is_unit kind = false

abbrev pub is_static_literal : UnitNodes → List Surrounding → (handle : ℕ) → Bool
is_static_literal nodes surroundings handle = is_unit (kind_at nodes (surrounding_at surroundings handle).around.scope)

-- What fails at leaves: each becomes a value of its part's type, at its own token (p11)

abbrev pub leaf_failures : UnitNodes → List Fact → Leaf → List Failure
leaf_failures nodes facts leaf = (conversion_by leaf.type_ (node_at nodes leaf.expression).token (fact_at facts leaf.expression)).failures

abbrev pub initializer_failures : UnitNodes → List Fact → List Leaf → List Failure
initializer_failures nodes facts leaves = flat_map (λ leaf. leaf_failures nodes facts leaf) leaves

-- Of several refusals one is told: that at the least token, and there the one with the least number

abbrev pub is_told_before : Refusal → Refusal → Bool
is_told_before refusal other =
    nat_lt refusal.token other.token
    || (nat_eq refusal.token other.token && nat_lt (error_number refusal.constraint) (error_number other.constraint))

abbrev pub lesser_refusal : Refusal → Option Refusal → Refusal
lesser_refusal refusal None = refusal
lesser_refusal refusal (Some other) = if is_told_before other refusal then other else refusal

abbrev pub refusal_told : List Refusal → Option Refusal
refusal_told [] = None
refusal_told (refusal ∷ refusals) = Some (lesser_refusal refusal (refusal_told refusals))
