-- What an initializer comes to: leaves, each an expression for a part of the object, and what is refused (C11 6.7.9).
use Rattle.std.specs.Prelude.{ℕ, suc, ◌+◌, max, nat_lt, Bool, true, false, ◌&&◌, ◌||◌, not, List, [], ◌∷◌, ◌++◌, map, Option, Some, None, if◌then◌else◌}
use Rattle.vocabulary.specs.declared.error_kind.ErrorKind.{ErrorKind}
use Rattle.vocabulary.specs.declared.error_kind.ErrorKind.TheVariants.{ExtraInitializer, InitializerIsNotConstant, BadDesignator}
use Rattle.meaning_types.specs.Types.{TypeTree, Typed, ArrayTree}
use Rattle.meaning_operands.specs.Failures.{Broken}
use Rattle.meaning_typing.specs.Facts.{Fact, Expression}
use Rattle.meaning_typing.specs.Rows.{Converted, converted, not_converted}
use Rattle.meaning_typing.specs.Conditionals.{is_constant}
use Rattle.meaning_initializers.specs.Items.{Given, Designator, Initializer, Value, Items, handle_of, token_of, NoItems, Item}
use Rattle.meaning_initializers.specs.Parts.{is_string_for}

-- an expression that initializes a part of the object
pub record Leaf : Type 0 where
  -- the numbers that lead to the part: of elements and of members, those without a name counted
  pub path : List ℕ
  pub type_ : TypeTree
  -- the handle of its node
  pub expression : ℕ
  -- a designator stands before it, or before braces that it begins
  pub is_moved : Bool

-- the constraint that is broken, the token at which that stands, and the node
pub record Refusal : Type 0 where
  pub constraint : ErrorKind
  pub token : ℕ
  pub handle : ℕ

pub record Plan : Type 0 where
  -- in the order in which they are written
  pub leaves : List Leaf
  pub refusals : List Refusal
  -- how many elements it gives an array that has no length (p22)
  pub length : ℕ

abbrev pub no_plan : Plan
no_plan = record { leaves = []; refusals = []; length = 0 }

-- a plan, and what comes behind it
abbrev pub followed : Plan → Plan → Plan
followed plan behind =
    record { leaves = plan.leaves ++ behind.leaves; refusals = plan.refusals ++ behind.refusals; length = max plan.length behind.length }

abbrev pub refused : List Refusal → Plan → Plan
refused refusals behind = record behind { refusals = refusals ++ behind.refusals }

-- Refusals

-- an initializer has no place (p2)
abbrev pub extra : Initializer → List Refusal
extra initializer = record { constraint = ExtraInitializer; token = token_of initializer; handle = handle_of initializer } ∷ []

abbrev pub extra_items : Items → List Refusal
extra_items NoItems = []
extra_items (Item designators is_moved initializer items) = extra initializer ++ extra_items items

-- a designator names no part of the object before it (p6, p7)
abbrev pub no_part : Designator → List Refusal
no_part designator = record { constraint = BadDesignator; token = designator.token; handle = designator.handle } ∷ []

abbrev pub refusals_of : (handle : ℕ) → List Broken → List Refusal
refusals_of handle broken = map (λ entry. record { constraint = entry.constraint; token = entry.token; handle = handle }) broken

-- Leaves

-- the part of failures at an initializer
abbrev pub initializer_part : ℕ
initializer_part = 256

-- a value becomes one of the part's type (p11, p13)
abbrev pub conversion_by : TypeTree → (token : ℕ) → Fact → Converted
conversion_by type_ token (Expression expression) = converted token initializer_part token expression type_
conversion_by type_ token fact = not_converted

-- a static object begins with constants (p4); of what isn't known it isn't asked
abbrev pub is_constant_leaf : Fact → Bool
is_constant_leaf (Expression expression) = is_constant expression
is_constant_leaf fact = true

abbrev pub not_constant : (is_static : Bool) → Given → List Refusal
not_constant is_static given =
    if is_static && not (is_constant_leaf given.fact)
    then record { constraint = InitializerIsNotConstant; token = given.token; handle = given.handle } ∷ []
    else []

abbrev pub leaf_of : TypeTree → List ℕ → (is_moved : Bool) → Given → Leaf
leaf_of type_ path is_moved given = record { path = path; type_ = type_; expression = given.handle; is_moved = is_moved }

abbrev pub converted_plan : (is_static : Bool) → TypeTree → List ℕ → (is_moved : Bool) → Given → Plan
converted_plan is_static type_ path is_moved given =
    record {
      leaves = leaf_of type_ path is_moved given ∷ [];
      refusals = refusals_of given.handle (conversion_by type_ given.token given.fact).broken ++ not_constant is_static given;
      length = 0;
    }

-- Strings: one that is longer than its array has no place, but its last zero may be missing (p14)

abbrev pub is_longer : (elements : ℕ) → TypeTree → Bool
is_longer elements (Typed (ArrayTree element (Some length)) _ _) = nat_lt (length + 1) elements
is_longer elements type_ = false

abbrev pub string_plan : (elements : ℕ) → TypeTree → List ℕ → (is_moved : Bool) → Given → Plan
string_plan elements type_ path is_moved given =
    if is_longer elements type_ then refused (extra (Value given)) no_plan
    else record { leaves = leaf_of type_ path is_moved given ∷ []; refusals = []; length = elements }

abbrev pub plan_of_elements : (is_static : Bool) → Option ℕ → TypeTree → List ℕ → (is_moved : Bool) → Given → Plan
plan_of_elements is_static None type_ path is_moved given = converted_plan is_static type_ path is_moved given
plan_of_elements is_static (Some elements) type_ path is_moved given = string_plan elements type_ path is_moved given

-- an object or a part takes an expression
abbrev pub value_plan : (is_static : Bool) → TypeTree → List ℕ → (is_moved : Bool) → Given → Plan
value_plan is_static type_ path is_moved given =
    plan_of_elements is_static (if is_string_for type_ given then given.elements else None) type_ path is_moved given

-- in braces, with nothing behind it
abbrev pub string_alone : (is_static : Bool) → TypeTree → List ℕ → (is_moved : Bool) → Given → (behind : Items) → Plan
string_alone is_static type_ path is_moved string behind =
    followed (value_plan is_static type_ path is_moved string) (refused (extra_items behind) no_plan)

-- Parts

-- what a part takes of the items, and the items that it leaves
pub record Filled : Type 0 where
  pub plan : Plan
  pub left : Items
  -- it takes one at least
  pub is_filled : Bool

abbrev pub takes : Plan → Items → Filled
takes plan left = record { plan = plan; left = left; is_filled = true }

abbrev pub takes_none : Items → Filled
takes_none items = record { plan = no_plan; left = items; is_filled = false }

-- up to the part with this number, if it takes an item
abbrev pub length_with : (number : ℕ) → (is_filled : Bool) → ℕ
length_with number is_filled = if is_filled then suc number else 0

-- the part with this number, and those behind it
abbrev pub with_parts_behind : (number : ℕ) → Filled → Filled → Filled
with_parts_behind number part behind =
    record {
      plan = record (followed part.plan behind.plan) { length = max (length_with number part.is_filled) behind.plan.length };
      left = behind.left;
      is_filled = part.is_filled || behind.is_filled;
    }
