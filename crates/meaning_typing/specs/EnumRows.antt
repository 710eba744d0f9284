-- Enumerators and enumerations (C11 6.7.2.2): their constants, their types, and what is broken.
use Rattle.std.specs.Prelude.{ℕ, ℤ, zero, suc, nat_lt, Bool, true, false, ◌&&◌, ◌||◌, not, is_none, List, [], ◌∷◌, map, length, Option, Some, None, if◌then◌else◌}
use Rattle.vocabulary.specs.declared.error_kind.ErrorKind.TheVariants.{EnumeratorIsNotConstant, EnumeratorOutOfRange}
use Rattle.vocabulary.specs.declared.int_kind.IntKind.{IntKind}
use Rattle.vocabulary.specs.declared.node_kind.NodeKind.{NodeKind}
use Rattle.vocabulary.specs.declared.node_kind.NodeKind.TheVariants as kinds
use Rattle.vocabulary.specs.declared.rule.RuleCode.TheVariants.{B2}
use Rattle.meaning_types.specs.Types.{TypeTree, Typed, IntegerTree, RestrictedTree}
use Rattle.meaning_operands.specs.Failures.{Failure}
use Rattle.meaning_constants.specs.Constants.{Constant}
use Rattle.meaning_constants.specs.Enumerators.{enumeration_kind, enumerator_of, first_enumerator, next_enumerator, restricted_enumerator_of}
use Rattle.meaning_typing.specs.Units.{UnitNodes, node_at, kind_at, children_at, child_at}
use Rattle.meaning_typing.specs.Surroundings.{Surrounding, surrounding_at}
use Rattle.meaning_typing.specs.Facts.{Fact, Unknown, Expression, NamedType, fact_at, type_of_value, value}
use Rattle.meaning_typing.specs.Specifiers.{plain_type}
use Rattle.meaning_typing.specs.Rows.{Row, nothing, known, breaks, breaks_at, fails_with}
use Rattle.meaning_typing.specs.Enumerations.{EnumeratorValue, first_restricted, has_identity, integer_base, is_plain_zero, shared_identity, typed_enumerator}

-- Enumerators

-- a value with this type and this number
abbrev pub constant_value : TypeTree → ℤ → Fact
constant_value type_ number = Expression (record (value type_) { constant = Some number })

abbrev pub enumerator_fact : (identity : Option ℕ) → Constant → Fact
enumerator_fact identity constant = constant_value (plain_type (integer_base constant.kind identity)) constant.number

-- with an expression, which is an integer constant (p2)
abbrev pub valued_by : (token : ℕ) → TypeTree → Option ℤ → Row
valued_by token (Typed (IntegerTree kind) _ _) (Some number) = known (enumerator_fact None (enumerator_of (record { kind = kind; number = number })))
valued_by token (Typed (RestrictedTree kind identity) _ _) (Some number) =
    known (enumerator_fact (Some identity) (restricted_enumerator_of (record { kind = kind; number = number })))
valued_by token type_ constant = breaks (breaks_at EnumeratorIsNotConstant token)

abbrev pub valued_enumerator_row : (token : ℕ) → (expression : Fact) → Row
valued_enumerator_row token (Expression expression) = valued_by token (type_of_value expression) expression.constant
valued_enumerator_row token fact = nothing

-- without one: 0, or 1 more than the one before it (p3); where no type has the number, its enumeration says so
abbrev pub counted_row : Option Constant → Row
counted_row None = nothing
counted_row (Some constant) = known (enumerator_fact None constant)

-- an enumerator by itself
abbrev pub value_of_type : TypeTree → Option ℤ → Option EnumeratorValue
value_of_type (Typed (IntegerTree kind) _ _) (Some number) = Some (record { constant = record { kind = kind; number = number }; identity = None })
value_of_type (Typed (RestrictedTree kind identity) _ _) (Some number) =
    Some (record { constant = record { kind = kind; number = number }; identity = Some identity })
value_of_type type_ constant = None

abbrev pub value_in : Fact → Option EnumeratorValue
value_in (Expression expression) = value_of_type expression.type_ expression.constant
value_in fact = None

abbrev pub next_row : Option EnumeratorValue → Row
next_row None = nothing
next_row (Some before) = counted_row (next_enumerator before.constant)

-- by what is known of the one before it, if there is one
abbrev pub counted_enumerator_row : (before : Option Fact) → Row
counted_enumerator_row None = counted_row first_enumerator
counted_enumerator_row (Some fact) = next_row (value_in fact)

-- Enumerations

-- an enumerator as its enumeration sees it
pub record SeenEnumerator : Type 0 where
  pub has_expression : Bool
  pub fact : Fact

abbrev pub with_value : Option EnumeratorValue → Option (List EnumeratorValue) → Option (List EnumeratorValue)
with_value (Some enumerator) (Some others) = Some (enumerator ∷ others)
with_value enumerator others = None

-- all of them, if each is known
abbrev pub values_of : List SeenEnumerator → Option (List EnumeratorValue)
values_of [] = Some []
values_of (enumerator ∷ others) = with_value (value_in enumerator.fact) (values_of others)

-- no type has the number that comes behind this one
abbrev pub has_no_next : Option EnumeratorValue → Bool
has_no_next None = false
has_no_next (Some before) = is_none (next_enumerator before.constant)

abbrev pub counts_too_far : (before : Option EnumeratorValue) → List SeenEnumerator → Bool
counts_too_far before [] = false
counts_too_far before (enumerator ∷ others) =
    (not enumerator.has_expression && has_no_next before) || counts_too_far (value_in enumerator.fact) others

-- the type of an enumerator by itself
abbrev pub own_type : EnumeratorValue → TypeTree
own_type enumerator = plain_type (integer_base enumerator.constant.kind enumerator.identity)

-- the type of the first that neither has this identity nor is the plain constant 0
abbrev pub first_apart : (identity : ℕ) → List EnumeratorValue → Option TypeTree
first_apart identity [] = None
first_apart identity (enumerator ∷ others) =
    if has_identity identity enumerator.identity || is_plain_zero enumerator then first_apart identity others else Some (own_type enumerator)

abbrev pub apart_failures : (token : ℕ) → (restricted : TypeTree) → Option TypeTree → List Failure
apart_failures token restricted None = []
apart_failures token restricted (Some apart) = fails_with B2 token 0 (Some restricted) (Some apart) [] ∷ []

abbrev pub mixed_by : (token : ℕ) → List EnumeratorValue → Option (IntKind × ℕ) → List Failure
mixed_by token enumerators None = []
mixed_by token enumerators (Some (kind, identity)) =
    apart_failures token (plain_type (RestrictedTree kind identity)) (first_apart identity enumerators)

-- restricted and other enumerators stand side by side
abbrev pub mixed_failures : (token : ℕ) → List EnumeratorValue → List Failure
mixed_failures token enumerators = mixed_by token enumerators (first_restricted enumerators)

-- the first of int, unsigned int, long and unsigned long that has all the numbers (p4: our choice)
abbrev pub plain_enumeration : (token : ℕ) → List Failure → Option IntKind → Row
plain_enumeration token failures None = breaks (breaks_at EnumeratorOutOfRange token)
plain_enumeration token failures (Some kind) = record (known (NamedType (plain_type (IntegerTree kind)))) { failures = failures }

-- or the restricted type that all share
abbrev pub enumeration_by : (token : ℕ) → List EnumeratorValue → Option (IntKind × ℕ) → Row
enumeration_by token enumerators (Some (kind, identity)) = known (NamedType (plain_type (RestrictedTree kind identity)))
enumeration_by token enumerators None =
    plain_enumeration token (mixed_failures token enumerators) (enumeration_kind (map (λ enumerator. enumerator.constant.number) enumerators))

abbrev pub enumeration_of : (token : ℕ) → Option (List EnumeratorValue) → Row
enumeration_of token None = nothing
enumeration_of token (Some enumerators) = enumeration_by token enumerators (shared_identity enumerators)

-- the specifier with its body, at `enum`
abbrev pub enumeration_row : (token : ℕ) → List SeenEnumerator → Row
enumeration_row token enumerators =
    if counts_too_far None enumerators then breaks (breaks_at EnumeratorOutOfRange token) else enumeration_of token (values_of enumerators)

-- Names

-- an enumerator that is named behind its enumeration has the type that all share
abbrev pub named_value : Option (List EnumeratorValue) → Option EnumeratorValue → Fact
named_value (Some enumerators) (Some enumerator) =
    constant_value (typed_enumerator (shared_identity enumerators) enumerator).0 (typed_enumerator (shared_identity enumerators) enumerator).1
named_value enumerators enumerator = Unknown

-- and before its end its own one
abbrev pub enumerator_named : (is_behind : Bool) → List SeenEnumerator → Fact → Fact
enumerator_named is_behind enumerators fact = if is_behind then named_value (values_of enumerators) (value_in fact) else fact

-- Nodes

abbrev pub is_enumerator : NodeKind → Bool
is_enumerator kinds.Enumerator = true
is_enumerator kind = false

abbrev pub is_expression_part : NodeKind → Bool
is_expression_part kinds.AttributeList = false
is_expression_part kind = true

-- the expression of an enumerator, if it has one: it is the part behind its attributes
abbrev pub expression_among : UnitNodes → List Fact → List ℕ → Option Fact
expression_among nodes facts [] = None
expression_among nodes facts (handle ∷ handles) =
    if is_expression_part (kind_at nodes handle) then Some (fact_at facts handle) else expression_among nodes facts handles

abbrev pub expression_of : UnitNodes → List Fact → (enumerator : ℕ) → Option Fact
expression_of nodes facts enumerator = expression_among nodes facts (children_at nodes enumerator)

abbrev pub enumerator_by : (token : ℕ) → (expression before : Option Fact) → Row
enumerator_by token None before = counted_enumerator_row before
enumerator_by token (Some fact) before = valued_enumerator_row token fact

-- at this place of its enumeration, whose part in front of it is an enumerator or a list of attributes
abbrev pub enumerator_before : UnitNodes → List Fact → (parent place : ℕ) → Option Fact
enumerator_before nodes facts parent zero = None
enumerator_before nodes facts parent (suc place) =
    if is_enumerator (kind_at nodes (child_at nodes parent place)) then Some (fact_at facts (child_at nodes parent place)) else None

abbrev pub enumerator_row : UnitNodes → List Fact → (handle : ℕ) → Surrounding → Row
enumerator_row nodes facts handle surrounding =
    enumerator_by (node_at nodes handle).token (expression_of nodes facts handle) (enumerator_before nodes facts surrounding.parent surrounding.place)

abbrev pub seen_before : UnitNodes → List Fact → (enumerator : ℕ) → List SeenEnumerator → List SeenEnumerator
seen_before nodes facts enumerator others =
    record { has_expression = not (is_none (expression_of nodes facts enumerator)); fact = fact_at facts enumerator } ∷ others

abbrev pub enumerators_among : UnitNodes → List Fact → List ℕ → List SeenEnumerator
enumerators_among nodes facts [] = []
enumerators_among nodes facts (handle ∷ handles) =
    if is_enumerator (kind_at nodes handle) then seen_before nodes facts handle (enumerators_among nodes facts handles)
    else enumerators_among nodes facts handles

abbrev pub enumerators_of : UnitNodes → List Fact → (enumeration : ℕ) → List SeenEnumerator
enumerators_of nodes facts enumeration = enumerators_among nodes facts (children_at nodes enumeration)

-- what a name that is bound to an enumerator stands for
abbrev pub enumerator_name_fact : UnitNodes → List Surrounding → List Fact → (enumerator : ℕ) → Fact
enumerator_name_fact nodes surroundings facts enumerator =
    enumerator_named (nat_lt (surrounding_at surroundings enumerator).parent (length facts))
    (enumerators_of nodes facts (surrounding_at surroundings enumerator).parent) (fact_at facts enumerator)
