-- Statements by what is known of their parts (C11 6.8): what they break, and which rules fail. They have no type themselves.
use Rattle.std.specs.Prelude.{ℕ, ℤ, nat_lt, Bool, false, ◌&&◌, is_some, List, [], ◌∷◌, ◌++◌, Option, Some, None, if◌then◌else◌}
use Rattle.vocabulary.specs.declared.error_kind.ErrorKind.{ErrorKind}
use Rattle.vocabulary.specs.declared.error_kind.ErrorKind.TheVariants.{CaseLabelIsNotConstant, CaseValueUsedTwice, JumpIntoStatementExpression, JumpOutsideLoop, LabelDefinedTwice, LabelOutsideSwitch, SwitchOnNoInteger, TwoDefaultLabels, VoidValueUsed}
use Rattle.vocabulary.specs.declared.int_kind.IntKind.{IntKind}
use Rattle.vocabulary.specs.declared.operator.Operator.TheVariants as operators
use Rattle.vocabulary.specs.declared.rule.RuleCode.{RuleCode}
use Rattle.vocabulary.specs.declared.rule.RuleCode.TheVariants.{B6, S4, S5}
use Rattle.meaning_types.specs.Types.{TypeTree}
use Rattle.meaning_types.specs.Spaces.{is_void}
use Rattle.meaning_typing.specs.Numbers.{label_number}
use Rattle.meaning_operands.specs.Failures.{Failure, Broken}
use Rattle.meaning_typing.specs.Facts.{Fact, Expression, ExpressionFact, type_of_value}
use Rattle.meaning_typing.specs.Rows.{Row, nothing, breaks_at, breaks_named, fails_with, void_used}
use Rattle.meaning_typing.specs.Operators.{ValueSort, VoidSort, IntegerSort, PointerSort, OtherSort, value_sort, answer_of, condition_broken, condition_failures}
use Rattle.meaning_typing.specs.Statements.{return_row}

abbrev pub says : List Broken → List Failure → Row
says broken failures = record nothing { broken = broken; failures = failures }

-- Conditions (6.8.4.1 p1, 6.8.5 p2): a scalar, which stands at its own token; a fouled one is tested at the keyword

abbrev pub condition_row : (token operand : ℕ) → (condition : Fact) → Row
condition_row token operand (Expression condition) =
    says (condition_broken operand (value_sort condition)) (condition_failures token condition)
condition_row token operand fact = nothing

-- the body of `do` has braces: our choice, as is where it is told
abbrev pub unbraced : (token : ℕ) → (braced : Bool) → List Failure
unbraced token braced = if braced then [] else fails_with S5 token 0 None None [] ∷ []

abbrev pub do_row : (token operand : ℕ) → (braced : Bool) → (condition : Fact) → Row
do_row token operand braced condition =
    says (condition_row token operand condition).broken ((condition_row token operand condition).failures ++ unbraced token braced)

-- `switch` (6.8.4.2 p1): an integer

abbrev pub switched_broken : (operand : ℕ) → ValueSort → List Broken
switched_broken operand VoidSort = breaks_at VoidValueUsed operand
switched_broken operand (IntegerSort kind) = []
switched_broken operand PointerSort = breaks_at SwitchOnNoInteger operand
switched_broken operand OtherSort = breaks_at SwitchOnNoInteger operand

abbrev pub switch_row : (token operand : ℕ) → (switched : Fact) → Row
switch_row token operand (Expression switched) = says (switched_broken operand (value_sort switched)) (condition_failures token switched)
switch_row token operand fact = nothing

-- Numbers of labels (6.8.4.2 p5)

abbrev pub kind_of_sort : ValueSort → Option IntKind
kind_of_sort (IntegerSort kind) = Some kind
kind_of_sort of = None

-- the kind of an integer's base
abbrev pub integer_kind : Fact → Option IntKind
integer_kind (Expression expression) = kind_of_sort (value_sort expression)
integer_kind fact = None

abbrev pub constant_if : Option IntKind → Option ℤ → Option ℤ
constant_if (Some kind) number = number
constant_if None number = None

-- an integer constant
abbrev pub label_constant : Fact → Option ℤ
label_constant (Expression expression) = constant_if (integer_kind (Expression expression)) expression.constant
label_constant fact = None

abbrev pub number_under : Option IntKind → Option ℤ → Option ℤ
number_under (Some kind) (Some number) = Some (label_number kind number)
number_under kind number = None

-- of a label under a switch value, where both are known
abbrev pub number_of_label : (switched label : Fact) → Option ℤ
number_of_label switched label = number_under (integer_kind switched) (label_constant label)

-- Labels of a switch

-- two that are alike, of which the one at the later token is told
abbrev pub later : (token other : ℕ) → ℕ
later token other = if nat_lt token other then other else token

abbrev pub again_at : ErrorKind → (token : ℕ) → (earliest : Option ℕ) → List Broken
again_at constraint token None = []
again_at constraint token (Some other) = breaks_at constraint (later token other)

-- a `case` or `default` outside a switch, or in a statement expression that isn't around its switch
abbrev pub label_placed : (token : ℕ) → (switch : Option ℕ) → (enters : Bool) → List Broken
label_placed token None enters = breaks_at LabelOutsideSwitch token
label_placed token (Some switch) enters = if enters then breaks_at JumpIntoStatementExpression token else []

abbrev pub constant_broken : (value : ℕ) → (label : Fact) → List Broken
constant_broken value (Expression label) =
    void_used value label ++ (if is_some (label_constant (Expression label)) then [] else breaks_at CaseLabelIsNotConstant value)
constant_broken value fact = []

-- it meets the switch value as an operand of `==` does
abbrev pub met_by : (token : ℕ) → (label switched : ExpressionFact) → Option RuleCode → List Failure
met_by token label switched None = []
met_by token label switched (Some rule) = fails_with B6 token 0 (Some (type_of_value label)) (Some (type_of_value switched)) [] ∷ []

abbrev pub label_failures : (token : ℕ) → (label switched : Fact) → List Failure
label_failures token (Expression label) (Expression switched) =
    condition_failures token label ++ met_by token label switched (answer_of operators.Equal label switched).rule
label_failures token (Expression label) switched = condition_failures token label
label_failures token label switched = []

-- `case` at a token, whose label stands at its own, by what is known of the label and of the switch value, and by the token of the
-- earliest label with the same number that was read before it in its switch
abbrev pub case_row : (token value : ℕ) → (switch : Option ℕ) → (enters : Bool) → (label switched : Fact) → (earliest : Option ℕ) → Row
case_row token value switch enters label switched earliest =
    says (label_placed token switch enters ++ constant_broken value label ++ again_at CaseValueUsedTwice value earliest)
    (label_failures token label switched)

-- `default` (p3: one in a switch)
abbrev pub default_row : (token : ℕ) → (switch : Option ℕ) → (enters : Bool) → (earliest : Option ℕ) → Row
default_row token switch enters earliest = says (label_placed token switch enters ++ again_at TwoDefaultLabels token earliest) []

-- Jumps (6.8.6)

-- `break` and `continue`, by what they leave or go on with
abbrev pub jump_row : (token : ℕ) → (target : Option ℕ) → Row
jump_row token None = says (breaks_at JumpOutsideLoop token) []
jump_row token (Some target) = nothing

-- a label, by the token of the earliest one of its name that was read before it in its function (6.8.1 p3)
abbrev pub label_row : (token : ℕ) → (name : List ℕ) → (earliest : Option ℕ) → Row
label_row token name None = nothing
label_row token name (Some other) = says (breaks_named LabelDefinedTwice (later token other) name) []

-- `return` (6.8.6.4): a void function that hands a void value on is told besides (our choice)

abbrev pub hands_void_on : (value : Option Fact) → (result : Option TypeTree) → Bool
hands_void_on (Some (Expression value)) (Some result) = is_void result && is_void (type_of_value value)
hands_void_on value result = false

abbrev pub void_returned : (token : ℕ) → Bool → List Failure
void_returned token hands_on = if hands_on then fails_with S4 token 0 None None [] ∷ [] else []

abbrev pub whole_return_row : (token value : ℕ) → Option Fact → (result : Option TypeTree) → Row
whole_return_row token value fact result =
    record (return_row token value fact result) { failures = (return_row token value fact result).failures ++ void_returned token (hands_void_on fact result) }
