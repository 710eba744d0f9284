-- The rows of statements over the nodes of a unit. A jump to a label is decided at what the label belongs to, since only there all
-- labels are known; it stands at its `goto`.
use Rattle.std.specs.Prelude.{ℕ, ℤ, zero, suc, nat_lt, nat_eq, Bool, true, false, ◌&&◌, List, [], ◌∷◌, ◌++◌, Option, Some, None, option_map, if◌then◌else◌}
use Rattle.std.specs.Ordering.{int_eq}
use Rattle.vocabulary.specs.declared.error_kind.ErrorKind.TheVariants.{JumpIntoStatementExpression, LabelIsNotDefined}
use Rattle.vocabulary.specs.declared.node_kind.NodeKind.{NodeKind}
use Rattle.vocabulary.specs.declared.node_kind.NodeKind.TheVariants as kinds
use Rattle.meaning_operands.specs.Failures.{Broken}
use Rattle.meaning_typing.specs.Units.{UnitNodes, node_at, kind_at, children_at, child_at}
use Rattle.meaning_typing.specs.Surroundings.{Surrounding}
use Rattle.meaning_typing.specs.Facts.{Fact, Unknown}
use Rattle.meaning_typing.specs.Rows.{Row, nothing, breaks, breaks_at, breaks_named}
use Rattle.meaning_typing.specs.Statements.{result_around}
use Rattle.meaning_typing.specs.Typing.{first_fact, part_fact, part_token, token_at}
use Rattle.meaning_statements.specs.Above.{enters_expression, leads_into}
use Rattle.meaning_statements.specs.Jumps.{SeenGoto, SeenLabel, first_named, function_left, gotos_before, label_in, labels_before, loop_continued, owner_of, statement_left, switch_of}
use Rattle.meaning_statements.specs.Statements.{case_row, condition_row, default_row, do_row, jump_row, label_row, number_of_label, switch_row, whole_return_row}

-- Labels of switches

-- one that was read: its switch, its number or that it is `default`, and where it stands
pub record SwitchLabel : Type 0 where
  pub switch : ℕ
  pub number : Option ℤ
  pub token : ℕ

abbrev pub are_one_number : Option ℤ → Option ℤ → Bool
are_one_number None None = true
are_one_number (Some number) (Some other) = int_eq number other
are_one_number number other = false

abbrev pub is_alike : (switch : ℕ) → (number : Option ℤ) → SwitchLabel → Bool
is_alike switch number label = nat_eq label.switch switch && are_one_number label.number number

abbrev pub lower_token : ℕ → Option ℕ → ℕ
lower_token token None = token
lower_token token (Some other) = if nat_lt other token then other else token

-- the earliest token of those that are alike
abbrev pub earliest_alike : (switch : ℕ) → (number : Option ℤ) → List SwitchLabel → Option ℕ
earliest_alike switch number [] = None
earliest_alike switch number (label ∷ labels) =
    if is_alike switch number label then Some (lower_token label.token (earliest_alike switch number labels)) else earliest_alike switch number labels

-- what is known of the value of a switch, which stands before its body
abbrev pub switched_fact : UnitNodes → List Fact → (switch : Option ℕ) → Fact
switched_fact nodes facts None = Unknown
switched_fact nodes facts (Some switch) = part_fact nodes facts switch 0

-- the number of a `case`
abbrev pub number_at : UnitNodes → List Surrounding → List Fact → (handle : ℕ) → Option ℤ
number_at nodes surroundings facts handle =
    number_of_label (switched_fact nodes facts (switch_of nodes surroundings handle)) (part_fact nodes facts handle 0)

abbrev pub numbered_label : (switch : ℕ) → (token : ℕ) → Option ℤ → List SwitchLabel
numbered_label switch token None = []
numbered_label switch token (Some number) = record { switch = switch; number = Some number; token = token } ∷ []

abbrev pub switch_labels_if : UnitNodes → List Surrounding → List Fact → (handle : ℕ) → NodeKind → (switch : Option ℕ) → List SwitchLabel
switch_labels_if nodes surroundings facts handle kinds.CaseStatement (Some switch) =
    numbered_label switch (part_token nodes handle 0) (number_at nodes surroundings facts handle)
switch_labels_if nodes surroundings facts handle kinds.DefaultStatement (Some switch) =
    record { switch = switch; number = None; token = token_at nodes handle } ∷ []
switch_labels_if nodes surroundings facts handle kind switch = []

-- those among the first so many nodes, the last one first
abbrev pub switch_labels_before : UnitNodes → List Surrounding → List Fact → (count : ℕ) → List SwitchLabel
switch_labels_before nodes surroundings facts zero = []
switch_labels_before nodes surroundings facts (suc count) =
    switch_labels_if nodes surroundings facts count (kind_at nodes count) (switch_of nodes surroundings count)
    ++ switch_labels_before nodes surroundings facts count

abbrev pub earliest_in : (switch : Option ℕ) → (number : Option ℤ) → List SwitchLabel → Option ℕ
earliest_in None number labels = None
earliest_in (Some switch) number labels = earliest_alike switch number labels

-- a `case` without a number is like none
abbrev pub earliest_case : (switch : Option ℕ) → (number : Option ℤ) → List SwitchLabel → Option ℕ
earliest_case switch None labels = None
earliest_case switch (Some number) labels = earliest_in switch (Some number) labels

abbrev pub enters_label : UnitNodes → List Surrounding → (switch : Option ℕ) → (label : ℕ) → Bool
enters_label nodes surroundings None label = false
enters_label nodes surroundings (Some switch) label = enters_expression nodes surroundings switch label

abbrev pub case_at : UnitNodes → List Surrounding → List Fact → (handle : ℕ) → (switch : Option ℕ) → Row
case_at nodes surroundings facts handle switch =
    case_row (token_at nodes handle) (part_token nodes handle 0) switch (enters_label nodes surroundings switch handle)
    (part_fact nodes facts handle 0) (switched_fact nodes facts switch)
    (earliest_case switch (number_at nodes surroundings facts handle) (switch_labels_before nodes surroundings facts handle))

abbrev pub default_at : UnitNodes → List Surrounding → List Fact → (handle : ℕ) → (switch : Option ℕ) → Row
default_at nodes surroundings facts handle switch =
    default_row (token_at nodes handle) switch (enters_label nodes surroundings switch handle)
    (earliest_in switch None (switch_labels_before nodes surroundings facts handle))

-- Labels and `goto`

abbrev pub label_at : UnitNodes → List Surrounding → (handle : ℕ) → Row
label_at nodes surroundings handle =
    label_row (token_at nodes handle) (node_at nodes handle).name
    (option_map (λ label. label.token)
    (label_in (labels_before nodes surroundings handle) (owner_of nodes surroundings handle) (node_at nodes handle).name))

-- a `goto`, by whether the label to which it leads stands in a statement expression that isn't around it, if there is a label
abbrev pub jump_to : (token : ℕ) → (name : List ℕ) → (enters : Option Bool) → List Broken
jump_to token name None = breaks_named LabelIsNotDefined token name
jump_to token name (Some enters) = if enters then breaks_at JumpIntoStatementExpression token else []

abbrev pub goto_broken : SeenGoto → Option SeenLabel → List Broken
goto_broken goto label = jump_to goto.token goto.name (option_map (λ label. leads_into goto.within label.inside) label)

-- those of one function
abbrev pub gotos_broken : (owner : ℕ) → List SeenLabel → List SeenGoto → List Broken
gotos_broken owner labels [] = []
gotos_broken owner labels (goto ∷ gotos) =
    (if nat_eq goto.owner owner then goto_broken goto (first_named owner goto.name labels) else []) ++ gotos_broken owner labels gotos

-- at a function, or at the outermost statement expression outside every function, which all its labels stand before
abbrev pub owner_row : UnitNodes → List Surrounding → (handle : ℕ) → Row
owner_row nodes surroundings handle =
    breaks (gotos_broken handle (labels_before nodes surroundings handle) (gotos_before nodes surroundings handle))

abbrev pub expression_row : UnitNodes → List Surrounding → (handle : ℕ) → (owner : Option ℕ) → Row
expression_row nodes surroundings handle None = owner_row nodes surroundings handle
expression_row nodes surroundings handle (Some owner) = nothing

-- Rows by kinds

abbrev pub is_braced : NodeKind → Bool
is_braced kinds.CompoundStatement = true
is_braced kind = false

abbrev pub condition_at : UnitNodes → List Fact → (handle place : ℕ) → Row
condition_at nodes facts handle place =
    condition_row (token_at nodes handle) (part_token nodes handle place) (part_fact nodes facts handle place)

-- what a statement breaks and which rules fail there, over what is known of the nodes before it; and what a function and a statement
-- expression break besides
abbrev pub statement_row_of : UnitNodes → List Surrounding → List Fact → (handle : ℕ) → NodeKind → Row
-- 6.8.1
statement_row_of nodes surroundings facts handle kinds.LabelStatement = label_at nodes surroundings handle
statement_row_of nodes surroundings facts handle kinds.CaseStatement = case_at nodes surroundings facts handle (switch_of nodes surroundings handle)
statement_row_of nodes surroundings facts handle kinds.DefaultStatement =
    default_at nodes surroundings facts handle (switch_of nodes surroundings handle)
-- 6.8.4
statement_row_of nodes surroundings facts handle kinds.IfStatement = condition_at nodes facts handle 0
statement_row_of nodes surroundings facts handle kinds.SwitchStatement =
    switch_row (token_at nodes handle) (part_token nodes handle 0) (part_fact nodes facts handle 0)
-- 6.8.5: of a part of `for` that is left out nothing is known
statement_row_of nodes surroundings facts handle kinds.WhileStatement = condition_at nodes facts handle 0
statement_row_of nodes surroundings facts handle kinds.DoStatement =
    do_row (token_at nodes handle) (part_token nodes handle 1) (is_braced (kind_at nodes (child_at nodes handle 0))) (part_fact nodes facts handle 1)
statement_row_of nodes surroundings facts handle kinds.ForStatement = condition_at nodes facts handle 1
-- 6.8.6
statement_row_of nodes surroundings facts handle kinds.ContinueStatement = jump_row (token_at nodes handle) (loop_continued nodes surroundings handle)
statement_row_of nodes surroundings facts handle kinds.BreakStatement = jump_row (token_at nodes handle) (statement_left nodes surroundings handle)
statement_row_of nodes surroundings facts handle kinds.ReturnStatement =
    whole_return_row (token_at nodes handle) (part_token nodes handle 0) (first_fact facts (children_at nodes handle))
    (result_around nodes facts (function_left surroundings handle))
-- what labels belong to
statement_row_of nodes surroundings facts handle kinds.FunctionDefinition = owner_row nodes surroundings handle
statement_row_of nodes surroundings facts handle kinds.StatementExpression =
    expression_row nodes surroundings handle (owner_of nodes surroundings handle)
statement_row_of nodes surroundings facts handle kind = nothing

abbrev pub statement_row_at : UnitNodes → List Surrounding → (earlier : List Fact) → (handle : ℕ) → Row
statement_row_at nodes surroundings earlier handle = statement_row_of nodes surroundings earlier handle (kind_at nodes handle)
