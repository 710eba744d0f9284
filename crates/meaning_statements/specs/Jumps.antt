-- What jumps and labels belong to, by handles (C11 6.8.1, 6.8.4.2, 6.8.6): statements go by it, and control paths will.
use Rattle.std.specs.Prelude.{ℕ, zero, suc, nat_lt, nat_eq, Bool, true, false, ◌&&◌, ◌||◌, List, [], ◌∷◌, ◌++◌, length, Option, Some, None, option_map, if◌then◌else◌}
use Rattle.std.specs.Str.{bytes_eq}
use Rattle.vocabulary.specs.declared.node_kind.NodeKind.{NodeKind}
use Rattle.vocabulary.specs.declared.node_kind.NodeKind.TheVariants as kinds
use Rattle.meaning_typing.specs.Units.{UnitNodes, node_at, kind_at}
use Rattle.meaning_typing.specs.Surroundings.{Surrounding, surrounding_at}
use Rattle.meaning_statements.specs.Above.{Above, nodes_above, first_above, expressions_around, innermost, outermost}

-- Loops and switches: a part belongs to one only in its body, so that what stands in a condition or a step belongs to the one outside

abbrev pub is_loop_body : NodeKind → (place : ℕ) → Bool
is_loop_body kinds.WhileStatement place = nat_eq place 1
is_loop_body kinds.DoStatement place = nat_eq place 0
is_loop_body kinds.ForStatement place = nat_eq place 3
is_loop_body kind place = false

abbrev pub is_switch_body : NodeKind → (place : ℕ) → Bool
is_switch_body kinds.SwitchStatement place = nat_eq place 1
is_switch_body kind place = false

abbrev pub in_loop : Above → Bool
in_loop above = is_loop_body above.kind above.place

abbrev pub in_switch : Above → Bool
in_switch above = is_switch_body above.kind above.place

abbrev pub in_loop_or_switch : Above → Bool
in_loop_or_switch above = in_loop above || in_switch above

-- the switch of a `case` or `default` (6.8.1 p2)
abbrev pub switch_of : UnitNodes → List Surrounding → (label : ℕ) → Option ℕ
switch_of nodes surroundings label = first_above in_switch (nodes_above nodes surroundings label)

-- the loop that a `continue` goes on with (6.8.6.2)
abbrev pub loop_continued : UnitNodes → List Surrounding → (jump : ℕ) → Option ℕ
loop_continued nodes surroundings jump = first_above in_loop (nodes_above nodes surroundings jump)

-- the loop or switch that a `break` leaves (6.8.6.3)
abbrev pub statement_left : UnitNodes → List Surrounding → (jump : ℕ) → Option ℕ
statement_left nodes surroundings jump = first_above in_loop_or_switch (nodes_above nodes surroundings jump)

-- the function that a `return` leaves (6.8.6.4)
abbrev pub function_left : List Surrounding → (jump : ℕ) → Option ℕ
function_left surroundings jump = (surrounding_at surroundings jump).around.function

-- Labels and `goto` (6.8.1 p3, 6.8.6.1)

abbrev pub owner_by : (function : Option ℕ) → (expressions : List ℕ) → Option ℕ
owner_by (Some function) expressions = Some function
owner_by None expressions = outermost expressions

-- what a label or a `goto` belongs to: the function in whose body it stands, outside every function the outermost statement expression
abbrev pub owner_of : UnitNodes → List Surrounding → (handle : ℕ) → Option ℕ
owner_of nodes surroundings handle = owner_by (function_left surroundings handle) (expressions_around nodes surroundings handle)

-- a label as a `goto` sees it
pub record SeenLabel : Type 0 where
  pub handle : ℕ
  pub token : ℕ
  pub name : List ℕ
  pub owner : ℕ
  -- the innermost statement expression around it
  pub inside : Option ℕ

-- a `goto` as it sees labels
pub record SeenGoto : Type 0 where
  pub handle : ℕ
  pub token : ℕ
  pub name : List ℕ
  pub owner : ℕ
  -- the statement expressions around it
  pub within : List ℕ

abbrev pub labels_if : UnitNodes → List Surrounding → (handle : ℕ) → NodeKind → (owner : Option ℕ) → List SeenLabel
labels_if nodes surroundings handle kinds.LabelStatement (Some owner) =
    record {
      handle = handle;
      token = (node_at nodes handle).token;
      name = (node_at nodes handle).name;
      owner = owner;
      inside = innermost (expressions_around nodes surroundings handle);
    } ∷ []
labels_if nodes surroundings handle kind owner = []

abbrev pub gotos_if : UnitNodes → List Surrounding → (handle : ℕ) → NodeKind → (owner : Option ℕ) → List SeenGoto
gotos_if nodes surroundings handle kinds.GotoStatement (Some owner) =
    record {
      handle = handle;
      token = (node_at nodes handle).token;
      name = (node_at nodes handle).name;
      owner = owner;
      within = expressions_around nodes surroundings handle;
    } ∷ []
gotos_if nodes surroundings handle kind owner = []

abbrev pub labels_at : UnitNodes → List Surrounding → (handle : ℕ) → List SeenLabel
labels_at nodes surroundings handle = labels_if nodes surroundings handle (kind_at nodes handle) (owner_of nodes surroundings handle)

abbrev pub gotos_at : UnitNodes → List Surrounding → (handle : ℕ) → List SeenGoto
gotos_at nodes surroundings handle = gotos_if nodes surroundings handle (kind_at nodes handle) (owner_of nodes surroundings handle)

-- those among the first so many nodes, the last one first
abbrev pub labels_before : UnitNodes → List Surrounding → (count : ℕ) → List SeenLabel
labels_before nodes surroundings zero = []
labels_before nodes surroundings (suc count) = labels_at nodes surroundings count ++ labels_before nodes surroundings count

abbrev pub gotos_before : UnitNodes → List Surrounding → (count : ℕ) → List SeenGoto
gotos_before nodes surroundings zero = []
gotos_before nodes surroundings (suc count) = gotos_at nodes surroundings count ++ gotos_before nodes surroundings count

abbrev pub is_named : (owner : ℕ) → (name : List ℕ) → SeenLabel → Bool
is_named owner name label = nat_eq label.owner owner && bytes_eq label.name name

-- of two labels that at the earlier token
abbrev pub earlier : SeenLabel → Option SeenLabel → SeenLabel
earlier label None = label
earlier label (Some other) = if nat_lt other.token label.token then other else label

-- the first label of this name, by its token
abbrev pub first_named : (owner : ℕ) → (name : List ℕ) → List SeenLabel → Option SeenLabel
first_named owner name [] = None
first_named owner name (label ∷ labels) =
    if is_named owner name label then Some (earlier label (first_named owner name labels)) else first_named owner name labels

abbrev pub label_in : List SeenLabel → (owner : Option ℕ) → (name : List ℕ) → Option SeenLabel
label_in labels None name = None
label_in labels (Some owner) name = first_named owner name labels

-- the label to which a `goto` leads: that of its name in its function, the first one where there are two
abbrev pub label_of : UnitNodes → List Surrounding → (goto : ℕ) → Option ℕ
label_of nodes surroundings goto =
    option_map (λ label. label.handle)
    (label_in (labels_before nodes surroundings (length nodes)) (owner_of nodes surroundings goto) (node_at nodes goto).name)

-- Labels of a switch

abbrev pub is_switch_label : NodeKind → Bool
is_switch_label kinds.CaseStatement = true
is_switch_label kinds.DefaultStatement = true
is_switch_label kind = false

abbrev pub is_handle : ℕ → Option ℕ → Bool
is_handle handle None = false
is_handle handle (Some other) = nat_eq handle other

abbrev pub is_label_of : UnitNodes → List Surrounding → (switch label : ℕ) → Bool
is_label_of nodes surroundings switch label = is_switch_label (kind_at nodes label) && is_handle switch (switch_of nodes surroundings label)

-- with one more among them, where its token is
abbrev pub with_label : UnitNodes → (label : ℕ) → List ℕ → List ℕ
with_label nodes label [] = label ∷ []
with_label nodes label (other ∷ others) =
    if nat_lt (node_at nodes label).token (node_at nodes other).token then label ∷ other ∷ others else other ∷ with_label nodes label others

-- those among the first so many nodes
abbrev pub labels_among : UnitNodes → List Surrounding → (switch count : ℕ) → List ℕ
labels_among nodes surroundings switch zero = []
labels_among nodes surroundings switch (suc count) =
    if is_label_of nodes surroundings switch count then with_label nodes count (labels_among nodes surroundings switch count)
    else labels_among nodes surroundings switch count

-- its cases and its default, in the order in which they are written
abbrev pub labels_of : UnitNodes → List Surrounding → (switch : ℕ) → List ℕ
labels_of nodes surroundings switch = labels_among nodes surroundings switch (length nodes)
