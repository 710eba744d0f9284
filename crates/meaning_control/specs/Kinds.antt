-- What a node of a function is to control.
use Rattle.std.specs.Prelude.{ℕ, ℤ, Bool, true, false, nat_eq, List, Option}
use Rattle.meaning_paths.specs.Steps.{Step}

-- A kind of control nodes. The parts of a node stand in the order in which they are passed.
pub data ControlKind : Type 0 where
  -- An expression whose value is tested, and which isn't one of those below: it is left in each of these ways.
  Value : (outcomes : List Bool) → ControlKind
  -- a call that passes steps of its own behind its arguments, and is left in each of these ways, or never
  Calling : (passes : List Step) → (outcomes : List Bool) → ControlKind
  -- parentheses, a comma, a declaration, and each operator whose value isn't tested
  Sequence : ControlKind
  -- the items of a function, or of a statement expression; a label in it isn't seen from outside
  Body : ControlKind
  -- `!`, `&&`, `||`, `?:`
  Not : ControlKind
  And : ControlKind
  Or : ControlKind
  Conditional : ControlKind
  -- `__builtin_expect` that is tested: its value, what is expected where that is true, and the same where it is false
  Expect : ControlKind
  -- statements (C11 6.8): an expression and a semicolon, and a compound statement
  Expression : ControlKind
  Block : ControlKind
  If : ControlKind
  -- the value of its condition, where that is constant
  Switch : (number : Option ℤ) → ControlKind
  While : ControlKind
  -- its `while` stands at this token
  Do : (while_token : ℕ) → ControlKind
  For : (has_condition : Bool) → ControlKind
  Label : (name : List ℕ) → ControlKind
  Case : (number : ℤ) → ControlKind
  Default : ControlKind
  Goto : (name : List ℕ) → ControlKind
  Break : ControlKind
  Continue : ControlKind
  Return : ControlKind
  -- a context statement, and what it adds
  Context : (by : ℤ) → ControlKind
  -- a statement of attributes
  Attributes : ControlKind

-- a statement (C11 6.8)
abbrev pub is_statement : ControlKind → Bool
is_statement (Value outcomes) = false
is_statement (Calling passes outcomes) = false
is_statement Sequence = false
is_statement Body = false
is_statement Not = false
is_statement And = false
is_statement Or = false
is_statement Conditional = false
is_statement Expect = false
is_statement kind = true

abbrev pub is_body : ControlKind → Bool
is_body Body = true
is_body kind = false

abbrev pub is_switch : ControlKind → Bool
is_switch (Switch number) = true
is_switch kind = false

abbrev pub is_label : ControlKind → Bool
is_label (Label name) = true
is_label kind = false

-- a label of a `switch`
abbrev pub is_case : ControlKind → Bool
is_case (Case number) = true
is_case Default = true
is_case kind = false

-- the part at this place is the body of a loop, which `continue` leaves (C11 6.8.6.2 p2)
abbrev pub is_loop_body : ControlKind → (place : ℕ) → Bool
is_loop_body While place = nat_eq place 1
is_loop_body (Do while_token) place = nat_eq place 0
is_loop_body (For has_condition) place = nat_eq place 3
is_loop_body kind place = false

-- the part at this place is one that `break` leaves: the body of a loop or of a `switch` (6.8.6.3 p2)
abbrev pub is_broken : ControlKind → (place : ℕ) → Bool
is_broken (Switch number) place = nat_eq place 1
is_broken kind place = is_loop_body kind place
