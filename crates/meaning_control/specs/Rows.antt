-- The rows of control nodes: what each passes where it is entered and at its own moment, and where control goes, said by its own
-- parts.
use Rattle.std.specs.Prelude.{ℕ, zero, suc, ◌+◌, Bool, true, false, not, nat_eq, nat_lt, List, [], ◌∷◌, map, if◌then◌else◌}
use Rattle.meaning_paths.specs.Steps.{Step, Point, Add, End}
use Rattle.meaning_control.specs.Kinds.{ControlKind, Value, Calling, Not, And, Or, Conditional, Expect, If, Switch, While, Do, For, Goto, Break, Continue, Return, Context, is_statement}

-- a way in a node: into the part at a place, to the node's own moment, or out of the node, which is left as true or false
pub data Way : Type 0 where
  Into : (place : ℕ) → Way
  Moment : Way
  Out : (outcome : Bool) → Way

-- where control goes
pub data Going : Type 0 where
  -- on a way in the node
  On : Way → Going
  -- out of the innermost body of a loop or a switch
  Breaks : Going
  -- out of the innermost body of a loop, and on in that loop
  Continues : Going
  -- to the labels of this name
  Jumps : (name : List ℕ) → Going
  -- to the labels of the switch, or past it
  Picks : Going

-- Steps

-- what is passed where a node is entered: each statement is a point at its first token
abbrev pub entry_steps : ControlKind → (token : ℕ) → List Step
entry_steps (Context by) token = Point token false ∷ Add token 0 by ∷ []
entry_steps kind token = if is_statement kind then Point token false ∷ [] else []

-- What is passed at its moment: before the condition of a loop, where it has one, behind the expression of a `return`, and behind
-- the arguments of a call.
abbrev pub moment_steps : ControlKind → (token : ℕ) → List Step
moment_steps While token = Point token true ∷ []
moment_steps (Do while_token) token = Point while_token true ∷ []
moment_steps (For has_condition) token = if has_condition then Point token true ∷ [] else []
moment_steps Return token = Point token true ∷ End token ∷ []
moment_steps (Calling passes outcomes) token = passes
moment_steps kind token = []

-- Ways

-- out in each of these ways
abbrev pub outs : List Bool → List Going
outs outcomes = map (λ outcome. On (Out outcome)) outcomes

-- where control goes behind what is passed at the entry of a node with so many parts
abbrev pub begins : ControlKind → (parts : ℕ) → List Going
begins While parts = On Moment ∷ []
begins (Goto name) parts = Jumps name ∷ []
begins Break parts = Breaks ∷ []
begins Continue parts = Continues ∷ []
begins (Value outcomes) zero = outs outcomes
begins (Calling passes outcomes) zero = On Moment ∷ []
begins Return zero = On Moment ∷ []
begins kind zero = On (Out true) ∷ []
begins kind (suc parts) = On (Into 0) ∷ []

-- behind what is passed at its moment
abbrev pub onward : ControlKind → List Going
onward (Value outcomes) = outs outcomes
onward (Calling passes outcomes) = outs outcomes
onward (Switch number) = Picks ∷ []
onward While = On (Into 0) ∷ []
onward (Do while_token) = On (Into 1) ∷ []
onward (For has_condition) = On (Into 1) ∷ []
onward kind = []

-- into the next of so many parts, or else this way
abbrev pub next_or : (parts place : ℕ) → Way → Way
next_or parts place last = if nat_lt (place + 1) parts then Into (place + 1) else last

-- behind the first part, and behind each other one
abbrev pub first_or : (place : ℕ) → (first other : Way) → Way
first_or place first other = if nat_eq place 0 then first else other

-- behind the parts of a `for`: its first expression, its condition, its last expression and its body (C11 6.8.5.3 p1)
abbrev pub behind_for : (place : ℕ) → (outcome : Bool) → Way
behind_for zero outcome = Moment
behind_for (suc zero) outcome = if outcome then Into 3 else Out true
behind_for (suc (suc zero)) outcome = Moment
behind_for (suc (suc (suc place))) outcome = Into 2

-- where control goes when the part at a place was left so
abbrev pub behind : ControlKind → (parts place : ℕ) → (outcome : Bool) → Way
behind (Value outcomes) parts place outcome = next_or parts place Moment
behind (Calling passes outcomes) parts place outcome = next_or parts place Moment
behind Not parts place outcome = Out (not outcome)
-- 6.5.13 p4, 6.5.14 p4, 6.5.15 p4
behind And parts place outcome = first_or place (if outcome then Into 1 else Out false) (Out outcome)
behind Or parts place outcome = first_or place (if outcome then Out true else Into 1) (Out outcome)
behind Conditional parts place outcome = first_or place (if outcome then Into 1 else Into 2) (Out outcome)
-- what is expected says nothing: the value is what it was
behind Expect parts place outcome = first_or place (if outcome then Into 1 else Into 2) (Out (nat_eq place 1))
-- 6.8.4, 6.8.5
behind If parts place outcome = first_or place (if outcome then Into 1 else Into 2) (Out true)
behind (Switch number) parts place outcome = first_or place Moment (Out true)
behind While parts place outcome = first_or place (if outcome then Into 1 else Out true) Moment
behind (Do while_token) parts place outcome = first_or place Moment (if outcome then Into 0 else Out true)
behind (For has_condition) parts place outcome = behind_for place outcome
behind Return parts place outcome = Moment
-- each other node is left as its last part was
behind kind parts place outcome = next_or parts place (Out outcome)
