-- What was read so far, and what comes of a step.
use Rattle.std.specs.Prelude.{ℕ, ◌+◌, List, [], ◌∷◌, drop, length, nat_lt, Option, Some, None, if◌then◌else◌}
use Rattle.vocabulary.specs.declared.error_kind.ErrorKind.{ErrorKind}
use Rattle.vocabulary.specs.declared.limit.LimitKind.{LimitKind}
use Rattle.vocabulary.specs.declared.limit.LimitKind.TheVariants.{Nodes, ParseStack}
use Rattle.vocabulary.specs.declared.role.Role.{Role}
use Rattle.meaning_text.specs.Tokens.{Tok}
use Rattle.meaning_tree.specs.Trees.{SyntaxTree, NoParts, Part}
use Rattle.meaning_scopes.specs.Scopes.{Entry, ScopeList}
use Rattle.meaning_grammar.specs.Terminals.{Terminal}
use Rattle.meaning_derivation.specs.Values.{Value, TreeValue, ListValue}

-- a limit that was passed at a terminal, which is counted from 0
pub record Passed : Type 0 where
  pub limit : LimitKind
  pub terminal : ℕ

-- an error that is told when the next terminal is taken, with the token at which it stands
pub record Held : Type 0 where
  pub kind : ErrorKind
  pub token : ℕ

-- a parameter list that was closed: the token at which it begins, and what it bound, in order
pub record ClosedList (N : Type 0) : Type 0 where
  pub token : ℕ
  pub entries : List (Entry N)

pub record State : Type 0 where
  -- how many terminals were taken
  pub taken : ℕ
  -- the token of the next terminal, and what it is last: at the end, the index behind the unit's tokens
  pub next_token : ℕ
  pub last_token : ℕ
  -- the stack of values, its top first
  pub values : List Value
  -- what is bound, the innermost entry first
  pub scopes : ScopeList (List ℕ)
  -- how many nodes were made
  pub nodes : ℕ
  -- the first limit that was passed
  pub passed : Option Passed
  -- specifiers that are refused
  pub held : Option Held
  -- the terminal behind a function's declarator in a body, where no body may follow
  pub function_end : Option ℕ
  -- the parameter lists that a declaration at file scope closed, in order
  pub closed : List (ClosedList (List ℕ))
  -- where the parameter list of a function begins whose body comes next
  pub awaited : Option ℕ
  -- the tokens of the unit, in order
  pub tokens : List Tok

-- the token of the first of these terminals, or what it is last
abbrev pub token_before : (last_token : ℕ) → List Terminal → ℕ
token_before last_token [] = last_token
token_before last_token (terminal ∷ terminals) = terminal.index

-- before the first of these terminals, in a unit of these tokens
abbrev pub state_at_start : List Tok → List Terminal → State
state_at_start tokens terminals =
    record {
      taken = 0;
      next_token = token_before (length tokens) terminals;
      last_token = length tokens;
      values = [];
      scopes = [];
      nodes = 0;
      passed = None;
      held = None;
      function_end = None;
      closed = [];
      awaited = None;
      tokens = tokens;
    }

-- Why nothing goes on

pub data Fault : Type 0 where
  IsError : ErrorKind → Fault
  PassesLimit : LimitKind → Fault

-- what an action comes to: the state behind it, or a refusal with the token at which it stands
pub data ActionOutcome : Type 0 where
  Goes : State → ActionOutcome
  Refuses : Fault → (stands : ℕ) → ActionOutcome

-- what comes of a part of a derivation
pub data Outcome : Type 0 where
  -- it goes on in this state, before these terminals
  Done : State → List Terminal → Outcome
  -- it is refused: for what, at which terminal that is decided, and at which token it stands
  Fails : Fault → (decided : ℕ) → (stands : ℕ) → Outcome

-- Changes of a state

abbrev pub with_values : State → List Value → State
with_values s values = record s { values = values }

-- a value on top of the stack
abbrev pub pushed : Value → State → State
pushed value s = with_values s (value ∷ s.values)

-- a value in the place of the last so many
abbrev pub with_value : State → (count : ℕ) → Value → State
with_value s count value = with_values s (value ∷ drop count s.values)

-- the most nodes of a unit
abbrev pub most_nodes : ℕ
most_nodes = 16000000

-- a new node, and with it this value in the place of the last so many
abbrev pub made_as : State → (count : ℕ) → Value → ActionOutcome
made_as s count value =
    if nat_lt s.nodes most_nodes then Goes (record s { values = value ∷ drop count s.values; nodes = s.nodes + 1 })
    else Refuses (PassesLimit Nodes) s.next_token

-- a new tree in the place of the last so many values
abbrev pub made : State → (count : ℕ) → SyntaxTree → ActionOutcome
made s count tree = made_as s count (TreeValue tree)

-- a new tree as the only one of a list
abbrev pub made_list : State → (count : ℕ) → Role → SyntaxTree → ActionOutcome
made_list s count role tree = made_as s count (ListValue (Part role tree NoParts))

-- the most symbols that may wait
abbrev pub most_pending : ℕ
most_pending = 65536

-- the first limit that is passed stays
abbrev pub first_passed : Option Passed → Passed → Option Passed
first_passed None passed = Some passed
first_passed (Some earlier) passed = Some earlier

-- a limit is passed at the next terminal
abbrev pub with_limit : LimitKind → State → State
with_limit limit s = record s { passed = first_passed s.passed (record { limit = limit; terminal = s.taken }) }

-- so many symbols wait
abbrev pub with_waiting : (pending : ℕ) → State → State
with_waiting pending s = if nat_lt most_pending pending then with_limit ParseStack s else s
