-- How what was read is seen by the definitions of `meaning_derivation`, through a table of spellings.
use Rattle.std.specs.Prelude.{ℕ, List, map, reverse, length, Option, option_map}
use Rattle.meaning_tree.specs.Trees.{SyntaxTree}
use Rattle.meaning_tree.specs.Nodes.{NodeList}
use Rattle.meaning_tree.specs.Listed.{trees_of, tree_at, parts_at, renamed_list}
use Rattle.meaning_scopes.specs.Scopes.{ScopeList, renamed, renamed_entry}
use Rattle.meaning_derivation.specs.Values.{WordValue, TreeValue, ListValue}
use Rattle.meaning_derivation.specs.Values as values
use Rattle.meaning_derivation.specs.State.{ClosedList, State, Passed, Held}
use Rattle.meaning_derivation.specs.Shapes as shapes
use Rattle.sparse_model.specs.declared.ids.NameId.{NameId}
use Rattle.c_tokens.specs.Seen.{text_of, toks_of}
use Rattle.c_tokens.specs.declared.token.Token.{Token}
use Rattle.c_scope.specs.Seen.{entry_of}
use Rattle.parse_state.specs.declared.value.Value.{Value}
use Rattle.parse_state.specs.declared.value.Value.TheVariants as kinds
use Rattle.parse_state.specs.declared.marks.PassedLimit.{PassedLimit}
use Rattle.parse_state.specs.declared.marks.HeldError.{HeldError}
use Rattle.parse_state.specs.declared.marks.ClosedParameters.{ClosedParameters}
use Rattle.parse_state.specs.declared.shape.Source.{Source}
use Rattle.parse_state.specs.declared.shape.Source.TheVariants as sources

-- a value over these spellings and trees
abbrev pub value_of : List (List ℕ) → List SyntaxTree → Value → values.Value
value_of names trees (kinds.Word token name) = WordValue token (text_of names name)
value_of names trees (kinds.Tree handle) = TreeValue (tree_at trees handle)
value_of names trees (kinds.List children) = ListValue (parts_at trees children)

-- the trees of the nodes, with their names spelled out
abbrev pub spelled_trees : List (List ℕ) → NodeList NameId → List SyntaxTree
spelled_trees names list = trees_of (renamed_list (text_of names) list)

-- the values of a stack, of which the last one is the top
abbrev pub values_of : List (List ℕ) → NodeList NameId → List Value → List values.Value
values_of names list stack = map (value_of names (spelled_trees names list)) (reverse stack)

-- what is bound, by its spellings
abbrev pub scopes_of : List (List ℕ) → ScopeList NameId → ScopeList (List ℕ)
scopes_of names scopes = renamed (text_of names) scopes

abbrev pub passed_of : PassedLimit → Passed
passed_of passed = record { limit = passed.limit; terminal = passed.terminal }

abbrev pub held_of : HeldError → Held
held_of held = record { kind = held.kind; token = held.token }

-- a parameter list that was closed
abbrev pub closed_seen : ClosedParameters → ClosedList NameId
closed_seen closed = record { token = closed.token; entries = map entry_of closed.bindings.items }

-- the same by its spellings
abbrev pub closed_of : List (List ℕ) → ClosedList NameId → ClosedList (List ℕ)
closed_of names closed = record { token = closed.token; entries = map (renamed_entry (text_of names)) closed.entries }

-- What was read, by its ids and handles
pub record Read : Type 0 where
  -- the spellings of the ids
  pub names : List (List ℕ)
  pub list : NodeList NameId
  -- the stack of values, its top last
  pub stack : List Value
  pub scopes : ScopeList NameId
  pub taken : ℕ
  pub next_token : ℕ
  pub last_token : ℕ
  pub passed : Option PassedLimit
  pub held : Option HeldError
  pub function_end : Option ℕ
  pub closed : List (ClosedList NameId)
  pub awaited : Option ℕ
  -- the tokens of the unit, by ids
  pub tokens : List Token

-- the state of a derivation that it is
abbrev pub state_of : Read → State
state_of read =
    record {
      taken = read.taken;
      next_token = read.next_token;
      last_token = read.last_token;
      values = values_of read.names read.list read.stack;
      scopes = scopes_of read.names read.scopes;
      nodes = length read.list.nodes;
      passed = option_map passed_of read.passed;
      held = option_map held_of read.held;
      function_end = read.function_end;
      closed = map (closed_of read.names) read.closed;
      awaited = read.awaited;
      tokens = toks_of read.names read.tokens;
    }

-- where parts come from
abbrev pub source_of : Source → shapes.Source
source_of (sources.OneTree role depth) = shapes.OneTree role depth
source_of (sources.AllTrees depth) = shapes.AllTrees depth
