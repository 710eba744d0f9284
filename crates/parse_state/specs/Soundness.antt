-- What always holds of what was read: ids and handles are known.
use Rattle.std.specs.Prelude.{◌≡◌, ◌≤◌, ℕ, Bool, true, nat_lt, List, length}
use Rattle.std.specs.List.{list_all}
use Rattle.meaning_tree.specs.Nodes.{NodeList, end_of}
use Rattle.meaning_scopes.specs.Scopes.{Entry, ScopeList}
use Rattle.meaning_scopes.specs.laws.Scopes.{all_named}
use Rattle.meaning_derivation.specs.State.{ClosedList}
use Rattle.sparse_model.specs.declared.ids.NameId.{NameId}
use Rattle.parse_state.specs.Giving.{has_handles_below}
use Rattle.parse_state.specs.Lying.{AreStacked}
use Rattle.parse_state.specs.declared.value.Value.{Value}
use Rattle.parse_state.specs.declared.value.Value.TheVariants.{Word}

-- an id that the table of spellings has
abbrev pub is_known : List (List ℕ) → NameId → Bool
is_known names name = nat_lt name.0 (length names)

-- the id of a word is one
abbrev pub has_known_name : List (List ℕ) → Value → Bool
has_known_name names (Word token name) = is_known names name
has_known_name names value = true

-- and those of entries are
abbrev pub has_known_entries : List (List ℕ) → List (Entry NameId) → Bool
has_known_entries names entries = list_all (λ entry. is_known names entry.name) entries

pub record IsSound (names : List (List ℕ)) (list : NodeList NameId) (stack : List Value) (scopes : ScopeList NameId) (closed : List (ClosedList NameId)) : Type 0 where
  -- the list is a unit's from its beginning
  pub first : list.first ≡ 0
  pub few : length list.nodes ≤ 16000000
  pub handles : list_all (has_handles_below (length list.nodes)) stack ≡ true
  -- the nodes of values lie one behind the other, from the first node on
  pub laid : AreStacked list stack list.first (end_of list)
  pub words : list_all (has_known_name names) stack ≡ true
  pub node_names : list_all (λ node. is_known names node.name) list.nodes ≡ true
  pub bound_names : all_named (is_known names) scopes ≡ true
  pub closed_names : list_all (λ one. has_known_entries names one.entries) closed ≡ true
