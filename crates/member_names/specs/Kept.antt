-- What is kept of members while nodes come: of declarations without a declarator from the last node to the first, and of names from the
-- first to the last.
use Rattle.std.specs.Prelude.{◌≡◌, ℕ, ◌≤◌, ◌<◌, nat_eq, nat_lt, Bool, false, ◌&&◌, not, bytes_eq, List, length, Option, Some, None, if◌then◌else◌}
use Rattle.std.specs.List.{list_any}
use Rattle.sparse_model.specs.declared.ids.NameId.{NameId}
use Rattle.sparse_model.specs.contracts.ids.NameIdPartialEq.TheImpl as names
use Rattle.meaning_tree.specs.Nodes.{NodeList}
use Rattle.meaning_typing.specs.MemberDeclarations.{is_empty, member_entries}
use Rattle.meaning_typing.specs.MemberRows.{has_no_entry, is_member_declaration, is_member_declarator, names_same_member}
use Rattle.meaning_typing.specs.Surroundings.{Surrounding}
use Rattle.meaning_typing.specs.Tags.{is_any_below}
use Rattle.meaning_typing.specs.Units.{UnitNodes, kind_at, node_at}
use Rattle.decl_judge.specs.Units.{nodes_of}
use Rattle.node_facts.specs.Facts.{name_seen}
use Rattle.node_surroundings.specs.declared.surrounding.Surrounding as code
use Rattle.node_surroundings.specs.Seen.{surroundings_seen}
use Rattle.member_names.specs.Homes.{ParentsStandBehind, outermost_home, outermost_of}

-- What nodes stand in

-- what is asked of what the nodes of a unit stand in
pub record StandInOrder (unit : NodeList NameId) (surroundings : List code.Surrounding) : Type 0 where
  pub all : length surroundings ≡ length unit.nodes
  pub parents : ParentsStandBehind (nodes_of unit) (surroundings_seen surroundings)

-- Homes

-- it declares members without a declarator
abbrev pub declares_nameless : UnitNodes → (declaration : ℕ) → Bool
declares_nameless nodes declaration =
    is_member_declaration (kind_at nodes declaration) && has_no_entry (member_entries nodes declaration)

-- of such a node the outermost aggregate is kept of which they are members
abbrev pub home_kept : UnitNodes → List Surrounding → (handle : ℕ) → Option ℕ
home_kept nodes surroundings handle = if declares_nameless nodes handle then Some (outermost_home nodes surroundings handle) else None

-- it is kept of the nodes from this one on
pub record KeepsFrom (nodes : UnitNodes) (surroundings : List Surrounding) (first : ℕ) (kept : ℕ → Option ℕ) : Type 0 where
  pub behind : (handle : ℕ) → first ≤ handle → kept handle ≡ home_kept nodes surroundings handle
  pub before : (handle : ℕ) → handle < first → kept handle ≡ None

-- and of all of them
abbrev pub KeepsAll : UnitNodes → List Surrounding → (ℕ → Option ℕ) → Type 0
KeepsAll nodes surroundings kept = (handle : ℕ) → kept handle ≡ home_kept nodes surroundings handle

-- Names

-- how the names of members are compared in their outermost homes
abbrev pub same_key : ℕ × NameId → ℕ × NameId → Bool
same_key key other = nat_eq key.0 other.0 && names.eq-value.it key.1 other.1

abbrev pub is_key_among : ℕ × NameId → List (ℕ × NameId) → Bool
is_key_among key keys = list_any (same_key key) keys

-- it declares a member that has a name
abbrev pub is_named_member : UnitNodes → List Surrounding → (handle : ℕ) → Bool
is_named_member nodes surroundings handle =
    is_member_declarator nodes surroundings handle && not (is_empty (node_at nodes handle).name)

-- it declares a member of this name with this outermost home
abbrev pub is_member_so : UnitNodes → List Surrounding → (home : ℕ) → (name : List ℕ) → (handle : ℕ) → Bool
is_member_so nodes surroundings home name handle =
    is_member_declarator nodes surroundings handle
    && (bytes_eq (node_at nodes handle).name name && nat_eq home (outermost_of nodes surroundings handle))

-- these are the names of members in their homes among the first so many nodes
abbrev pub AreSeen : UnitNodes → List Surrounding → (count : ℕ) → List (ℕ × NameId) → Type 0
AreSeen nodes surroundings count keys =
    (home : ℕ) (name : NameId) → is_empty (name_seen name) ≡ false
    → is_key_among (home, name) keys ≡ is_any_below (λ handle. is_member_so nodes surroundings home (name_seen name) handle) count

-- it declares a member whose name an earlier one has in an aggregate of which both are members
abbrev pub is_declared_twice : UnitNodes → List Surrounding → (handle : ℕ) → Bool
is_declared_twice nodes surroundings handle =
    is_named_member nodes surroundings handle && is_any_below (λ other. names_same_member nodes surroundings handle other) handle

-- these are the handles of such ones among the first so many nodes
abbrev pub AreTwiceBelow : UnitNodes → List Surrounding → (count : ℕ) → List ℕ → Type 0
AreTwiceBelow nodes surroundings count handles =
    (handle : ℕ) → list_any (nat_eq handle) handles ≡ nat_lt handle count && is_declared_twice nodes surroundings handle

-- and among all
abbrev pub AreTwice : UnitNodes → List Surrounding → List ℕ → Type 0
AreTwice nodes surroundings handles = (handle : ℕ) → list_any (nat_eq handle) handles ≡ is_declared_twice nodes surroundings handle
