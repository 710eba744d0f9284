-- What is kept of a body to tell which of its members may be flexible: its last declarator, and whether another member has a name.
use Rattle.std.specs.Prelude.{◌≡◌, ℕ, ◌+◌, nat_eq, Bool, true, false, ◌&&◌, ◌||◌, not, List, [], ◌∷◌, slice_get, Option, Some, None, if◌then◌else◌}
use Rattle.std.specs.List.{list_any}
use Rattle.vocabulary.specs.declared.node_kind.NodeKind.{NodeKind}
use Rattle.vocabulary.specs.declared.node_kind.NodeKind.TheVariants as kinds
use Rattle.meaning_typing.specs.MemberDeclarations.{MemberEntry, is_empty, is_tagless_among, member_entries}
use Rattle.meaning_typing.specs.MemberRows.{declares_members, is_among_others, is_last_entry}
use Rattle.meaning_typing.specs.Units.{UnitNodes, child_at, children_at, children_from, kind_at, node_at}
use Rattle.member_declarations.specs.declared.flexible.FlexiblePlace.{FlexiblePlace}
use Rattle.member_declarations.specs.declared.flexible.LastMember.{LastMember}
use Rattle.member_declarations.specs.declared.flexible.NamedMembers.{NamedMembers}
use Rattle.member_declarations.specs.declared.flexible.NamedMembers.TheVariants as names

-- Members with names

-- with one more
abbrev pub with_name : NamedMembers → (declarator : ℕ) → NamedMembers
with_name names.None declarator = names.One declarator
with_name (names.One first) declarator = if nat_eq first declarator then names.One first else names.Several
with_name names.Several declarator = names.Several

abbrev pub with_name_of : UnitNodes → NamedMembers → (declarator : ℕ) → NamedMembers
with_name_of nodes members declarator = if not (is_empty (node_at nodes declarator).name) then with_name members declarator else members

abbrev pub named_over : UnitNodes → NamedMembers → List MemberEntry → NamedMembers
named_over nodes members [] = members
named_over nodes members (entry ∷ entries) = named_over nodes (with_name_of nodes members entry.declarator) entries

-- one of them is another one than this
abbrev pub has_named_besides : NamedMembers → (declarator : ℕ) → Bool
has_named_besides names.None declarator = false
has_named_besides (names.One first) declarator = not (nat_eq declarator first)
has_named_besides names.Several declarator = true

-- The last member

-- the declarator of the last of these entries, or this one, if there is none
abbrev pub last_entry : Option ℕ → List MemberEntry → Option ℕ
last_entry found [] = found
last_entry found (entry ∷ entries) = last_entry (Some entry.declarator) entries

-- it is this one, in a declaration at this place
abbrev pub is_last_at : Option LastMember → (declarator place : ℕ) → Bool
is_last_at None declarator place = false
is_last_at (Some last) declarator place = nat_eq place last.place && nat_eq declarator last.declarator

-- Bodies

abbrev pub nothing_kept : FlexiblePlace
nothing_kept = record { last = None; named = names.None; has_anonymous = false }

-- what is kept with a declaration that stands at this place, of which the last declarator is this
abbrev pub with_last : UnitNodes → (place declaration : ℕ) → FlexiblePlace → List MemberEntry → Option ℕ → FlexiblePlace
with_last nodes place declaration kept entries (Some declarator) =
    record {
      last = Some (record { place = place; declarator = declarator });
      named = named_over nodes kept.named entries;
      has_anonymous = kept.has_anonymous;
    }
with_last nodes place declaration kept entries None =
    if is_tagless_among nodes (children_at nodes (child_at nodes declaration 0))
    then record { last = None; named = kept.named; has_anonymous = true }
    else kept

abbrev pub with_declaration : UnitNodes → (place declaration : ℕ) → FlexiblePlace → List MemberEntry → FlexiblePlace
with_declaration nodes place declaration kept entries = with_last nodes place declaration kept entries (last_entry None entries)

abbrev pub with_kind : UnitNodes → NodeKind → (place part : ℕ) → FlexiblePlace → FlexiblePlace
with_kind nodes kinds.MemberDeclaration place part kept = with_declaration nodes place part kept (member_entries nodes part)
with_kind nodes kind place part kept = kept

abbrev pub with_part : UnitNodes → (place part : ℕ) → FlexiblePlace → FlexiblePlace
with_part nodes place part kept = with_kind nodes (kind_at nodes part) place part kept

-- with parts of which the first one stands at this place
abbrev pub flexible_over : UnitNodes → (place : ℕ) → FlexiblePlace → (parts : List ℕ) → FlexiblePlace
flexible_over nodes place kept [] = kept
flexible_over nodes place kept (part ∷ parts) = flexible_over nodes (place + 1) (with_part nodes place part kept) parts

abbrev pub has_member_besides : FlexiblePlace → (declarator : ℕ) → Bool
has_member_besides kept declarator = kept.has_anonymous || has_named_besides kept.named declarator

-- this is kept of the body with this list of members
pub record IsToldOf (nodes : UnitNodes) (list : ℕ) (kept : FlexiblePlace) : Type 0 where
  -- of each declaration in it, whether a declarator is its last one and no later one declares members
  pub last : (declaration place : ℕ) → slice_get (children_at nodes list) place ≡ Some declaration → kind_at nodes declaration ≡ kinds.MemberDeclaration
      → (declarator : ℕ) → is_last_at kept.last declarator place
      ≡ (is_last_entry declarator (member_entries nodes declaration)
      && not (list_any (λ part. declares_members nodes part) (children_from nodes list (place + 1))))
  -- of each declarator, whether there is another member with a name, or an anonymous one
  pub others : (declarator : ℕ) → has_member_besides kept declarator ≡ is_among_others nodes declarator list
