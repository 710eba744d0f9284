-- How members are seen by the definitions, over a table of types, and what is told of them part by part.
use Rattle.std.specs.Prelude.{◌≡◌, ℕ, nat_eq, max, Bool, false, ◌&&◌, ◌||◌, not, is_some, List, [], ◌∷◌, map, take, Option, Some, None, option_map, if◌then◌else◌}
use Rattle.std.specs.List.{cons_option, flat_map, list_any}
use Rattle.meaning_types.specs.Types.{TypeTree}
use Rattle.meaning_layout.specs.Members.{DeclaredBody}
use Rattle.meaning_typing.specs.Declarators.{type_declared}
use Rattle.meaning_typing.specs.Facts.{Fact, fact_at}
use Rattle.meaning_typing.specs.MemberDeclarations.{BodyMember, body_member, is_packed_word, is_empty, is_tagless, has_member_list, members_of_part, name_said, specifier_bodies, is_type_of_tagless, type_of_entry, width_said}
use Rattle.meaning_typing.specs.Aggregates.{Bodies}
use Rattle.meaning_typing.specs.Surroundings.{Surrounding, surrounding_at}
use Rattle.meaning_typing.specs.Units.{UnitNodes, child_at, children_at, kind_at, node_at}
use Rattle.c_types.specs.declared.bodies.AggregateBody.{AggregateBody}
use Rattle.c_types.specs.declared.bodies.Member.{Member}
use Rattle.c_types.specs.Layouts as layouts
use Rattle.c_types.specs.Table.{TypeTable, IsTypeId, integer_kind, type_at, types_in}
use Rattle.node_facts.specs.Facts.{name_seen}
use Rattle.body_members.specs.declared.entries.Entry.{Entry}

-- Members

abbrev pub member_seen : TypeTable → Member → BodyMember
member_seen table member =
    record {
      declared = record { name = option_map name_seen member.name; of = type_at table member.of; width = member.width };
      written = member.align;
    }

abbrev pub members_seen : TypeTable → List Member → List BodyMember
members_seen table members = map (member_seen table) members

abbrev pub members_if : TypeTable → Option Member → List BodyMember
members_if table found = members_seen table (cons_option found [])

-- its type is of the table
abbrev pub IsMemberOver : TypeTable → Member → Type 0
IsMemberOver table member = IsTypeId table member.of

-- the member of an entry behind specifiers among which this alignment is written
abbrev pub member_with : UnitNodes → List Fact → (specified : ℕ) → Entry → TypeTree → BodyMember
member_with nodes facts specified entry type_ =
    record {
      declared = record { name = name_said (node_at nodes entry.declarator).name; of = type_; width = width_said facts entry.width };
      written = max specified entry.written;
    }

abbrev pub member_by : UnitNodes → List Fact → (specified : ℕ) → Entry → List BodyMember
member_by nodes facts specified entry =
    body_member (name_said (node_at nodes entry.declarator).name) (width_said facts entry.width) (max specified entry.written)
    (type_of_entry (node_at nodes entry.declarator).name (type_declared (fact_at facts entry.declarator)))

-- a declarator with this name declares a member of this type: one without a name is a bit-field
abbrev pub declares_member : (name : List ℕ) → TypeTree → Bool
declares_member name type_ = not (is_empty name) || is_some (integer_kind type_)

-- it is the specifier of the structure or union with this number, without a tag and with its members
abbrev pub is_tagless_number : UnitNodes → (number : ℕ) → (handle : ℕ) → Bool
is_tagless_number nodes number handle =
    is_tagless nodes handle (kind_at nodes handle) && (has_member_list nodes handle && nat_eq (node_at nodes handle).number number)

-- the type of a member without a declarator, if this specified type is one
abbrev pub nameless_type : UnitNodes → (declaration : ℕ) → Option TypeTree → Option TypeTree
nameless_type nodes declaration None = None
nameless_type nodes declaration (Some type_) =
    if list_any (λ handle. is_type_of_tagless nodes type_ handle) (children_at nodes (child_at nodes declaration 0)) then Some type_ else None

-- one of these handles is
abbrev pub is_tagless_among : UnitNodes → (aggregate : Option (ℕ × Bool)) → (handles : List ℕ) → Bool
is_tagless_among nodes None handles = false
is_tagless_among nodes (Some aggregate) handles = list_any (λ handle. is_tagless_number nodes aggregate.0 handle) handles

-- Bodies

abbrev pub body_seen : TypeTable → AggregateBody → DeclaredBody (List ℕ)
body_seen table body =
    record {
      body = layouts.body_seen (types_in table) body;
      members = map (λ member. (member_seen table member).declared) body.members;
    }

abbrev pub bodies_if : (number : ℕ) → Option (DeclaredBody (List ℕ)) → Bodies
bodies_if number None = []
bodies_if number (Some body) = (number, body) ∷ []

-- this is the first body that a specifier tells where it stands so: its only one, since no specifier has two lists of members
abbrev pub IsFirstBody : UnitNodes → List Fact → (specifier : ℕ) → Surrounding → Option (DeclaredBody (List ℕ)) → Type 0
IsFirstBody nodes facts specifier surrounding body =
    (surroundings : List Surrounding) → surrounding_at surroundings specifier ≡ surrounding
    → bodies_if (node_at nodes specifier).number body ≡ take 1 (specifier_bodies nodes surroundings facts specifier)

-- the members that parts of a list declare
abbrev pub list_members : UnitNodes → List Fact → (parts : List ℕ) → List BodyMember
list_members nodes facts parts = flat_map (λ part. members_of_part nodes facts (kind_at nodes part) part) parts

-- `packed` is one of them
abbrev pub are_packed : UnitNodes → (attributes : List ℕ) → Bool
are_packed nodes attributes = list_any (λ handle. is_packed_word (kind_at nodes handle)) attributes
