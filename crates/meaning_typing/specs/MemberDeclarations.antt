-- What a body declares (C11 6.7.2.1): its members in order, each with its type, its width and its alignment.
use Rattle.std.specs.Prelude.{ℕ, zero, suc, ◌+◌, nat_eq, max, Bool, true, false, ◌&&◌, ◌||◌, not, is_some, List, [], ◌∷◌, ◌++◌, map, Option, Some, None, option_map, if◌then◌else◌}
use Rattle.std.specs.List.{flat_map, list_any}
use Rattle.vocabulary.specs.declared.node_kind.NodeKind.{NodeKind}
use Rattle.vocabulary.specs.declared.node_kind.NodeKind.TheVariants as kinds
use Rattle.meaning_types.specs.Types.{TypeTree, Typed, AggregateTree}
use Rattle.meaning_operands.specs.Operands.{is_integer}
use Rattle.meaning_layout.specs.Members.{DeclaredBody, DeclaredMember}
use Rattle.meaning_layout.specs.Telling.{ToldMember}
use Rattle.meaning_typing.specs.Units.{UnitNodes, node_at, kind_at, children_at, child_at, children_from}
use Rattle.meaning_typing.specs.Surroundings.{Surrounding, surrounding_at}
use Rattle.meaning_typing.specs.Facts.{Fact, Unknown, Declared, SpecifiedFact, fact_at}
use Rattle.meaning_typing.specs.Specifiers.{attributes_among, marks_among, with_marks}
use Rattle.meaning_typing.specs.Declarators.{derived_by, length_said, lists_in_front, specifiers_of, type_declared}
use Rattle.meaning_typing.specs.Aggregates.{Bodies}
use Rattle.meaning_typing.specs.Tags.{has_body, is_tagged}

-- Members as they stand behind the specifiers of their declaration: declarators, widths, and lists of attributes behind both

pub record MemberEntry : Type 0 where
  pub declarator : ℕ
  pub width : Option ℕ
  pub lists : List ℕ

-- the members behind a part, and before them a width and lists that belong to what stands in front
pub record PendingMembers : Type 0 where
  pub width : Option ℕ
  pub lists : List ℕ
  pub entries : List MemberEntry

abbrev pub nothing_pending : PendingMembers
nothing_pending = record { width = None; lists = []; entries = [] }

abbrev pub pending_with : NodeKind → (handle : ℕ) → PendingMembers → PendingMembers
pending_with kinds.AttributeList handle pending = record pending { lists = handle ∷ pending.lists }
pending_with kinds.BitFieldWidth handle pending = record pending { width = Some handle }
pending_with kinds.Declarator handle pending =
    record { width = None; lists = []; entries = record { declarator = handle; width = pending.width; lists = pending.lists } ∷ pending.entries }
pending_with kind handle pending = pending

abbrev pub pending_from : UnitNodes → (handles : List ℕ) → PendingMembers
pending_from nodes [] = nothing_pending
pending_from nodes (handle ∷ handles) = pending_with (kind_at nodes handle) handle (pending_from nodes handles)

abbrev pub member_entries : UnitNodes → (declaration : ℕ) → List MemberEntry
member_entries nodes declaration = (pending_from nodes (children_from nodes declaration 1)).entries

-- Declarators of members

-- a width stands between a declarator and its attributes
abbrev pub unless_width : NodeKind → (handle : ℕ) → (handles : List ℕ) → List ℕ
unless_width kinds.BitFieldWidth handle handles = handles
unless_width kind handle handles = handle ∷ handles

abbrev pub behind_width : UnitNodes → (handles : List ℕ) → List ℕ
behind_width nodes [] = []
behind_width nodes (handle ∷ handles) = unless_width (kind_at nodes handle) handle handles

abbrev pub lists_of_member : UnitNodes → (parent place : ℕ) → List ℕ
lists_of_member nodes parent place = lists_in_front nodes (behind_width nodes (children_from nodes parent (place + 1)))

abbrev pub member_declared : (name : List ℕ) → TypeTree → Fact
member_declared name type_ =
    Declared (record { name = name; type_ = type_; is_typedef = false; has_linkage = false; is_static = false; is_register = false })

abbrev pub member_declared_if : (name : List ℕ) → Option TypeTree → Fact
member_declared_if name None = Unknown
member_declared_if name (Some type_) = member_declared name type_

abbrev pub member_type_said : UnitNodes → List Fact → (handle : ℕ) → Surrounding → Option SpecifiedFact → Option TypeTree
member_type_said nodes facts handle surrounding None = None
member_type_said nodes facts handle surrounding (Some specifiers) =
    option_map (λ derived. with_marks (node_at nodes surrounding.parent).token (marks_among nodes (lists_of_member nodes surrounding.parent surrounding.place)) derived)
    (derived_by nodes facts (node_at nodes surrounding.parent).token (children_at nodes handle) specifiers.type_)

-- a member by its declarator
abbrev pub member_declarator_fact : UnitNodes → List Fact → (handle : ℕ) → Surrounding → Fact
member_declarator_fact nodes facts handle surrounding =
    member_declared_if (node_at nodes handle).name (member_type_said nodes facts handle surrounding (specifiers_of nodes facts surrounding.parent))

-- Alignments

abbrev pub alignment_by : (number : ℕ) → NodeKind → ℕ
alignment_by number kinds.AlignedAttribute = number
alignment_by number kind = 1

-- the largest that is written, and 1 without one (6.7.5 p6)
abbrev pub alignment_among : UnitNodes → (attributes : List ℕ) → ℕ
alignment_among nodes [] = 1
alignment_among nodes (handle ∷ handles) =
    max (alignment_by (node_at nodes handle).number (kind_at nodes handle)) (alignment_among nodes handles)

abbrev pub is_packed_word : NodeKind → Bool
is_packed_word kinds.PackedAttribute = true
is_packed_word kind = false

-- the attributes of specifiers but those directly behind a body, which belong to that, and those before a tag, which say nothing of a
-- layout
abbrev pub attributes_in : UnitNodes → (is_behind_body : Bool) → NodeKind → (handle : ℕ) → List ℕ
attributes_in nodes false kinds.AttributeList handle = children_at nodes handle
attributes_in nodes is_behind_body kind handle = []

abbrev pub is_still_behind : UnitNodes → (is_behind_body : Bool) → NodeKind → (handle : ℕ) → Bool
is_still_behind nodes is_behind_body kinds.AttributeList handle = is_behind_body
is_still_behind nodes is_behind_body kind handle = is_tagged kind && has_body nodes handle

abbrev pub attributes_apart : UnitNodes → (is_behind_body : Bool) → List ℕ → List ℕ
attributes_apart nodes is_behind_body [] = []
attributes_apart nodes is_behind_body (handle ∷ handles) =
    attributes_in nodes is_behind_body (kind_at nodes handle) handle
    ++ attributes_apart nodes (is_still_behind nodes is_behind_body (kind_at nodes handle) handle) handles

-- what is written at a member: among its specifiers, and behind it
abbrev pub member_alignment : UnitNodes → (declaration : ℕ) → (lists : List ℕ) → ℕ
member_alignment nodes declaration lists =
    max (alignment_among nodes (attributes_apart nodes false (children_at nodes (child_at nodes declaration 0))))
    (alignment_among nodes (attributes_among nodes lists))

-- Members of one declaration

-- a member with what its aggregate asks of it
pub record BodyMember : Type 0 where
  pub declared : DeclaredMember (List ℕ)
  pub written : ℕ

-- the number of a width, if it is one
abbrev pub width_said : List Fact → Option ℕ → Option ℕ
width_said facts None = None
width_said facts (Some width) = length_said (fact_at facts width)

abbrev pub body_member : (name : Option (List ℕ)) → (width : Option ℕ) → (written : ℕ) → Option TypeTree → List BodyMember
body_member name width written None = []
body_member name width written (Some type_) = record { declared = record { name = name; of = type_; width = width }; written = written } ∷ []

abbrev pub specified_type : Option SpecifiedFact → Option TypeTree
specified_type specifiers = option_map (λ specified. specified.type_) specifiers

abbrev pub is_empty : List ℕ → Bool
is_empty [] = true
is_empty (byte ∷ bytes) = false

-- a declarator that has no name is that of a bit-field
abbrev pub name_said : (name : List ℕ) → Option (List ℕ)
name_said [] = None
name_said (byte ∷ bytes) = Some (byte ∷ bytes)

-- one without a name has a type of integers, since it is a bit-field (p5, p12)
abbrev pub type_of_entry : (name : List ℕ) → Option TypeTree → Option TypeTree
type_of_entry [] None = None
type_of_entry [] (Some type_) = if is_integer type_ then Some type_ else None
type_of_entry (byte ∷ bytes) type_ = type_

-- of what isn't known there is none
abbrev pub entry_member : UnitNodes → List Fact → (declaration : ℕ) → MemberEntry → List BodyMember
entry_member nodes facts declaration entry =
    body_member (name_said (node_at nodes entry.declarator).name) (width_said facts entry.width) (member_alignment nodes declaration entry.lists)
    (type_of_entry (node_at nodes entry.declarator).name (type_declared (fact_at facts entry.declarator)))

-- a structure or union without a tag
abbrev pub is_tagless : UnitNodes → (handle : ℕ) → NodeKind → Bool
is_tagless nodes handle kinds.StructSpecifier = is_empty (node_at nodes handle).name
is_tagless nodes handle kinds.UnionSpecifier = is_empty (node_at nodes handle).name
is_tagless nodes handle kind = false

abbrev pub is_tagless_among : UnitNodes → List ℕ → Bool
is_tagless_among nodes handles = list_any (λ handle. is_tagless nodes handle (kind_at nodes handle)) handles

abbrev pub is_member_list : NodeKind → Bool
is_member_list kinds.MemberList = true
is_member_list kind = false

abbrev pub has_member_list : UnitNodes → (handle : ℕ) → Bool
has_member_list nodes handle = list_any (λ child. is_member_list (kind_at nodes child)) (children_at nodes handle)

-- the type is that of this specifier, which has members and no tag
abbrev pub is_type_of_tagless : UnitNodes → TypeTree → (handle : ℕ) → Bool
is_type_of_tagless nodes (Typed (AggregateTree number is_union) _ _) handle =
    is_tagless nodes handle (kind_at nodes handle) && (has_member_list nodes handle && nat_eq (node_at nodes handle).number number)
is_type_of_tagless nodes (Typed base _ _) handle = false

-- it is a member without a declarator (p13)
abbrev pub nameless_of_type : UnitNodes → (declaration : ℕ) → Option TypeTree → List BodyMember
nameless_of_type nodes declaration None = []
nameless_of_type nodes declaration (Some type_) =
    if list_any (λ handle. is_type_of_tagless nodes type_ handle) (children_at nodes (child_at nodes declaration 0))
    then body_member None None (member_alignment nodes declaration []) (Some type_)
    else []

abbrev pub nameless_member : UnitNodes → List Fact → (declaration : ℕ) → List BodyMember
nameless_member nodes facts declaration = nameless_of_type nodes declaration (specified_type (specifiers_of nodes facts declaration))

-- without declarators nothing else is one
abbrev pub members_by : UnitNodes → List Fact → (declaration : ℕ) → List MemberEntry → List BodyMember
members_by nodes facts declaration [] = nameless_member nodes facts declaration
members_by nodes facts declaration (entry ∷ entries) =
    flat_map (λ member. entry_member nodes facts declaration member) (entry ∷ entries)

abbrev pub members_of_part : UnitNodes → List Fact → NodeKind → (handle : ℕ) → List BodyMember
members_of_part nodes facts kinds.MemberDeclaration handle = members_by nodes facts handle (member_entries nodes handle)
members_of_part nodes facts kind handle = []

abbrev pub members_of_list : UnitNodes → List Fact → (list : ℕ) → List BodyMember
members_of_list nodes facts list = flat_map (λ part. members_of_part nodes facts (kind_at nodes part) part) (children_at nodes list)

-- Bodies

-- only a bit-field is no member with a name where it has none
abbrev pub is_named_member : DeclaredMember (List ℕ) → Bool
is_named_member member = is_some member.name || not (is_some member.width)

abbrev pub told_member : BodyMember → ToldMember
told_member member =
    record { of = member.declared.of; width = member.declared.width; named = is_named_member member.declared; written = member.written }

-- of these members, with the attributes directly behind the brace
abbrev pub declared_body : UnitNodes → (attributes : List ℕ) → List BodyMember → DeclaredBody (List ℕ)
declared_body nodes attributes members =
    record {
      body =
          record {
            members = map told_member members;
            packed = list_any (λ handle. is_packed_word (kind_at nodes handle)) attributes;
            written = alignment_among nodes attributes;
          };
      members = map (λ member. member.declared) members;
    }

abbrev pub attributes_behind : UnitNodes → Surrounding → List ℕ
attributes_behind nodes surrounding = attributes_among nodes (lists_in_front nodes (children_from nodes surrounding.parent (surrounding.place + 1)))

-- the lists of members of a specifier: one, or none
abbrev pub member_list : NodeKind → (handle : ℕ) → List ℕ
member_list kinds.MemberList handle = handle ∷ []
member_list kind handle = []

abbrev pub member_lists : UnitNodes → (specifier : ℕ) → List ℕ
member_lists nodes specifier = flat_map (λ child. member_list (kind_at nodes child) child) (children_at nodes specifier)

abbrev pub specifier_bodies : UnitNodes → List Surrounding → List Fact → (handle : ℕ) → Bodies
specifier_bodies nodes surroundings facts handle =
    map (λ list. ((node_at nodes handle).number, declared_body nodes (attributes_behind nodes (surrounding_at surroundings handle)) (members_of_list nodes facts list)))
    (member_lists nodes handle)

abbrev pub bodies_at : UnitNodes → List Surrounding → List Fact → (handle : ℕ) → NodeKind → Bodies
bodies_at nodes surroundings facts handle kinds.StructSpecifier = specifier_bodies nodes surroundings facts handle
bodies_at nodes surroundings facts handle kinds.UnionSpecifier = specifier_bodies nodes surroundings facts handle
bodies_at nodes surroundings facts handle kind = []

-- those of the first so many nodes: a body is told with its specifier
abbrev pub bodies_before : UnitNodes → List Surrounding → List Fact → (count : ℕ) → Bodies
bodies_before nodes surroundings facts zero = []
bodies_before nodes surroundings facts (suc count) =
    bodies_before nodes surroundings facts count ++ bodies_at nodes surroundings facts count (kind_at nodes count)
