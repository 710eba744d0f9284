-- The parts of objects over a table of types. A name is its number alone.
use Rattle.std.specs.Prelude.{◌≡◌, ℕ, zero, suc, Bool, true, false, ◌&&◌, is_some, is_none, List, [], ◌∷◌, drop, map, Option, Some, None, option_map, if◌then◌else◌}
use Rattle.sparse_model.specs.declared.ids.TypeId.{TypeId}
use Rattle.meaning_types.specs.Types.{TypeTree, Typed, ArrayTree, AggregateTree}
use Rattle.meaning_layout.specs.Members.{DeclaredMember}
use Rattle.meaning_initializers.specs.Parts as meaning
use Rattle.meaning_initializers.specs.Parts.{bounded, is_within, member_from}
use Rattle.c_types.specs.declared.bodies.AggregateBody.{AggregateBody}
use Rattle.c_types.specs.declared.bodies.Member.{Member}
use Rattle.c_types.specs.declared.outline.Outline.{Outline}
use Rattle.c_types.specs.declared.outline.Outline.TheVariants as outlines
use Rattle.c_types.specs.Rows.{type_numbered}
use Rattle.c_types.specs.Table.{TypeTable, IsTypeId, body_in, type_at, types_in}
use Rattle.node_facts.specs.Facts.{name_seen}
use Rattle.initializer_levels.specs.declared.parts.Part.{Part}
use Rattle.initializer_levels.specs.declared.parts.PartType.{PartType}
use Rattle.initializer_levels.specs.declared.parts.Parts.{Parts}
use Rattle.initializer_levels.specs.declared.parts.Parts.TheVariants as parts

-- Types and parts

abbrev pub type_seen : TypeTable → PartType → TypeTree
type_seen table of = if of.is_member then bounded (type_at table of.of) else type_at table of.of

abbrev pub part_seen : TypeTable → Part → meaning.Part
part_seen table part = record { number = part.number; type_ = type_seen table part.of }

-- its type is of the table
abbrev pub IsKnownPart : TypeTable → Part → Type 0
IsKnownPart table part = IsTypeId table part.of.of

-- What an object has for parts

pub data PartsTree : Type 0 where
  -- elements, and how many, where that is known
  Elements : TypeTree → Option ℕ → PartsTree
  -- the members of an aggregate
  Members : ℕ → (is_union : Bool) → PartsTree
  -- in braces it is its own only part
  Itself : PartsTree

abbrev pub parts_in : TypeTree → PartsTree
parts_in (Typed (ArrayTree element length) qualifiers flags) = Elements element length
parts_in (Typed (AggregateTree number is_union) qualifiers flags) = Members number is_union
parts_in (Typed base qualifiers flags) = Itself

abbrev pub parts_seen : TypeTable → Parts → PartsTree
parts_seen table (parts.Elements element count) = Elements (type_at table element) count
parts_seen table (parts.Members number is_union) = Members number is_union
parts_seen table parts.Itself = Itself

abbrev pub IsKnownParts : TypeTable → Parts → Type 0
IsKnownParts table (parts.Elements element count) = IsTypeId table element
IsKnownParts table (parts.Members number is_union) = Unit {0}
IsKnownParts table parts.Itself = Unit {0}

abbrev pub is_elements : Parts → Bool
is_elements (parts.Elements element count) = true
is_elements (parts.Members number is_union) = false
is_elements parts.Itself = false

abbrev pub is_own_part : Parts → Bool
is_own_part (parts.Elements element count) = false
is_own_part (parts.Members number is_union) = false
is_own_part parts.Itself = true

-- an array without a length has no elements where it is a member
abbrev pub bounded_length : (is_member : Bool) → Option ℕ → Option ℕ
bounded_length is_member (Some count) = Some count
bounded_length is_member None = if is_member then Some 0 else None

-- of an array these; of all else the outline says them
abbrev pub by_outline : Outline → PartsTree → PartsTree
by_outline outlines.Array of_array = of_array
by_outline (outlines.Aggregate number is_union) of_array = Members number is_union
by_outline outline of_array = Itself

-- Members

abbrev pub member_seen : List TypeTree → Member → DeclaredMember (List ℕ)
member_seen types member = record { name = option_map name_seen member.name; of = type_numbered types member.of.0; width = member.width }

abbrev pub members_seen : List TypeTree → Option AggregateBody → List (DeclaredMember (List ℕ))
members_seen types None = []
members_seen types (Some body) = map (member_seen types) body.members

-- the members of an aggregate, once they were told
abbrev pub members_in : TypeTable → ℕ → List (DeclaredMember (List ℕ))
members_in table aggregate = members_seen (types_in table) (body_in table aggregate)

abbrev pub is_member_passed_over : Member → Bool
is_member_passed_over member = is_some member.width && is_none member.name

abbrev pub member_type : Member → PartType
member_type member = record { of = member.of; is_member = true }

-- the first of these members that is a part, where they are those from this number on
abbrev pub first_of_members : (number : ℕ) → List Member → Option Part
first_of_members number [] = None
first_of_members number (member ∷ members) =
    if is_member_passed_over member then first_of_members (suc number) members else Some (record { number = number; of = member_type member })

-- Next parts

-- by what the object has for parts
abbrev pub from_parts : (members : ℕ → List (DeclaredMember (List ℕ))) → PartsTree → TypeTree → ℕ → Option meaning.Part
from_parts members (Elements element length) type_ number = if is_within number length then Some (record { number = number; type_ = element }) else None
from_parts members (Members aggregate is_union) type_ number = member_from (members aggregate) is_union number
from_parts members Itself type_ zero = Some (record { number = 0; type_ = type_ })
from_parts members Itself type_ (suc number) = None

-- this is what the table knows of members
abbrev pub AreMembersIn : TypeTable → meaning.Aggregates → Type 0
AreMembersIn table aggregates = (number : ℕ) → aggregates.members number ≡ members_in table number

-- of a union the first one alone
abbrev pub first_among : List Member → (is_union : Bool) → (number : ℕ) → Option Part
first_among members false number = first_of_members number (drop number members)
first_among members true zero = first_of_members 0 members
first_among members true (suc number) = None

abbrev pub element_at : (element : TypeId) → (count : Option ℕ) → (number : ℕ) → Option Part
element_at element count number =
    if is_within number count then Some (record { number = number; of = record { of = element; is_member = false } }) else None

abbrev pub own_part : PartType → (number : ℕ) → Option Part
own_part of zero = Some (record { number = 0; of = of })
own_part of (suc number) = None
