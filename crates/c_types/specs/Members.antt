-- The members of aggregates by their names: which they are, and how they are seen.
use Rattle.std.specs.Prelude.{◌≡◌, ℕ, ◌<◌, Bool, true, false, ◌||◌, List, Option, length, map, nat_eq}
use Rattle.std.specs.List.{AllByRecursion}
use Rattle.std.specs.Map.{lookup}
use Rattle.sparse_model.specs.declared.ids.NameId.{NameId}
use Rattle.sparse_model.specs.declared.space.Space.{Space}
use Rattle.sparse_model.specs.declared.space.Space.TheVariants as spaces
use Rattle.meaning_types.specs.Types.{TypeTree, Typed, AggregateTree}
use Rattle.meaning_layout.specs.Sizes.{Told}
use Rattle.meaning_layout.specs.Telling.{or_incomplete}
use Rattle.meaning_layout.specs.Members.{DeclaredBody, DeclaredMember, Names, bits_behind, first_bit_in, named_member, names_told}
use Rattle.meaning_layout.specs.Members as meaning
use Rattle.c_types.specs.declared.bodies.AggregateBody.{AggregateBody}
use Rattle.c_types.specs.declared.bodies.Member.{Member}
use Rattle.c_types.specs.declared.members.Anonymous.{Anonymous}
use Rattle.c_types.specs.declared.members.FoundMember.{FoundMember}
use Rattle.c_types.specs.Layouts.{body_seen}
use Rattle.c_types.specs.Rows.{type_numbered}
use Rattle.c_types.specs.Table.{TypeTable, space_of, types_in}

-- both are one name
abbrev pub is_name : NameId → NameId → Bool
is_name name other = nat_eq name.0 other.0

-- Bodies as they are declared

abbrev pub member_declared : List TypeTree → Member → DeclaredMember NameId
member_declared types member = record { name = member.name; of = type_numbered types member.of.0; width = member.width }

abbrev pub body_declared : List TypeTree → ℕ × AggregateBody → ℕ × DeclaredBody NameId
body_declared types entry = (entry.0, record { body = body_seen types entry.1; members = map (member_declared types) entry.1.members })

-- the names of the aggregates of these bodies, which were told in their order
abbrev pub names_of_bodies : List TypeTree → List (ℕ × AggregateBody) → ℕ → Names NameId
names_of_bodies types bodies = names_told (map (body_declared types) bodies)

-- the names of a table's aggregates
abbrev pub names_in : TypeTable → ℕ → Names NameId
names_in table = names_of_bodies (types_in table) table.bodies

-- the member that a name names in an aggregate of the table
abbrev pub member_in : TypeTable → ℕ → NameId → Option meaning.FoundMember
member_in table aggregate name = named_member is_name (names_in table aggregate) name

-- How members are seen

abbrev pub found_seen : List TypeTree → FoundMember → meaning.FoundMember
found_seen types found =
    record {
      place = found.place;
      bits = found.bits;
      of = type_numbered types found.of.0;
      width = found.width;
      qualifiers = record { is_const = found.is_const; is_volatile = found.is_volatile };
      flags = record { noderef = found.noderef; space = space_of found.space };
    }

abbrev pub names_seen : List TypeTree → List (NameId × FoundMember) → Names NameId
names_seen types entries = map (λ entry. (entry.0, found_seen types entry.1)) entries

-- the types of members are these
abbrev pub AreKnownNames : List TypeTree → List (NameId × FoundMember) → Type 0
AreKnownNames types entries = AllByRecursion (λ entry. entry.1.of.0 < length types) entries

-- a name names the same by what is kept as by the bodies
abbrev pub NameAlike : (ℕ → Names NameId) → (ℕ → Names NameId) → Type 0
NameAlike names others = (number : ℕ) (name : NameId) → lookup (is_name name) (names number) ≡ lookup (is_name name) (others number)

-- Anonymous members

-- the type of an anonymous structure or union
abbrev pub anonymous_type : Anonymous → TypeTree
anonymous_type anonymous =
    Typed (AggregateTree anonymous.number anonymous.is_union) (record { is_const = anonymous.is_const; is_volatile = anonymous.is_volatile })
    (record { noderef = anonymous.noderef; space = space_of anonymous.space })

-- whether the type is a structure or a union
abbrev pub is_aggregate : TypeTree → Bool
is_aggregate (Typed (AggregateTree number is_union) _ _) = true
is_aggregate (Typed base _ _) = false

-- the inner space, if it is one
abbrev pub inner_space : (outer inner : Space) → Space
inner_space outer spaces.None = outer
inner_space outer (spaces.Number number) = spaces.Number number
inner_space outer (spaces.Named name) = spaces.Named name

-- where one of its members begins in the aggregate around, which lies so in the own member at this place
abbrev pub bits_around : Told → Anonymous → (place : ℕ) → (bits : Option ℕ) → Option ℕ
bits_around told anonymous place bits = bits_behind anonymous.bits (bits_behind (first_bit_in place (or_incomplete (told anonymous.number anonymous.is_union))) bits)

-- a member of it as one of the aggregate around
abbrev pub found_around : Told → Anonymous → FoundMember → FoundMember
found_around told anonymous found =
    record {
      place = anonymous.place;
      bits = bits_around told anonymous found.place found.bits;
      of = found.of;
      width = found.width;
      is_const = anonymous.is_const || found.is_const;
      is_volatile = anonymous.is_volatile || found.is_volatile;
      noderef = anonymous.noderef || found.noderef;
      space = inner_space anonymous.space found.space;
    }

-- an anonymous member of it, likewise
abbrev pub anonymous_around : Told → (outer inner : Anonymous) → Anonymous
anonymous_around told outer inner =
    record {
      number = inner.number;
      is_union = inner.is_union;
      place = outer.place;
      bits = bits_around told outer inner.place inner.bits;
      is_const = outer.is_const || inner.is_const;
      is_volatile = outer.is_volatile || inner.is_volatile;
      noderef = outer.noderef || inner.noderef;
      space = inner_space outer.space inner.space;
    }

abbrev pub entries_around : Told → Anonymous → List (NameId × FoundMember) → List (NameId × FoundMember)
entries_around told anonymous entries = map (λ entry. (entry.0, found_around told anonymous entry.1)) entries
