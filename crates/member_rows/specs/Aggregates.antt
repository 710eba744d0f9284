-- What a table of types knows of the structures and unions of a unit. A name is its number alone.
use Rattle.std.specs.Prelude.{ℕ, ◌+◌, ◌/◌, nat_le, List, map, option_map, Option, Some, None, Result, if◌then◌else◌}
use Rattle.sparse_model.specs.declared.ids.NameId.{NameId}
use Rattle.meaning_types.specs.Types.{TypeTree, Typed, AggregateTree}
use Rattle.meaning_layout.specs.Layouts.{Layout, LayoutFault, most_bytes}
use Rattle.meaning_layout.specs.Members.{DeclaredBody, DeclaredMember, FoundMember, member_bits}
use Rattle.meaning_layout.specs.Telling.{or_incomplete}
use Rattle.meaning_typing.specs.Aggregates.{Bodies, KnownAggregates, aggregates_of}
use Rattle.meaning_typing.specs.Members.{Selection, NotAggregate, NotComplete, Selected}
use Rattle.meaning_typing.specs.Operators.{has_no_size}
use Rattle.c_types.specs.Layouts.{told_in}
use Rattle.c_types.specs.Members.{body_declared, member_in}
use Rattle.c_types.specs.Table.{TypeTable, types_in}
use Rattle.node_facts.specs.Facts.{name_seen}

-- Bodies

abbrev pub member_spelled : DeclaredMember NameId → DeclaredMember (List ℕ)
member_spelled member = record { name = option_map name_seen member.name; of = member.of; width = member.width }

abbrev pub body_spelled : ℕ × DeclaredBody NameId → ℕ × DeclaredBody (List ℕ)
body_spelled entry = (entry.0, record { body = entry.1.body; members = map member_spelled entry.1.members })

-- the bodies that a table was told, in their order
abbrev pub bodies_in : TypeTable → Bodies
bodies_in table = map body_spelled (map (body_declared (types_in table)) table.bodies)

-- what they tell
abbrev pub aggregates_in : TypeTable → KnownAggregates
aggregates_in table = aggregates_of (bodies_in table)

-- Members

-- what a name names by the layouts and the names of a table
abbrev pub selection_in : TypeTable → NameId → TypeTree → Selection
selection_in table name (Typed (AggregateTree number is_union) qualifiers flags) =
    if has_no_size (told_in table) (Typed (AggregateTree number is_union) qualifiers flags) then NotComplete
    else Selected qualifiers flags (member_in table number name)
selection_in table name (Typed base qualifiers flags) = NotAggregate

-- Offsets

-- so many bytes, unless that is more than an object may have
abbrev pub bytes_within : ℕ → Option ℕ
bytes_within bytes = if nat_le bytes most_bytes then Some bytes else None

-- a member that begins at this bit, where so many bytes lie before its aggregate
abbrev pub bytes_at_bit : (bytes : ℕ) → (bit : Option ℕ) → Option ℕ
bytes_at_bit bytes None = None
bytes_at_bit bytes (Some bit) = bytes_within (bytes + bit / 8)

abbrev pub bytes_of_member : (bytes : ℕ) → Result Layout LayoutFault → Option FoundMember → Option ℕ
bytes_of_member bytes layout None = None
bytes_of_member bytes layout (Some found) = bytes_at_bit bytes (member_bits layout found)

-- how many bytes lie before a member of an aggregate, by the layouts and the names of a table
abbrev pub bytes_in : TypeTable → NameId → TypeTree → (bytes : ℕ) → Option ℕ
bytes_in table name (Typed (AggregateTree number is_union) qualifiers flags) bytes =
    bytes_of_member bytes (or_incomplete (told_in table number is_union)) (member_in table number name)
bytes_in table name (Typed base qualifiers flags) bytes = None
