-- Which member of a structure or a union a name names: one of its own, or one of an anonymous member of it (C11 6.5.2.3 p3,
-- 6.7.2.1 p13). The type of names is left open.
use Rattle.std.specs.Prelude.{ℕ, suc, ◌+◌, ◌==◌, nat_le, Bool, false, Option, Some, None, Result, Ok, Err, List, [], ◌∷◌, ◌++◌, map, slice_get, if◌then◌else◌}
use Rattle.std.specs.Map.{lookup}
use Rattle.meaning_types.specs.Types.{Qualifiers, Flags, TypeTree, Typed, AggregateTree, no_qualifiers, no_flags}
use Rattle.meaning_types.specs.Marks.{both, with_flags}
use Rattle.meaning_layout.specs.Layouts.{Layout, LayoutFault}
use Rattle.meaning_layout.specs.Sizes.{Told}
use Rattle.meaning_layout.specs.Telling.{ToldBody, field_width, nothing_told, or_incomplete, tell}

-- a member as it is declared; one that has neither a name nor a width is an anonymous structure or union
pub record DeclaredMember (Name : Type 0) : Type 0 where
  pub name : Option Name
  pub of : TypeTree
  pub width : Option ℕ

-- what a name names in an aggregate
pub record FoundMember : Type 0 where
  -- which of the aggregate's own members it is, or stands in
  pub place : ℕ
  -- how many bits lie before it in that one, where what stands around it has a layout
  pub bits : Option ℕ
  -- its type as it is declared
  pub of : TypeTree
  -- of a bit-field
  pub width : Option ℕ
  -- what the anonymous members around it add to its type
  pub qualifiers : Qualifiers
  pub flags : Flags

-- names with what they name, in order: a name that stands twice names the first one
abbrev pub Names : Type 0 → Type 0
Names Name = List (Name × FoundMember)

-- Places

-- the bits of the largest object: 2^43
abbrev pub most_bits : ℕ
most_bits = 8796093022208

-- so many bits further on, unless that is further than an object has
abbrev pub bits_behind : Option ℕ → Option ℕ → Option ℕ
bits_behind None bits = None
bits_behind (Some bit) None = None
bits_behind (Some bit) (Some bits) = if nat_le (bit + bits) most_bits then Some (bit + bits) else None

-- where the own member with this number begins, if there is one
abbrev pub first_bit_in : ℕ → Result Layout LayoutFault → Option ℕ
first_bit_in place (Err fault) = None
first_bit_in place (Ok layout) = slice_get layout.first_bits place

-- where a member that is found begins in an aggregate with this layout
abbrev pub member_bits : Result Layout LayoutFault → FoundMember → Option ℕ
member_bits layout found = bits_behind (first_bit_in found.place layout) found.bits

-- Members

-- one of an anonymous member with this layout, which has these qualifiers and flags
abbrev pub anonymous_member : ℕ → Result Layout LayoutFault → Qualifiers → Flags → FoundMember → FoundMember
anonymous_member place layout qualifiers flags found =
    record {
      place = place;
      bits = member_bits layout found;
      of = found.of;
      width = found.width;
      qualifiers = both qualifiers found.qualifiers;
      flags = with_flags flags found.flags;
    }

module _ {Name : Type 0} where
  -- an aggregate's own
  abbrev pub own_member : ℕ → DeclaredMember Name → FoundMember
  own_member place member =
      record { place = place; bits = Some 0; of = member.of; width = field_width member.of member.width; qualifiers = no_qualifiers; flags = no_flags }

  -- the names that an anonymous member of this type brings
  abbrev pub anonymous_names : Told → (ℕ → Names Name) → ℕ → TypeTree → Names Name
  anonymous_names told names place (Typed (AggregateTree number is_union) qualifiers flags) =
      map (λ entry. (entry.0, anonymous_member place (or_incomplete (told number is_union)) qualifiers flags entry.1)) (names number)
  anonymous_names told names place (Typed base _ _) = []

  -- a bit-field without a name brings none
  abbrev pub unnamed_names : Told → (ℕ → Names Name) → ℕ → (width : Option ℕ) → TypeTree → Names Name
  unnamed_names told names place None of = anonymous_names told names place of
  unnamed_names told names place (Some width) of = []

  abbrev pub names_by : Told → (ℕ → Names Name) → ℕ → Option Name → DeclaredMember Name → Names Name
  names_by told names place (Some name) member = (name, own_member place member) ∷ []
  names_by told names place None member = unnamed_names told names place member.width member.of

  -- the names that one member brings, and those of members from this place on
  abbrev pub names_of_member : Told → (ℕ → Names Name) → ℕ → DeclaredMember Name → Names Name
  names_of_member told names place member = names_by told names place member.name member

  abbrev pub names_of_members : Told → (ℕ → Names Name) → ℕ → List (DeclaredMember Name) → Names Name
  names_of_members told names place [] = []
  names_of_members told names place (member ∷ members) =
      names_of_member told names place member ++ names_of_members told names (suc place) members

-- Telling

-- a body with the members as they are declared
pub record DeclaredBody (Name : Type 0) : Type 0 where
  pub body : ToldBody
  pub members : List (DeclaredMember Name)

module _ {Name : Type 0} where
  -- what was told first stays
  abbrev pub names_before : Option (Result Layout LayoutFault) → (earlier later : Names Name) → Names Name
  names_before None earlier later = later
  names_before (Some made) earlier later = earlier

  -- the members of one more aggregate, by those that were told before
  abbrev pub tell_names : Told → (ℕ → Names Name) → ℕ → List (DeclaredMember Name) → ℕ → Names Name
  tell_names told names aggregate members number =
      if number == aggregate then names_before (told number false) (names number) (names_of_members told names 0 members) else names number

  -- the names of aggregates that are told in this order
  abbrev pub names_in_order : Told → (ℕ → Names Name) → List (ℕ × DeclaredBody Name) → ℕ → Names Name
  names_in_order told names [] = names
  names_in_order told names (entry ∷ bodies) =
      names_in_order (tell told entry.0 entry.1.body) (tell_names told names entry.0 entry.1.members) bodies

  abbrev pub no_names : ℕ → Names Name
  no_names number = []

  -- the names of each aggregate, by its number
  abbrev pub names_told : List (ℕ × DeclaredBody Name) → ℕ → Names Name
  names_told bodies = names_in_order nothing_told no_names bodies

  -- the member that this name names
  abbrev pub named_member : (Name → Name → Bool) → Names Name → Name → Option FoundMember
  named_member are_equal names name = lookup (are_equal name) names
