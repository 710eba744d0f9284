-- What is known of the structures and unions of a unit, by their numbers: layouts, members by their names, and which of them
-- have a const member.
use Rattle.std.specs.Prelude.{ℕ, nat_eq, Bool, false, ◌||◌, List, [], ◌∷◌, map, Option, Some, None, Result, if◌then◌else◌}
use Rattle.std.specs.List.{list_any}
use Rattle.meaning_types.specs.Types.{TypeTree, Typed, ArrayTree, AggregateTree}
use Rattle.meaning_layout.specs.Layouts.{Layout, LayoutFault}
use Rattle.meaning_layout.specs.Members.{DeclaredBody, DeclaredMember, Names, names_told}
use Rattle.meaning_layout.specs.Sizes.{Told}
use Rattle.meaning_layout.specs.Telling.{nothing_told, tell, told_in_order}

pub record KnownAggregates : Type 0 where
  pub told : Told
  pub names : ℕ → Names (List ℕ)
  -- one of its members is const, or has such a member or element (C11 6.3.2.1 p1)
  pub has_const : ℕ → Bool

-- the bodies of a unit, in the order in which they end, with the numbers of their aggregates
abbrev pub Bodies : Type 0
Bodies = List (ℕ × DeclaredBody (List ℕ))

-- Const members

-- an object of this type can't be written whole: it is const, or something in it is
abbrev pub is_const_within : (ℕ → Bool) → TypeTree → Bool
is_const_within has_const (Typed (ArrayTree element length) qualifiers flags) = qualifiers.is_const || is_const_within has_const element
is_const_within has_const (Typed (AggregateTree number is_union) qualifiers flags) = qualifiers.is_const || has_const number
is_const_within has_const (Typed base qualifiers flags) = qualifiers.is_const

abbrev pub is_any_const : (ℕ → Bool) → List (DeclaredMember (List ℕ)) → Bool
is_any_const has_const members = list_any (λ member. is_const_within has_const member.of) members

-- what was told first stays
abbrev pub const_before : Option (Result Layout LayoutFault) → (earlier later : Bool) → Bool
const_before None earlier later = later
const_before (Some made) earlier later = earlier

abbrev pub tell_const : Told → (ℕ → Bool) → (aggregate : ℕ) → List (DeclaredMember (List ℕ)) → ℕ → Bool
tell_const told has_const aggregate members number =
    if nat_eq number aggregate then const_before (told number false) (has_const number) (is_any_const has_const members) else has_const number

abbrev pub const_in_order : Told → (ℕ → Bool) → Bodies → ℕ → Bool
const_in_order told has_const [] = has_const
const_in_order told has_const (entry ∷ bodies) =
    const_in_order (tell told entry.0 entry.1.body) (tell_const told has_const entry.0 entry.1.members) bodies

-- All of it

abbrev pub aggregates_of : Bodies → KnownAggregates
aggregates_of bodies =
    record {
      told = told_in_order nothing_told (map (λ entry. (entry.0, entry.1.body)) bodies);
      names = names_told bodies;
      has_const = const_in_order nothing_told (λ number. false) bodies;
    }
