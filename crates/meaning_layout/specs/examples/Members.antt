-- Worked examples: members by their names, which are numbers here.
use Rattle.std.specs.Prelude.{◌≡◌, ℕ, nat_eq, false, true, Option, Some, None, List, [], ◌∷◌, map, option_map}
use Rattle.meaning_types.specs.IntKind.TheVariants as kinds
use Rattle.meaning_types.specs.Types.{Qualifiers, Flags, TypeTree, Typed, AggregateTree, no_qualifiers, no_flags}
use Rattle.meaning_types.specs.examples.Types.{plain, only_const, only_noderef}
use Rattle.meaning_types.specs.examples.Derived.{structure_at, union_at}
use Rattle.meaning_layout.specs.Sizes.{Told}
use Rattle.meaning_layout.specs.Telling.{ToldMember, nothing_told, or_incomplete, told_in_order}
use Rattle.meaning_layout.specs.Members.{DeclaredBody, DeclaredMember, FoundMember, member_bits, named_member, names_told}
use Rattle.meaning_layout.specs.examples.Telling.{told_body}

abbrev pub declared : Option ℕ → TypeTree → DeclaredMember ℕ
declared name of = record { name = name; of = of; width = None }

abbrev pub declared_field : Option ℕ → ℕ → DeclaredMember ℕ
declared_field name width = record { name = name; of = plain kinds.Int; width = Some width }

abbrev pub told_member : DeclaredMember ℕ → ToldMember
told_member member = record { of = member.of; width = member.width; named = true; written = 1 }

abbrev pub declared_body : List (DeclaredMember ℕ) → DeclaredBody ℕ
declared_body members = record { body = told_body (map told_member members); members = members }

-- `union 3 { short x; int y : 3; }`, `struct 2 { int a; union 3; int : 5; }` and
-- `struct 1 { char c; const struct 2 NODEREF; int a; struct 2 s; }`, where x is 10, y 11, a 12, c 13, s 14
abbrev pub innermost : DeclaredBody ℕ
innermost = declared_body (declared (Some 10) (plain kinds.Short) ∷ declared_field (Some 11) 3 ∷ [])

abbrev pub inner : DeclaredBody ℕ
inner = declared_body (declared (Some 12) (plain kinds.Int) ∷ declared None (union_at 3) ∷ declared_field None 5 ∷ [])

abbrev pub outer : DeclaredBody ℕ
outer =
    declared_body
    (declared (Some 13) (plain kinds.Char) ∷ declared None (Typed (AggregateTree 2 false) only_const only_noderef)
    ∷ declared (Some 12) (plain kinds.Int) ∷ declared (Some 14) (structure_at 2) ∷ [])

abbrev pub bodies : List (ℕ × DeclaredBody ℕ)
bodies = (3, innermost) ∷ (2, inner) ∷ (1, outer) ∷ []

abbrev pub told : Told
told = told_in_order nothing_told (map (λ entry. (entry.0, entry.1.body)) bodies)

abbrev pub found : (aggregate name : ℕ) → Option FoundMember
found aggregate name = named_member nat_eq (names_told bodies aggregate) name

-- where it begins in the structure with this number
abbrev pub bit_found : (aggregate name : ℕ) → Option (Option ℕ)
bit_found aggregate name = option_map (member_bits (or_incomplete (told aggregate false))) (found aggregate name)

abbrev pub found_as : (place : ℕ) → Option ℕ → TypeTree → Option ℕ → Qualifiers → Flags → Option FoundMember
found_as place bits of width qualifiers flags =
    Some (record { place = place; bits = bits; of = of; width = width; qualifiers = qualifiers; flags = flags })

pub record NameExamples : Type 0 where
  pub own : found 1 13 ≡ found_as 0 (Some 0) (plain kinds.Char) None no_qualifiers no_flags
  pub anonymous : found 2 10 ≡ found_as 1 (Some 0) (plain kinds.Short) None no_qualifiers no_flags
  -- through two, of which the outer one has qualifiers and flags
  pub bit_field : found 1 11 ≡ found_as 1 (Some 32) (plain kinds.Int) (Some 3) only_const only_noderef
  pub first_of_two : found 1 12 ≡ found_as 1 (Some 0) (plain kinds.Int) None only_const only_noderef
  -- the members of a member with a name are no members
  pub no_name : found 3 12 ≡ None
  pub named : found 1 14 ≡ found_as 3 (Some 0) (structure_at 2) None no_qualifiers no_flags
  pub not_told : found 4 12 ≡ None
  pub own_bit : bit_found 1 14 ≡ Some (Some 160)
  pub anonymous_bit : bit_found 1 11 ≡ Some (Some 64)
  -- an aggregate that was told later isn't seen, and what was told first stays
  pub too_early : names_told ((1, outer) ∷ (2, inner) ∷ []) 1 ≡ names_told ((1, outer) ∷ []) 1
  pub told_twice : names_told ((3, innermost) ∷ (3, inner) ∷ []) 3 ≡ names_told ((3, innermost) ∷ []) 3
