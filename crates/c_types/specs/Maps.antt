-- The names of aggregates by their numbers, as they are kept: where each stands among the chains.
use Rattle.std.specs.Prelude.{◌≡◌, ℕ, ◌<◌, ◌≤◌, All, Bool, List, [], Option, Some, None, IsSome, length, map, nat_eq, slice_get, take}
use Rattle.std.specs.Map.{lookup}
use Rattle.sparse_model.specs.declared.ids.NameId.{NameId}
use Rattle.meaning_types.specs.Types.{TypeTree}
use Rattle.meaning_layout.specs.Sizes.{Told}
use Rattle.meaning_layout.specs.Members.{Names, names_of_member, names_of_members}
use Rattle.c_types.specs.declared.bodies.Member.{Member}
use Rattle.c_types.specs.declared.layouts.Layouts.{Layouts}
use Rattle.c_types.specs.declared.maps.Heavy.{Heavy}
use Rattle.c_types.specs.declared.maps.MemberMaps.{MemberMaps}
use Rattle.c_types.specs.declared.maps.Standing.{Standing}
use Rattle.c_types.specs.declared.members.FoundMember.{FoundMember}
use Rattle.c_types.specs.declared.rows.Rows.{Rows}
use Rattle.c_types.specs.Chains.{AreJumpsOver, AreKnownEntries, AreToldLinks, Chain, ChainGrows, Each, names_below}
use Rattle.c_types.specs.Layouts.{told_kept}
use Rattle.c_types.specs.Members.{anonymous_type, is_name, member_declared, names_seen}
use Rattle.c_types.specs.Rows.{type_numbered, types_of}

-- the names of an aggregate that stands so in this chain, if there is one
abbrev pub names_in_chain : Told → Option Chain → Standing → List (NameId × FoundMember)
names_in_chain told None standing = []
names_in_chain told (Some chain) standing = names_below told (take standing.level chain.links) chain.entries standing.count

abbrev pub names_standing : Told → List Chain → Standing → List (NameId × FoundMember)
names_standing told chains standing = names_in_chain told (slice_get chains standing.chain) standing

-- what is kept of an aggregate, if anything
abbrev pub names_if : List TypeTree → Told → List Chain → Option Standing → Names NameId
names_if types told chains None = []
names_if types told chains (Some standing) = names_seen types (names_standing told chains standing)

abbrev pub names_kept : List TypeTree → Told → List Chain → List (ℕ × Standing) → ℕ → Names NameId
names_kept types told chains kept number = names_if types told chains (lookup (nat_eq number) kept)

-- the aggregate stands within its chain
abbrev pub IsStanding : List Chain → Standing → Type 0
IsStanding chains standing =
    (chain : Chain) × (slice_get chains standing.chain ≡ Some chain) × (standing.level ≤ length chain.links) × (standing.count ≤ length chain.entries)

-- it is the outermost one
abbrev pub IsOutermost : List Chain → Standing → Type 0
IsOutermost chains standing =
    (chain : Chain) × (slice_get chains standing.chain ≡ Some chain) × (standing.level ≡ length chain.links) × (standing.count ≡ length chain.entries)

-- so does each that is kept
abbrev pub AreStandings : List Chain → List (ℕ × Standing) → Type 0
AreStandings chains kept = (number : ℕ) (standing : Standing) → lookup (nat_eq number) kept ≡ Some standing → IsStanding chains standing

abbrev pub IsTold : Told → ℕ → Type 0
IsTold told number = (is_union : Bool) → IsSome (told number is_union)

-- what is kept is right: members have types of the table, anonymous aggregates were told, jumps do what links do, and each aggregate
-- that is kept was told and stands within its chain
pub record AreMaps (types : List TypeTree) (told : Told) (chains : List Chain) (kept : List (ℕ × Standing)) : Type 0 where
  pub known : Each (λ (chain : Chain). AreKnownEntries types chain.entries) chains
  pub links : Each (λ (chain : Chain). AreToldLinks told chain.links) chains
  pub jumps : Each (λ (chain : Chain). AreJumpsOver told chain.links) chains
  pub standings : AreStandings chains kept
  pub all_told : (number : ℕ) (standing : Standing) → lookup (nat_eq number) kept ≡ Some standing → IsTold told number

-- chains stay, and grow
abbrev pub ChainsGrow : List Chain → List Chain → Type 0
ChainsGrow old new =
    (place : ℕ) (chain : Chain) → slice_get old place ≡ Some chain → (grown : Chain) × (slice_get new place ≡ Some grown) × ChainGrows chain grown

-- the names of an anonymous member, which is the outermost aggregate of its chain
pub record IsHeavy (types : List TypeTree) (chains : List Chain) (kept : List (ℕ × Standing)) (place : ℕ) (member : Member) (heavy : Heavy) : Type 0 where
  pub unnamed : member.name ≡ None
  pub bare : member.width ≡ None
  pub typed : type_numbered types member.of.0 ≡ anonymous_type heavy.anonymous
  pub at : heavy.anonymous.place ≡ place
  pub begins : heavy.anonymous.bits ≡ Some 0
  pub stands : lookup (nat_eq heavy.anonymous.number) kept ≡ Some heavy.standing
  pub outermost : IsOutermost chains heavy.standing

-- What one more aggregate changes

-- chains grew, and what is kept is right as before
pub record IsEntered (types : List TypeTree) (told : Told) (old new : List Chain) (kept : List (ℕ × Standing)) : Type 0 where
  pub grow : ChainsGrow old new
  pub maps : AreMaps types told new kept

-- where it stands, a name names what it names among these members
pub record AreNamed (types : List TypeTree) (told : Told) (old new : List Chain) (kept : List (ℕ × Standing)) (members : List Member) (standing : Standing) : Type 0 where
  pub stands : IsStanding new standing
  pub named : (asked : NameId) → lookup (is_name asked) (names_seen types (names_standing told new standing))
      ≡ lookup (is_name asked) (names_of_members told (names_kept types told old kept) 0 (map (member_declared types) members))

-- As the code has them: rows have the types, layouts what was told, and maps the chains and what is kept

abbrev pub IsKnownMember : Rows → Member → Type 0
IsKnownMember rows member = member.of.0 < length (types_of rows.rows.entries)

abbrev pub AreKnownMembers : Rows → List Member → Type 0
AreKnownMembers rows members = All (IsKnownMember rows) members

abbrev pub AreMapsOver : Rows → Layouts → MemberMaps → Type 0
AreMapsOver rows layouts maps = AreMaps (types_of rows.rows.entries) (told_kept layouts.kept.entries) maps.chains.items maps.kept.entries

abbrev pub names_over : Rows → Layouts → MemberMaps → ℕ → Names NameId
names_over rows layouts maps = names_kept (types_of rows.rows.entries) (told_kept layouts.kept.entries) maps.chains.items maps.kept.entries

-- the names that one member brings, and those of members from this place on
abbrev pub names_of_one : Rows → Layouts → MemberMaps → (place : ℕ) → Member → Names NameId
names_of_one rows layouts maps place member =
    names_of_member (told_kept layouts.kept.entries) (names_over rows layouts maps) place (member_declared (types_of rows.rows.entries) member)

abbrev pub names_of_all : Rows → Layouts → MemberMaps → (first : ℕ) → List Member → Names NameId
names_of_all rows layouts maps first members =
    names_of_members (told_kept layouts.kept.entries) (names_over rows layouts maps) first (map (member_declared (types_of rows.rows.entries)) members)

-- one of the members has these names
abbrev pub IsHeavyAmong : Rows → MemberMaps → List Member → Heavy → Type 0
IsHeavyAmong rows maps members heavy =
    (member : Member) × (slice_get members heavy.anonymous.place ≡ Some member)
    × IsHeavy (types_of rows.rows.entries) maps.chains.items maps.kept.entries heavy.anonymous.place member heavy

abbrev pub IsEnteredOver : Rows → Layouts → (old new : MemberMaps) → Type 0
IsEnteredOver rows layouts old new = IsEntered (types_of rows.rows.entries) (told_kept layouts.kept.entries) old.chains.items new.chains.items old.kept.entries

abbrev pub AreNamedOver : Rows → Layouts → (old new : MemberMaps) → List Member → Standing → Type 0
AreNamedOver rows layouts old new members standing =
    AreNamed (types_of rows.rows.entries) (told_kept layouts.kept.entries) old.chains.items new.chains.items old.kept.entries members standing
