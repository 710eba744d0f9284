-- The names of aggregates that stand in one another, each in the next, and what each of them sees.
use Rattle.std.specs.Prelude.{◌≡◌, ℕ, zero, suc, ◌≤◌, ◌<◌, ◌^◌, Bool, false, nat_le, List, [], ◌∷◌, ◌++◌, Option, Some, None, IsSome, if◌then◌else◌, drop, length, option_map, slice_get, take}
use Rattle.std.specs.Map.{lookup}
use Rattle.sparse_model.specs.declared.ids.NameId.{NameId}
use Rattle.meaning_types.specs.Types.{TypeTree}
use Rattle.meaning_layout.specs.Sizes.{Told}
use Rattle.c_types.specs.declared.chains.Jump.{Jump}
use Rattle.c_types.specs.declared.chains.Layered.{Layered}
use Rattle.c_types.specs.declared.chains.Link.{Link}
use Rattle.c_types.specs.declared.members.Anonymous.{Anonymous}
use Rattle.c_types.specs.declared.members.FoundMember.{FoundMember}
use Rattle.c_types.specs.Members.{found_around, is_name}
use Rattle.c_types.specs.Table.{IsLonger}

-- how each aggregate stands in the next, from the innermost one on, and the names that they bring, in the order in which
-- they were entered
pub record Chain : Type 0 where
  pub links : List Link
  pub entries : List Layered

-- a member of an aggregate, as one of the aggregate around so many anonymous ones
abbrev pub raised : Told → List Link → FoundMember → FoundMember
raised told [] found = found
raised told (link ∷ links) found = raised told links (found_around told link.anonymous found)

-- Jumps

-- up to the aggregate at this level, a jump does with a member what the links do that it jumps over
abbrev pub IsJumpOver : Told → List Link → (level : ℕ) → Jump → Type 0
IsJumpOver told links level jump = (found : FoundMember) → found_around told jump.anonymous found ≡ raised told (drop jump.level (take level links)) found

-- the jump of each link leads to the aggregate in which that link stands
abbrev pub AreJumpsOver : Told → List Link → Type 0
AreJumpsOver told links = (index : ℕ) (link : Link) → slice_get links index ≡ Some link → IsJumpOver told links (suc index) link.jump

-- What is seen

-- a name in the aggregate that stands around so many links, before others
abbrev pub seen_before : Told → List Link → Option Layered → List (NameId × FoundMember) → List (NameId × FoundMember)
seen_before told links None names = names
seen_before told links (Some entry) names = (entry.name, raised told (drop entry.level links) entry.found) ∷ names

-- the names of that aggregate, if so many first entries are its names, from the last entry on: the last one of a name counts
abbrev pub names_below : Told → List Link → List Layered → (count : ℕ) → List (NameId × FoundMember)
names_below told links entries zero = []
names_below told links entries (suc count) = seen_before told links (slice_get entries count) (names_below told links entries count)

-- the names of the outermost aggregate
abbrev pub all_names : Told → Chain → List (NameId × FoundMember)
all_names told chain = names_below told chain.links chain.entries (length chain.entries)

-- How an entry is found

abbrev pub newest_or : NameId → (index : ℕ) → Option Layered → Option ℕ → Option ℕ
newest_or name index None older = older
newest_or name index (Some entry) older = if is_name name entry.name then Some index else older

-- the last of so many first entries that has this name
abbrev pub newest : List Layered → NameId → (count : ℕ) → Option ℕ
newest entries name zero = None
newest entries name (suc count) = newest_or name count (slice_get entries count) (newest entries name count)

-- what holds of each element of a list, by its place
abbrev pub Each : {X : Type 0} → (X → Type 0) → List X → Type 0
Each {X} P xs = (index : ℕ) (x : X) → slice_get xs index ≡ Some x → P x

-- the last entry of each name is kept, each entry tells the last one of its name before it, and jumps come from below
pub record IsIndexed (lasts : List (NameId × ℕ)) (links : List Link) (entries : List Layered) : Type 0 where
  pub last : (name : NameId) → lookup (is_name name) lasts ≡ newest entries name (length entries)
  pub hidden : (index : ℕ) (entry : Layered) → slice_get entries index ≡ Some entry → entry.hides ≡ newest entries entry.name index
  pub levels : Each (λ entry. entry.level ≤ length links) entries
  pub jumps : (index : ℕ) (link : Link) → slice_get links index ≡ Some link → link.jump.level ≤ index
  pub few_links : length links ≤ 2 ^ 30
  pub few_entries : length entries ≤ 2 ^ 30

-- How names are entered

-- it is an entry from the first of these on
abbrev pub is_from : (first : ℕ) → Option ℕ → Bool
is_from first None = false
is_from first (Some index) = nat_le first index

-- the entries with one more, of the outermost aggregate, unless one from the first of these on has the name
abbrev pub with_entry : Chain → (first : ℕ) → NameId → FoundMember → List Layered
with_entry chain first name found =
    if is_from first (newest chain.entries name (length chain.entries))
    then chain.entries
    else chain.entries ++ record { name = name; found = found; level = length chain.links; hides = newest chain.entries name (length chain.entries) } ∷ []

-- what an entry names in the outermost aggregate
abbrev pub shown : Told → Chain → Option ℕ → Option FoundMember
shown told chain None = None
shown told chain (Some index) = option_map (λ (entry : Layered). raised told (drop entry.level chain.links) entry.found) (slice_get chain.entries index)

-- if it is one from the first of these on
abbrev pub own_found : Told → Chain → (first : ℕ) → Option ℕ → Option FoundMember
own_found told chain first at = if is_from first at then shown told chain at else None

-- what a name names there
abbrev pub own_name : Told → Chain → (first : ℕ) → NameId → Option FoundMember
own_name told chain first asked = own_found told chain first (newest chain.entries asked (length chain.entries))

-- what is found first
abbrev pub or_later : {X : Type 0} → Option X → Option X → Option X
or_later None later = later
or_later (Some x) later = Some x

-- What stays

-- links and entries join behind the others
pub record ChainGrows (old new : Chain) : Type 0 where
  pub links : IsLonger old.links new.links
  pub entries : IsLonger old.entries new.entries

-- the members have types of the table
abbrev pub AreKnownEntries : List TypeTree → List Layered → Type 0
AreKnownEntries types entries = Each (λ (entry : Layered). entry.found.of.0 < length types) entries

-- the anonymous aggregate was told
abbrev pub IsToldMember : Told → Anonymous → Type 0
IsToldMember told anonymous = IsSome (told anonymous.number anonymous.is_union)

-- so were those from which a link and its jump come
pub record IsToldLink (told : Told) (link : Link) : Type 0 where
  pub own : IsToldMember told link.anonymous
  pub jump : IsToldMember told link.jump.anonymous

abbrev pub AreToldLinks : Told → List Link → Type 0
AreToldLinks told links = Each (IsToldLink told) links
