-- The path to a member by its name: the numbers of the anonymous members on the way, and its own (C11 6.5.2.3 p3, 6.7.2.1 p13). Members
-- are counted from 0, and a bit-field without a name isn't, since it holds no value.
use Rattle.std.specs.Prelude.{ℕ, ◌+◌, ◌==◌, false, Option, Some, None, Result, List, [], ◌∷◌, ◌++◌, map, if◌then◌else◌}
use Rattle.std.specs.Map.{lookup}
use Rattle.std.specs.Str.{bytes_eq}
use Rattle.meaning_types.specs.Types.{TypeTree, Typed, AggregateTree}
use Rattle.meaning_layout.specs.Layouts.{Layout, LayoutFault}
use Rattle.meaning_layout.specs.Members.{DeclaredMember}
use Rattle.meaning_layout.specs.Sizes.{Told}
use Rattle.meaning_layout.specs.Telling.{nothing_told, tell}
use Rattle.meaning_typing.specs.Aggregates.{Bodies}
use Rattle.meaning_typing.specs.MemberDeclarations.{is_named_member}

-- names with the paths to what they name: a name that stands twice names the first one
abbrev pub Paths : Type 0
Paths = List (List ℕ × List ℕ)

-- Members of one body

abbrev pub number_behind : (number : ℕ) → DeclaredMember (List ℕ) → ℕ
number_behind number member = if is_named_member member then number + 1 else number

-- the names that an anonymous member of this type brings
abbrev pub paths_through : (ℕ → Paths) → (number : ℕ) → TypeTree → Paths
paths_through paths number (Typed (AggregateTree aggregate is_union) _ _) = map (λ entry. (entry.0, number ∷ entry.1)) (paths aggregate)
paths_through paths number (Typed base _ _) = []

abbrev pub paths_unnamed : (ℕ → Paths) → (number : ℕ) → (width : Option ℕ) → TypeTree → Paths
paths_unnamed paths number None of = paths_through paths number of
paths_unnamed paths number (Some width) of = []

abbrev pub paths_by : (ℕ → Paths) → (number : ℕ) → Option (List ℕ) → DeclaredMember (List ℕ) → Paths
paths_by paths number (Some name) member = (name, number ∷ []) ∷ []
paths_by paths number None member = paths_unnamed paths number member.width member.of

-- of members of which the first has this number
abbrev pub paths_of_members : (ℕ → Paths) → (number : ℕ) → List (DeclaredMember (List ℕ)) → Paths
paths_of_members paths number [] = []
paths_of_members paths number (member ∷ members) =
    paths_by paths number member.name member ++ paths_of_members paths (number_behind number member) members

-- Bodies in the order in which they are told

-- what was told first stays
abbrev pub paths_before : Option (Result Layout LayoutFault) → (earlier later : Paths) → Paths
paths_before None earlier later = later
paths_before (Some made) earlier later = earlier

abbrev pub tell_paths : Told → (ℕ → Paths) → (aggregate : ℕ) → List (DeclaredMember (List ℕ)) → ℕ → Paths
tell_paths told paths aggregate members number =
    if number == aggregate then paths_before (told number false) (paths number) (paths_of_members paths 0 members) else paths number

abbrev pub paths_in_order : Told → (ℕ → Paths) → Bodies → ℕ → Paths
paths_in_order told paths [] = paths
paths_in_order told paths (entry ∷ bodies) =
    paths_in_order (tell told entry.0 entry.1.body) (tell_paths told paths entry.0 entry.1.members) bodies

abbrev pub no_paths : ℕ → Paths
no_paths number = []

-- in the aggregate with this number
abbrev pub member_path : Bodies → (number : ℕ) → (name : List ℕ) → Option (List ℕ)
member_path bodies number name = lookup (bytes_eq name) (paths_in_order nothing_told no_paths bodies number)
