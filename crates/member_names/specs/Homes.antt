-- The outermost of the aggregates of which a member is one (C11 6.7.2.1 p13): two members have an aggregate in common exactly where
-- they have this one in common, since one chain of aggregates leads outwards from each.
use Rattle.std.specs.Prelude.{◌≡◌, ℕ, ◌+◌, ◌<◌, ◌≤◌, nat_eq, List, [], ◌∷◌, Some, length, slice_get, if◌then◌else◌}
use Rattle.meaning_typing.specs.Units.{UnitNodes, node_at}
use Rattle.meaning_typing.specs.Surroundings.{Surrounding, AreSurroundings, surrounding_at}
use Rattle.meaning_typing.specs.MemberRows.{declaration_around, have_common, homes, is_anonymous, specifier_around}
use Rattle.meaning_typing.specs.laws.Surroundings.{IsLaidUnit}

-- the last of these, or this one where there is none
abbrev pub last_or : (otherwise : ℕ) → List ℕ → ℕ
last_or otherwise [] = otherwise
last_or otherwise (handle ∷ handles) = last_or handle handles

-- the outermost aggregate of which a member is one that is declared there
abbrev pub outermost_home : UnitNodes → List Surrounding → (declaration : ℕ) → ℕ
outermost_home nodes surroundings declaration =
    last_or (specifier_around surroundings declaration) (homes nodes surroundings (length nodes) declaration)

-- and that is declared by this declarator
abbrev pub outermost_of : UnitNodes → List Surrounding → (declarator : ℕ) → ℕ
outermost_of nodes surroundings declarator = outermost_home nodes surroundings (surrounding_at surroundings declarator).parent

-- Laws

-- the node above each of these nodes is one of them, and none that stands before it
pub record ParentsStandBehind (nodes : UnitNodes) (surroundings : List Surrounding) : Type 0 where
  pub behind : (handle : ℕ) → handle < length nodes → handle ≤ (surrounding_at surroundings handle).parent
  pub within : (handle : ℕ) → handle < length nodes → (surrounding_at surroundings handle).parent < length nodes

-- each of these nodes but the last is a part of a node behind it
abbrev pub EachIsPart : UnitNodes → Type 0
EachIsPart nodes =
    (handle : ℕ) → handle + 1 < length nodes
    → (parent place tag : ℕ) × (slice_get (node_at nodes parent).children place ≡ Some (handle, tag)) × (handle < parent)

-- so it is in each unit that makes one tree
abbrev pub LaidUnitsAreParts : Type 0
LaidUnitsAreParts = (nodes : UnitNodes) → IsLaidUnit nodes → EachIsPart nodes

-- and then parents stand behind, by what the nodes stand in
abbrev pub PartsHaveParentsBehind : Type 0
PartsHaveParentsBehind =
    (nodes : UnitNodes) (surroundings : List Surrounding) → EachIsPart nodes → AreSurroundings nodes surroundings
    → ParentsStandBehind nodes surroundings

-- members of two declarations have a common home exactly where they have one outermost home
abbrev pub HomesMeetAtTheirEnds : Type 0
HomesMeetAtTheirEnds =
    (nodes : UnitNodes) (surroundings : List Surrounding) → ParentsStandBehind nodes surroundings → 0 < length nodes → (declaration other : ℕ)
    → have_common (homes nodes surroundings (length nodes) declaration) (homes nodes surroundings (length nodes) other)
    ≡ nat_eq (outermost_home nodes surroundings declaration) (outermost_home nodes surroundings other)

-- it is that of the declaration around, where the aggregate is an anonymous member of it
abbrev pub HomesGoOutwards : Type 0
HomesGoOutwards =
    (nodes : UnitNodes) (surroundings : List Surrounding) → ParentsStandBehind nodes surroundings → (declaration : ℕ)
    → outermost_home nodes surroundings declaration
    ≡ (if is_anonymous nodes surroundings (specifier_around surroundings declaration)
    then outermost_home nodes surroundings (declaration_around surroundings (specifier_around surroundings declaration))
    else specifier_around surroundings declaration)
