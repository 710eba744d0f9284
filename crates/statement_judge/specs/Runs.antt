-- Which nodes stand in a node, by what they stand in, and the first of them.
use Rattle.std.specs.Prelude.{◌≡◌, ℕ, ◌<◌, ◌≤◌, nat_le, nat_lt, Bool, ◌&&◌, List, get_or, length, slice_set, if◌then◌else◌}
use Rattle.meaning_typing.specs.Surroundings.{Surrounding, surrounding_at}

-- The node itself, and what stands in a node that does.
pub data StandsIn (surroundings : List Surrounding) : (root part : ℕ) → Type 0 where
  itself : {root : ℕ} → StandsIn surroundings root root
  in_part : {root part : ℕ} → part < (surrounding_at surroundings part).parent → StandsIn surroundings root (surrounding_at surroundings part).parent
      → StandsIn surroundings root part

-- it stands there, and nothing before it does
pub record IsFirst (surroundings : List Surrounding) (root first : ℕ) : Type 0 where
  pub stands : StandsIn surroundings root first
  pub least : (part : ℕ) → StandsIn surroundings root part → first ≤ part

-- of a node that isn't there, itself
abbrev pub first_at : List ℕ → (root : ℕ) → ℕ
first_at firsts root = get_or firsts root root

-- the first of each node
pub record AreFirsts (surroundings : List Surrounding) (firsts : List ℕ) : Type 0 where
  pub all : length firsts ≡ length surroundings
  pub each : (root : ℕ) → root < length firsts → IsFirst surroundings root (first_at firsts root)

-- each of so many nodes is the first one, where none has told anything
pub record AreAlone (count : ℕ) (firsts : List ℕ) : Type 0 where
  pub all : length firsts ≡ count
  pub each : (root : ℕ) → first_at firsts root ≡ root

-- where a node has told the one that it stands in
abbrev pub first_told : List ℕ → (handle parent : ℕ) → List ℕ
first_told firsts handle parent =
    if nat_lt handle parent && nat_lt parent (length firsts)
    then (if nat_lt (first_at firsts handle) (first_at firsts parent) then slice_set firsts parent (first_at firsts handle) else firsts)
    else firsts

-- a node stands in the run from the first one to the root, before the root
abbrev pub is_in_run : List ℕ → (root part : ℕ) → Bool
is_in_run firsts root part = nat_lt root (length firsts) && nat_le (first_at firsts root) part && nat_lt part root
