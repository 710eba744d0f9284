-- The branches of the sets of a table, and what they say of the sets.
use Rattle.std.specs.Prelude.{◌≡◌, ◌<◌, ◌≤◌, ◌+◌, ◌-◌, ◌^◌, ◌&&◌, ◌||◌, if◌then◌else◌, ℕ, Bool, true, List, [], ◌∷◌, ◌++◌, Option, None, Some, map, length, slice_get, nat_eq, nat_lt}
use Rattle.std.specs.List.{AllByRecursion}
use Rattle.number_sets.specs.declared.addition.Addition.{Addition}
use Rattle.number_sets.specs.declared.branch.Branch.{Branch}
use Rattle.number_sets.specs.declared.pair.Operation.{Operation}
use Rattle.number_sets.specs.declared.pair.Operation.TheVariants.{Union, Intersection}
use Rattle.number_sets.specs.declared.pair.Pair.{Pair}
use Rattle.std.specs.Int.{w32, leading_zeros}
use Rattle.number_sets.specs.NumberSets.{Table, numbers_at, has, plain_sets}

-- the numbers of a branch, whose halves are sets that stand already
abbrev pub numbers_of : Table → Branch → List ℕ
numbers_of table b = numbers_at table b.lower ++ map (λ n. 2 ^ b.bit + n) (numbers_at table b.upper)

-- the sets of these branches, behind those that stand already
abbrev pub sets_behind : Table → List Branch → Table
sets_behind table [] = table
sets_behind table (b ∷ bs) = sets_behind (table ++ numbers_of table b ∷ []) bs

-- the sets from the start have no branch
abbrev pub sets_of : List Branch → Table
sets_of bs = sets_behind plain_sets bs

-- how many sets there are
abbrev pub count : List Branch → ℕ
count bs = length bs + 1073741825

abbrev pub levels_at : Option Branch → ℕ
levels_at None = 0
levels_at (Some b) = b.bit + 1

-- how many bits a number has
abbrev pub bits_of : ℕ → ℕ
bits_of number = 32 - leading_zeros w32 number

-- how many bits the numbers of a set have at most
abbrev pub levels_of : List Branch → ℕ → ℕ
levels_of bs set = if nat_lt set 1073741825 then bits_of (set - 1) else levels_at (slice_get bs (set - 1073741825))

-- the numbers of the set without the bit are those of the lower set, and those with it are those of the upper one, with the bit
pub record IsSplit (bs : List Branch) (set bit lower upper : ℕ) : Type 0 where
  pub whole_stands : set < count bs
  pub lower_stands : lower < count bs
  pub upper_stands : upper < count bs
  pub whole_levels : levels_of bs set ≤ bit + 1
  pub lower_levels : levels_of bs lower ≤ bit
  pub upper_levels : levels_of bs upper ≤ bit
  pub numbers : (n : ℕ) → has (sets_of bs) set n ≡ (if nat_lt n (2 ^ bit) then has (sets_of bs) lower n else has (sets_of bs) upper (n - 2 ^ bit))

-- each branch parts its set, and no number has more bits than its set says
pub record AreBranches (bs : List Branch) : Type 0 where
  pub parts : (set : ℕ) (b : Branch) → 1073741825 ≤ set → slice_get bs (set - 1073741825) ≡ Some b → IsSplit bs set b.bit b.lower b.upper
  pub bits : (place : ℕ) (b : Branch) → slice_get bs place ≡ Some b → b.bit < 30
  pub bounded : (set n : ℕ) → has (sets_of bs) set n ≡ true → n < 2 ^ levels_of bs set
  pub few : length bs ≤ 2 ^ 30

-- the later branches are the old ones with more behind them
abbrev pub Grows : List Branch → List Branch → Type 0
Grows old new = (more : List Branch) × (new ≡ old ++ more)

-- whether a number belongs to what is made of two sets, each of which has it or not
abbrev pub of_both : Operation → Bool → Bool → Bool
of_both Union left right = left || right
of_both Intersection left right = left && right

-- the set is what is made of the pair
pub record IsMade (bs : List Branch) (pair : Pair) (set : ℕ) : Type 0 where
  pub left_stands : pair.left < count bs
  pub right_stands : pair.right < count bs
  pub stands : set < count bs
  pub levels : (most : ℕ) → levels_of bs pair.left ≤ most → levels_of bs pair.right ≤ most → levels_of bs set ≤ most
  pub numbers : (n : ℕ) → has (sets_of bs) set n ≡ of_both pair.operation (has (sets_of bs) pair.left n) (has (sets_of bs) pair.right n)

-- what is remembered of pairs is right
abbrev pub AreDone : List Branch → List (Pair × ℕ) → Type 0
AreDone bs done = AllByRecursion (λ entry. IsMade bs entry.0 entry.1) done

-- the set has the number and what the other one has, and no number of more bits than these
pub record HasToo (bs : List Branch) (most other number set : ℕ) : Type 0 where
  pub stands : set < count bs
  pub levels : levels_of bs set ≤ most
  pub numbers : (n : ℕ) → has (sets_of bs) set n ≡ nat_eq n number || has (sets_of bs) other n

-- the set is what comes of an addition
pub record IsGrown (bs : List Branch) (addition : Addition) (set : ℕ) : Type 0 where
  pub old_stands : addition.set < count bs
  pub too : HasToo bs 30 addition.set addition.number set

-- what is remembered of additions is right
abbrev pub AreGrown : List Branch → List (Addition × ℕ) → Type 0
AreGrown bs grown = AllByRecursion (λ entry. IsGrown bs entry.0 entry.1) grown
