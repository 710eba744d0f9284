-- Where the arguments of a call end, by cases on the tokens behind its `(`.
use Rattle.std.specs.Prelude.{◌≡◌, ◌+◌, ◌-◌, ◌&&◌, ℕ, Bool, true, false, nat_eq, nat_lt, List, [], ◌∷◌, ◌++◌, length, Option, Some, None, ◌<◌, suc, take, slice_get}
use Rattle.meaning_macros.specs.Signs.{is_left_parenthesis, is_right_parenthesis, is_comma}
use Rattle.c_macros.specs.declared.item.Item.{Item}
use Rattle.c_macros.specs.Waiting.{backwards}

-- with one more stop before
abbrev pub with_stop : ℕ → Option (List ℕ) → Option (List ℕ)
with_stop stop None = None
with_stop stop (Some stops) = Some (stop ∷ stops)

-- How far each argument is read, where so many parentheses are open and so many commas may still part arguments. None where
-- no `)` closes the call.
abbrev pub stops_from : (below depth cuts : ℕ) → List Item → Option (List ℕ)
stops_from below depth cuts [] = None
stops_from below depth cuts (t ∷ ts) = elim (is_right_parenthesis t.token.kind) [
  | true ↦ elim (nat_eq depth 0) [
    | true ↦ Some ((below + length (t ∷ ts)) ∷ [])
    | false ↦ stops_from below (depth - 1) cuts ts
  ]
  | false ↦ elim (is_left_parenthesis t.token.kind) [
    | true ↦ stops_from below (depth + 1) cuts ts
    | false ↦ elim (is_comma t.token.kind && nat_eq depth 0 && nat_lt 0 cuts) [
      | true ↦ with_stop (below + length (t ∷ ts)) (stops_from below depth (cuts - 1) ts)
      | false ↦ stops_from below depth cuts ts
    ]
  ]
]

-- behind stops that were noted
abbrev pub behind : List ℕ → Option (List ℕ) → Option (List ℕ)
behind before None = None
behind before (Some stops) = Some (before ++ stops)

-- the stops are noted behind the old ones, where the call closes
abbrev pub Finds : (old new : List ℕ) → Bool → Option (List ℕ) → Type 0
Finds old new true found = behind old found ≡ Some new
Finds old new false found = found ≡ None

-- what is read of these items passes from so many open parentheses to one fewer: they end with the `)` of a `(` before them
abbrev pub Closes : List Item → Type 0
Closes between = (below depth cuts : ℕ) (ts : List Item) → stops_from below (depth + 1) cuts (between ++ ts) ≡ stops_from below depth cuts ts

-- between a `(` at the first place and what lies below the second there are these items, the `)` last
pub record Noted (work : List Item) (opening closing : ℕ) : Type 0 where
  pub less : closing < opening
  pub between : List Item
  pub split : take opening work ≡ take closing work ++ backwards between
  pub closes : Closes between

-- Each number that isn't 0 tells how far is read down to the `)` of a `(` at its place.
abbrev pub AreClosings : List Item → List ℕ → Type 0
AreClosings work closings = (opening closing : ℕ) → slice_get closings opening ≡ Some (suc closing) → opening < length work → Noted work opening closing

-- what lies below each place stays, and more may stand on top
abbrev pub KeepsBelow : (old new : List Item) → Type 0
KeepsBelow old new = (i : ℕ) → i < length old → (take i new ≡ take i old) × (i < length new)
