-- Where walks in the loop that acquires stand.
use Rattle.std.proofs.Common.{◌≡◌, ◌⊎◌, inl, inr, ℕ, zero, suc, List, [], ◌∷◌, refl, sym, subst}
use Rattle.meaning_paths.specs.Steps.{Step, Point, Add, Call, End}
use Rattle.meaning_paths.specs.Walks.{IsIn, Walk, begins, passes, turns}
use Rattle.meaning_paths.specs.Graphs.{IsPathOf, steps_at, successors_at}
use Rattle.meaning_paths.specs.examples.Graphs.{enters, acquires, acquiring_loop}
use Rattle.meaning_paths.proofs.WalkLemmas.{walk-before}

abbrev Goes : List Step → ℕ → List Step → Type 0
Goes path place rest = Walk (steps_at acquiring_loop) (successors_at acquiring_loop) 0 path place rest

-- what may be left of the block behind a path
abbrev Leaves : List Step → List Step → Type 0
Leaves [] rest = rest ≡ enters 3 ∷ acquires 3 ∷ []
Leaves (Point token moment ∷ path) rest = rest ≡ acquires 3 ∷ []
Leaves (Add token key by ∷ path) rest = (rest ≡ []) ⊎ (rest ≡ enters 3 ∷ acquires 3 ∷ [])
Leaves (Call token key comes goes ∷ path) rest = ⊥
Leaves (End token ∷ path) rest = ⊥

-- from the block's begin
passes-first : (step : Step) (path rest : List Step) → step ∷ rest ≡ enters 3 ∷ acquires 3 ∷ [] → Leaves (step ∷ path) rest
passes-first step path rest is =
    let same : step ≡ enters 3 = cc in
    let left : rest ≡ acquires 3 ∷ [] = cc in
    subst (λ now. Leaves (now ∷ path) rest) (sym same) left

passes-next : (step : Step) (path rest : List Step) → Leaves path (step ∷ rest) → Leaves (step ∷ path) rest
passes-next step [] rest is = passes-first step [] rest is
passes-next step (Point token moment ∷ path) rest is =
    let same : step ≡ acquires 3 = cc in
    let left : rest ≡ [] = cc in
    subst (λ now. Leaves (now ∷ Point token moment ∷ path) rest) (sym same) (inl left)
passes-next step (Add token key by ∷ path) rest (inl is) = absurd (cc)
passes-next step (Add token key by ∷ path) rest (inr is) = passes-first step (Add token key by ∷ path) rest is
passes-next step (Call token key comes goes ∷ path) rest is = absurd is
passes-next step (End token ∷ path) rest is = absurd is

-- the loop goes back to its one block
goes-back : (place other : ℕ) → IsIn other (successors_at acquiring_loop place) → other ≡ 0
goes-back zero other (inl is) = is
goes-back zero other (inr there) = absurd there
goes-back (suc place) other there = absurd there

turns-back : (path rest : List Step) → Leaves path [] → rest ≡ enters 3 ∷ acquires 3 ∷ [] → Leaves path rest
turns-back [] rest is left = absurd (cc)
turns-back (Point token moment ∷ path) rest is left = absurd (cc)
turns-back (Add token key by ∷ path) rest is left = inr left
turns-back (Call token key comes goes ∷ path) rest is left = absurd is
turns-back (End token ∷ path) rest is left = absurd is

leaves : (path : List Step) (place : ℕ) (rest : List Step) → Goes path place rest → Leaves path rest
leaves path place rest (begins is) = is
leaves path place rest (passes {path = front} {step = step} walk) = passes-next step front rest (leaves front place (step ∷ rest) walk)
leaves path place rest (turns {place = from} {other = other} walk there is) =
    turns-back path rest (leaves path from _ walk) (subst (λ now. rest ≡ steps_at acquiring_loop now) (goes-back from other there) is)

-- no walk goes to the block's begin from within it
pub no_turn_leaves_out_a_step : IsPathOf acquiring_loop (enters 3 ∷ enters 3 ∷ []) → ⊥
no_turn_leaves_out_a_step (place, rest, walk) =
    let (before, more, earlier) =
    walk-before (steps_at acquiring_loop) (successors_at acquiring_loop) 0 (enters 3) (enters 3 ∷ []) (enters 3 ∷ enters 3 ∷ []) place rest refl walk
    in
    let left = leaves (enters 3 ∷ []) before (enters 3 ∷ more) earlier in
    absurd (cc)
