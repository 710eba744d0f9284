-- Lemmas on a chain of vectors of tagged handles.
use Rattle.std.proofs.Common.{◌≡◌, ℕ, zero, suc, ◌+◌, ◌-◌, ◌<◌, ◌≤◌, List, [], ◌∷◌, ◌++◌, length, get_or, set, take, drop, refl, sym, ap, subst, ◌∙◌, append_assoc, append-nil, arith, length-append}
use Rattle.std.proofs.lemmas.List.{set-append_left, set-append_right, take-append-drop, length-take, length-set, length-drop}
use Rattle.std.specs.List.{slice_get}
use Rattle.smallvec.specs.SmallVec.{SmallVec}
use Rattle.chunk_list.specs.Chunks.{IsPlaceInFront}
use Rattle.chunk_list.proofs.ChunkLemmas as chunks
use Rattle.chunk_list.proofs.ChunkLemmas.{contents-append, contents-set_grown, contents-set_same, contents-set_shrunk, contents-take_shrunk, contents-take_next, drop-next, slice_get-append_right, AllFilled-append, AllFilled-take, AllFilled-drop}
use Rattle.tag_list.specs.Chain.{AllFilled, entries, few_items}

-- each vector of a chain with no empty one has a tagged handle
pub AllFilled-at : (xs : List (SmallVec (ℕ × ℕ))) (i : ℕ) (c : SmallVec (ℕ × ℕ)) → AllFilled xs → i < length xs → c ≡ get_or xs i c → 0 < length c.items
AllFilled-at xs i c = chunks.AllFilled-at few_items xs i c

-- it may be replaced by one that has
pub AllFilled-set : (xs : List (SmallVec (ℕ × ℕ))) (i : ℕ) (new : SmallVec (ℕ × ℕ)) → AllFilled xs → 0 < length new.items → AllFilled (set xs i new)
AllFilled-set xs i new = chunks.AllFilled-set few_items xs i new

-- what the whole list is where its last vector gains a tagged handle, or keeps what it has
pub ruleset last_grows = (contents-set_grown, contents-set_same, AllFilled-set, AllFilled-at)

-- where its last tagged handle is taken
pub ruleset last_shrinks = (contents-set_shrunk, contents-take_shrunk, AllFilled-set, AllFilled-at, AllFilled-take)

-- a place that isn't in the vector that follows is one of what is left behind it, and says the same there
pub one_on : (list left rest : List (SmallVec (ℕ × ℕ))) (few : SmallVec (ℕ × ℕ)) (place index within : ℕ) → left ≡ few ∷ rest → length few.items ≤ within → drop index list ≡ left → place ≡ length (entries (take index list)) + within → slice_get (entries list) place ≡ slice_get (entries left) within → within < length (entries left) → (drop (index + 1) list ≡ rest) × (place ≡ length (entries (take (index + 1) list)) + (within - length few.items)) × (slice_get (entries list) place ≡ slice_get (entries rest) (within - length few.items)) × (within - length few.items < length (entries rest))
one_on list left rest few place index within steps behind left_is sum same small =
    let here : drop index list ≡ few ∷ rest = left_is ∙ steps in
    let passed = ap length (contents-take_next few_items list index few rest here) in
    let front = length-append (entries (take index list)) few.items in
    let all = ap length (ap entries steps) in
    let both = length-append few.items (entries rest) in
    (drop-next list index few rest here, omega (arith, sum, passed, front, behind), same ∙ ap (λ l. slice_get (entries l) within) steps ∙ slice_get-append_right few.items (entries rest) within (within - length few.items) (omega (arith, behind)), omega (arith, small, behind, all, both))

-- one of the first vector is replaced: so is that of the whole list
pub entries-set_front : (xs : List (SmallVec (ℕ × ℕ))) (c new : SmallVec (ℕ × ℕ)) (i : ℕ) (w : ℕ × ℕ) → IsPlaceInFront few_items xs i → c ≡ get_or xs 0 c → new.items ≡ set c.items i w → entries (set xs 0 new) ≡ set (entries xs) i w
entries-set_front [] c new i w h e n = absurd h
entries-set_front (x ∷ xs) c new i w h e n =
    ap (λ l. l ++ entries xs) (n ∙ ap (λ v. set (few_items v) i w) e) ∙ sym (set-append_left x.items (entries xs) i w h)

-- one behind a cut is replaced: so is that of the whole list
pub set-behind_cut : (whole : List (SmallVec (ℕ × ℕ))) (index place : ℕ) (new : List (SmallVec (ℕ × ℕ))) (w : ℕ × ℕ) → entries new ≡ set (entries (drop index whole)) place w → entries (take index whole ++ new) ≡ set (entries whole) (length (entries (take index whole)) + place) w
set-behind_cut whole index place new w n =
    let front : List (ℕ × ℕ) = entries (take index whole) in
    let tail : List (ℕ × ℕ) = entries (drop index whole) in
    let at : (length front + place) - length front ≡ place = omega arith in
    let far : length front ≤ length front + place = omega arith in
    let all : front ++ tail ≡ entries whole = sym (contents-append few_items (take index whole) (drop index whole)) ∙ ap entries (take-append-drop index whole) in
    contents-append few_items (take index whole) new
    ∙ ap (λ l. front ++ l) (n ∙ ap (λ k. set tail k w) (sym at))
    ∙ sym (set-append_right front tail (length front) (length front + place) w refl far)
    ∙ ap (λ l. set l (length front + place) w) all

-- what a replaced one leaves as it was
pub ruleset replaced = (entries-set_front, set-behind_cut, AllFilled-set, AllFilled-append, AllFilled-take, AllFilled-drop, length-set, length-take, length-drop)
