-- Lists that are read from their ends, as stacks are.
use Rattle.std.proofs.Common.{◌≡◌, ℕ, ◌-◌, ◌<◌, ◌≤◌, Bool, true, ◌&&◌, List, [], ◌∷◌, ◌++◌, map, reverse, take, drop, length, ⊎_elim, refl, sym, ap, ap₂, ◌∙◌, arith}
use Rattle.std.specs.List.{list_all}
use Rattle.std.proofs.lemmas.Bool.{and_parts, cases_lt}
use Rattle.std.proofs.lemmas.List.{length-drop, length-reverse, map-append, reverse-append, take-append-drop, take_all, take_at, drop_all, drop_at}
use Rattle.std.proofs.lemmas.List.Folds.{list_all-append}

-- an element before others is the last of those from the end on
pub reverse-cons : {X : Type 0} (x : X) (xs : List X) → reverse (x ∷ xs) ≡ reverse xs ++ x ∷ []
reverse-cons x xs = reverse-append (x ∷ []) xs

-- one behind others is the first
pub reverse-snoc : {X : Type 0} (xs : List X) (x : X) → reverse (xs ++ x ∷ []) ≡ x ∷ reverse xs
reverse-snoc xs x = reverse-append xs (x ∷ [])

pub map-reverse : {X Y : Type 0} (f : X → Y) (xs : List X) → map f (reverse xs) ≡ reverse (map f xs)
map-reverse f [] = refl
map-reverse f (x ∷ xs) =
    ap (map f) (reverse-cons x xs) ∙ map-append f (reverse xs) (x ∷ []) ∙ ap (λ front. front ++ f x ∷ []) (map-reverse f xs) ∙ sym (reverse-cons (f x) (map f xs))

pub map-map : {X Y Z : Type 0} (g : Y → Z) (f : X → Y) (xs : List X) → map g (map f xs) ≡ map (λ x. g (f x)) xs
map-map g f [] = refl
map-map g f (x ∷ xs) = ap (λ rest. g (f x) ∷ rest) (map-map g f xs)

-- what holds of all holds of them from the end on
pub all-reverse : {X : Type 0} (test : X → Bool) (xs : List X) → list_all test xs ≡ true → list_all test (reverse xs) ≡ true
all-reverse test [] all = refl
all-reverse test (x ∷ xs) all =
    let halves = and_parts (test x) (list_all test xs) all in
    ap (list_all test) (reverse-cons x xs) ∙ list_all-append test (reverse xs) (x ∷ []) ∙ ap₂ (λ (rest one : Bool). rest && (one && true)) (all-reverse test xs halves.1) halves.0

-- and of a front of them, and of what is behind it
pub all-take : {X : Type 0} (test : X → Bool) (count : ℕ) (xs : List X) → list_all test xs ≡ true → list_all test (take count xs) ≡ true
all-take test count xs all =
    (and_parts (list_all test (take count xs)) (list_all test (drop count xs))
    (sym (list_all-append test (take count xs) (drop count xs)) ∙ ap (list_all test) (take-append-drop count xs) ∙ all)).0

pub all-drop : {X : Type 0} (test : X → Bool) (count : ℕ) (xs : List X) → list_all test xs ≡ true → list_all test (drop count xs) ≡ true
all-drop test count xs all =
    (and_parts (list_all test (take count xs)) (list_all test (drop count xs))
    (sym (list_all-append test (take count xs) (drop count xs)) ∙ ap (list_all test) (take-append-drop count xs) ∙ all)).1

-- The last so many

in_two : {X : Type 0} (all : List X) (from : ℕ) → reverse all ≡ reverse (drop from all) ++ reverse (take from all)
in_two all from = ap reverse (sym (take-append-drop from all)) ∙ reverse-append (take from all) (drop from all)

nothing_before : (len count : ℕ) → len < count → 0 ≡ len - count
nothing_before len count past = omega (arith, past)

pub last_ones : {X : Type 0} (all : List X) (count : ℕ) → take count (reverse all) ≡ reverse (drop (length all - count) all)
last_ones {X} all count =
    ⊎_elim
    (λ (past : length all < count).
    take_all count (reverse all) (omega (arith, past, length-reverse all))
    ∙ ap (λ (from : ℕ). reverse (drop from all)) (nothing_before (length all) count past))
    (λ (fits : count ≤ length all).
    ap (take count) (in_two all (length all - count))
    ∙ take_at (reverse (drop (length all - count) all)) (reverse (take (length all - count) all)) count
    (omega (arith, fits, length-reverse (drop (length all - count) all), length-drop (length all - count) all)))
    (cases_lt (length all) count)

pub first_ones : {X : Type 0} (all : List X) (count : ℕ) → drop count (reverse all) ≡ reverse (take (length all - count) all)
first_ones {X} all count =
    ⊎_elim
    (λ (past : length all < count).
    drop_all count (reverse all) (omega (arith, past, length-reverse all))
    ∙ ap (λ (from : ℕ). reverse (take from all)) (nothing_before (length all) count past))
    (λ (fits : count ≤ length all).
    ap (drop count) (in_two all (length all - count))
    ∙ drop_at (reverse (drop (length all - count) all)) (reverse (take (length all - count) all)) count
    (omega (arith, fits, length-reverse (drop (length all - count) all), length-drop (length all - count) all)))
    (cases_lt (length all) count)
