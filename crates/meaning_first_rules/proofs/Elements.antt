-- What a list contains, by its first element and the others.
use Rattle.std.proofs.Common.{◌≡◌, Bool, true, false, List, [], ◌∷◌, All, Contains, ◌⊎◌, inl, inr, if◌then◌else◌, refl, arith}
use Rattle.std.proofs.lemmas.List.Elements.{All-nil, All-cons, Contains-append_left, Contains-append_right, Contains-push}

-- an element is the first or one of the others
pub Contains-cons_cases : {X : Type 0} (y : X) (xs : List X) (x : X) → Contains (y ∷ xs) x → (y ≡ x) ⊎ Contains xs x
Contains-cons_cases y xs x h = grind arith

-- the first is an element
pub Contains-cons_head : {X : Type 0} (x : X) (xs : List X) → Contains (x ∷ xs) x
Contains-cons_head x xs = Contains-append_left (x ∷ []) xs x (Contains-push [] x)

-- so are the others
pub Contains-cons_tail : {X : Type 0} (y : X) (xs : List X) (x : X) → Contains xs x → Contains (y ∷ xs) x
Contains-cons_tail y xs x h = Contains-append_right (y ∷ []) xs x h

-- no list without elements contains one
pub Contains-nil : {X : Type 0} (x : X) → Contains [] x → ⊥
Contains-nil x h = omega (arith, h.1)

-- a list of one element contains no other
pub Contains-single : {X : Type 0} (x y : X) → Contains (x ∷ []) y → x ≡ y
Contains-single x y h = elim (Contains-cons_cases x [] y h) [ inl e ↦ e | inr k ↦ absurd (Contains-nil y k) ]

-- an element that stands there where a test passes: it is contained if the test passes
pub Contains-if : {X : Type 0} (test : Bool) (x : X) → test ≡ true → Contains (if test then x ∷ [] else []) x
Contains-if true x h = Contains-cons_head x []
Contains-if false x h = grind arith

-- and all is true of it that is true if the test passes
pub All-if : {X : Type 0} (P : X → Type 0) (test : Bool) (x : X) → (test ≡ true → P x) → All P (if test then x ∷ [] else [])
All-if P true x h = All-cons P x [] (h refl) (All-nil P)
All-if P false x h = All-nil P
