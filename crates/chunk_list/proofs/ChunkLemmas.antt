-- Lemmas on a chain of vectors that holds one list.
use Rattle.std.proofs.Common.{◌≡◌, ℕ, zero, suc, ◌+◌, ◌-◌, ◌<◌, ◌≤◌, List, [], ◌∷◌, ◌++◌, length, get_or, set, take, drop, Some, refl, sym, ap, subst, ◌∙◌, append_assoc, append-nil, add-one, arith, length-append}
use Rattle.std.proofs.lemmas.List.{set-append_left, length-set}
use Rattle.std.proofs.Math.Seq.{take-append_seam, take-append-add}
use Rattle.std.proofs.lemmas.Option.{slice_get_read}
use Rattle.std.specs.List.{slice_get}
use Rattle.std.specs.Global.{Vec}
use Rattle.std.specs.Vec.{with_item}
use Rattle.chunk_list.specs.Chunks.{AllFilled, IsPlaceInFront, contents, items_of, with_front_item}

-- vectors of any kind
module _ {V X : Type 0} (items : V → List X) where
  -- two chains one behind the other hold both lists
  pub contents-append : (xs ys : List V) → contents items (xs ++ ys) ≡ contents items xs ++ contents items ys
  contents-append [] ys = refl
  contents-append (x ∷ xs) ys = ap (λ t. items x ++ t) (contents-append xs ys) ∙ sym (append_assoc (items x) (contents items xs) (contents items ys))

  -- two chains with no empty vector are such a chain together
  pub AllFilled-append : (xs ys : List V) → AllFilled items xs → AllFilled items ys → AllFilled items (xs ++ ys)
  AllFilled-append [] ys f g = g
  AllFilled-append (x ∷ xs) ys f g = (f.0, AllFilled-append xs ys f.1 g)

  -- a front of a chain with no empty vector has none
  pub AllFilled-take : (n : ℕ) (xs : List V) → AllFilled items xs → AllFilled items (take n xs)
  AllFilled-take zero xs f = tt
  AllFilled-take (suc n) [] f = tt
  AllFilled-take (suc n) (x ∷ xs) f = (f.0, AllFilled-take n xs f.1)

  -- nor does what is behind a front
  pub AllFilled-drop : (n : ℕ) (xs : List V) → AllFilled items xs → AllFilled items (drop n xs)
  AllFilled-drop zero xs f = f
  AllFilled-drop (suc n) [] f = tt
  AllFilled-drop (suc n) (x ∷ xs) f = AllFilled-drop n xs f.1

  -- one vector may be replaced by one that is not empty
  pub AllFilled-set : (xs : List V) (i : ℕ) (new : V) → AllFilled items xs → 0 < length (items new) → AllFilled items (set xs i new)
  AllFilled-set [] i new f h = tt
  AllFilled-set (x ∷ xs) zero new f h = (h, f.1)
  AllFilled-set (x ∷ xs) (suc i) new f h = (f.0, AllFilled-set xs i new f.1 h)

  -- each vector of such a chain has an item
  pub AllFilled-at : (xs : List V) (i : ℕ) (c : V) → AllFilled items xs → i < length xs → c ≡ get_or xs i c → 0 < length (items c)
  AllFilled-at [] i c f h e = absurd (omega arith)
  AllFilled-at (x ∷ xs) zero c f h e = subst (λ v. 0 < length (items v)) (sym e) f.0
  AllFilled-at (x ∷ xs) (suc i) c f h e = AllFilled-at xs i c f.1 (omega arith) e

  -- it has at least as many items as vectors
  pub length-le-contents : (xs : List V) → AllFilled items xs → length xs ≤ length (contents items xs)
  length-le-contents [] f = omega arith
  length-le-contents (x ∷ xs) f =
      let h = f.0 in
      omega (arith, length-le-contents xs f.1, length-append (items x) (contents items xs))

  -- a chain is what is before its last vector, and that vector
  pub contents-last : (xs : List V) (i : ℕ) (c : V) → i + 1 ≡ length xs → c ≡ get_or xs i c → contents items xs ≡ contents items (take i xs) ++ items c
  contents-last [] i c n e = absurd (omega arith)
  contents-last (x ∷ []) zero c n e = append-nil (items x) ∙ ap items (sym e)
  contents-last (x ∷ y ∷ xs) zero c n e = absurd (omega arith)
  contents-last (x ∷ xs) (suc i) c n e = ap (λ t. items x ++ t) (contents-last xs i c (omega arith) e) ∙ sym (append_assoc (items x) (contents items (take i xs)) (items c))

  -- the same once the last vector is replaced
  pub contents-set_last : (xs : List V) (i : ℕ) (c : V) → i + 1 ≡ length xs → contents items (set xs i c) ≡ contents items (take i xs) ++ items c
  contents-set_last [] i c n = absurd (omega arith)
  contents-set_last (x ∷ []) zero c n = append-nil (items c)
  contents-set_last (x ∷ y ∷ xs) zero c n = absurd (omega arith)
  contents-set_last (x ∷ xs) (suc i) c n = ap (λ t. items x ++ t) (contents-set_last xs i c (omega arith)) ∙ sym (append_assoc (items x) (contents items (take i xs)) (items c))

-- the last vector of a chain
module _ {V X : Type 0} (items : V → List X) (xs : List V) (i : ℕ) (c : V) where
  -- it gains values: so does the whole list
  pub contents-set_grown : (new : V) (ys : List X) → i + 1 ≡ length xs → c ≡ get_or xs i c → items new ≡ items c ++ ys → contents items (set xs i new) ≡ contents items xs ++ ys
  contents-set_grown new ys n e h =
      contents-set_last items xs i new n ∙ ap (λ t. contents items (take i xs) ++ t) h ∙ sym (append_assoc (contents items (take i xs)) (items c) ys) ∙ ap (λ t. t ++ ys) (sym (contents-last items xs i c n e))

  -- it keeps its values: so does the whole list
  pub contents-set_same : (new : V) → i + 1 ≡ length xs → c ≡ get_or xs i c → items new ≡ items c → contents items (set xs i new) ≡ contents items xs
  contents-set_same new n e h =
      contents-set_last items xs i new n ∙ ap (λ t. contents items (take i xs) ++ t) h ∙ sym (contents-last items xs i c n e)

  -- it goes: so do its values, at the end of the whole list
  pub contents-take_front : i + 1 ≡ length xs → c ≡ get_or xs i c → contents items (take i xs) ≡ take (length (contents items xs) - length (items c)) (contents items xs)
  contents-take_front n e =
      let whole = contents-last items xs i c n e in
      let front : ℕ = length (contents items (take i xs)) in
      let count : length (contents items xs) - length (items c) ≡ front = omega (arith, ap length whole, length-append (contents items (take i xs)) (items c)) in
      sym (ap (λ k. take k (contents items xs)) count ∙ ap (take front) whole ∙ take-append_seam (contents items (take i xs)) (items c))

  -- it loses values at its end: so does the whole list
  pub contents-set_cut : (new : V) (most : ℕ) → i + 1 ≡ length xs → c ≡ get_or xs i c → most ≤ length (items c) → items new ≡ take (length (items c) - most) (items c) → contents items (set xs i new) ≡ take (length (contents items xs) - most) (contents items xs)
  contents-set_cut new most n e m h =
      let whole = contents-last items xs i c n e in
      let front : List X = contents items (take i xs) in
      let count : length (contents items xs) - most ≡ length front + (length (items c) - most) = omega (arith, ap length whole, length-append front (items c)) in
      contents-set_last items xs i new n ∙ ap (λ t. front ++ t) h ∙ sym (ap (λ k. take k (contents items xs)) count ∙ ap (take (length front + (length (items c) - most))) whole ∙ take-append-add front (items c) (length (items c) - most))

  -- it loses its last item: so does the whole list
  pub contents-set_shrunk : (new : V) (v : X) → i + 1 ≡ length xs → c ≡ get_or xs i c → items c ≡ items new ++ v ∷ [] → contents items xs ≡ contents items (set xs i new) ++ v ∷ []
  contents-set_shrunk new v n e h =
      contents-last items xs i c n e ∙ ap (λ t. contents items (take i xs) ++ t) h ∙ sym (append_assoc (contents items (take i xs)) (items new) (v ∷ [])) ∙ ap (λ t. t ++ v ∷ []) (sym (contents-set_last items xs i new n))

  -- it goes with its only item: so does that item
  pub contents-take_shrunk : (v : X) → i + 1 ≡ length xs → c ≡ get_or xs i c → items c ≡ v ∷ [] → contents items xs ≡ contents items (take i xs) ++ v ∷ []
  contents-take_shrunk v n e h = contents-last items xs i c n e ∙ ap (λ t. contents items (take i xs) ++ t) h

-- each vector of std in a chain with no empty one has an item
pub AllFilled-at_vec : {X : Type 0} (xs : List (Vec X)) (i : ℕ) (c : Vec X) → AllFilled items_of xs → i < length xs → c ≡ get_or xs i c → 0 < length c.items
AllFilled-at_vec xs i c = AllFilled-at items_of xs i c

-- the same where it is replaced by one that has
pub AllFilled-set_vec : {X : Type 0} (xs : List (Vec X)) (i : ℕ) (new : Vec X) → AllFilled items_of xs → 0 < length new.items → AllFilled items_of (set xs i new)
AllFilled-set_vec xs i new = AllFilled-set items_of xs i new

-- what the whole list is where its last vector gains a value, or keeps what it has
pub ruleset last_grows = (contents-set_grown, contents-set_same, AllFilled-set_vec, AllFilled-at_vec)

-- where it loses values, or goes
pub ruleset last_is_cut = (contents-take_front, contents-set_cut, AllFilled-set_vec, AllFilled-at_vec, AllFilled-take)

-- what is left, one vector on
drop-suc : {A : Type 0} (xs : List A) (k : ℕ) (x : A) (ys : List A) → drop k xs ≡ x ∷ ys → drop (suc k) xs ≡ ys
drop-suc [] zero x ys e = cc
drop-suc [] (suc k) x ys e = cc
drop-suc (y ∷ xs) zero x ys e = cc
drop-suc (y ∷ xs) (suc k) x ys e = drop-suc xs k x ys e

-- the same where the code counts
pub drop-next : {A : Type 0} (xs : List A) (k : ℕ) (x : A) (ys : List A) → drop k xs ≡ x ∷ ys → drop (k + 1) xs ≡ ys
drop-next xs k x ys e = rw add-one (drop-suc xs k x ys e)

module _ {V X : Type 0} (items : V → List X) where
  -- what is behind, one vector on
  contents-take_suc : (xs : List V) (k : ℕ) (c : V) (ys : List V) → drop k xs ≡ c ∷ ys → contents items (take (suc k) xs) ≡ contents items (take k xs) ++ items c
  contents-take_suc [] zero c ys e = cc
  contents-take_suc [] (suc k) c ys e = cc
  contents-take_suc (x ∷ xs) zero c ys e =
      let h : x ≡ c = cc in
      append-nil (items x) ∙ ap items h
  contents-take_suc (x ∷ xs) (suc k) c ys e =
      ap (λ t. items x ++ t) (contents-take_suc xs k c ys e) ∙ sym (append_assoc (items x) (contents items (take k xs)) (items c))

  -- the same where the code counts
  pub contents-take_next : (xs : List V) (k : ℕ) (c : V) (ys : List V) → drop k xs ≡ c ∷ ys → contents items (take (k + 1) xs) ≡ contents items (take k xs) ++ items c
  contents-take_next xs k c ys e = rw add-one (contents-take_suc xs k c ys e)

-- a place behind the vectors of a front, or in the vector that follows
pub ruleset one_on = (drop-next, contents-take_next, length-append)

-- an item of a front is that of the whole list
pub slice_get-append_left : {X : Type 0} (xs ys : List X) (i : ℕ) → i < length xs → slice_get (xs ++ ys) i ≡ slice_get xs i
slice_get-append_left [] ys i h = absurd (omega arith)
slice_get-append_left (x ∷ xs) ys zero h = refl
slice_get-append_left (x ∷ xs) ys (suc i) h = slice_get-append_left xs ys i (omega arith)

-- an item behind a front is that of the rest
pub slice_get-append_right : {X : Type 0} (xs ys : List X) (n i : ℕ) → n ≡ length xs + i → slice_get (xs ++ ys) n ≡ slice_get ys i
slice_get-append_right [] ys n i e = ap (slice_get ys) (omega arith)
slice_get-append_right (x ∷ xs) ys zero i e = absurd (omega arith)
slice_get-append_right (x ∷ xs) ys (suc n) i e = slice_get-append_right xs ys n i (omega arith)

-- the first vector is replaced where one of its items is
pub set-front : {X : Type 0} (xs : List (Vec X)) (c : Vec X) (i : ℕ) (w : X) → c ≡ get_or xs 0 c → set xs 0 (with_item c i w) ≡ with_front_item xs i w
set-front [] c i w e = refl
set-front (x ∷ xs) c i w e = ap (λ v. with_item v i w ∷ xs) e

-- an item of the first vector is that of the whole list
pub contents-with_front_item : {X : Type 0} (xs : List (Vec X)) (i : ℕ) (w : X) → IsPlaceInFront items_of xs i → contents items_of (with_front_item xs i w) ≡ set (contents items_of xs) i w
contents-with_front_item [] i w h = absurd h
contents-with_front_item (x ∷ xs) i w h = sym (set-append_left x.items (contents items_of xs) i w h)

-- an item of the first vector is one of the whole list
pub slice_get-contents_front : {X : Type 0} (xs : List (Vec X)) (c : Vec X) (i : ℕ) (w : X) → IsPlaceInFront items_of xs i → c ≡ get_or xs 0 c → w ≡ get_or c.items i w → slice_get (contents items_of xs) i ≡ Some w
slice_get-contents_front [] c i w h e r = absurd h
slice_get-contents_front (x ∷ xs) c i w h e r =
    slice_get-append_left x.items (contents items_of xs) i h ∙ slice_get_read x.items (length x.items) i w refl h (subst (λ (v : Vec _). w ≡ get_or v.items i w) e r)

-- a vector with another item in an old one's place is not empty
pub AllFilled-with_front_item : {X : Type 0} (xs : List (Vec X)) (i : ℕ) (w : X) → AllFilled items_of xs → AllFilled items_of (with_front_item xs i w)
AllFilled-with_front_item [] i w f = tt
AllFilled-with_front_item (x ∷ xs) i w f = (let h = f.0 in omega (arith, length-set x.items i w), f.1)
