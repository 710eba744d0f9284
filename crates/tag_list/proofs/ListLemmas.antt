-- Lemmas on a list of tagged handles, and on a walk over it from its end.
use Rattle.std.proofs.Common.{◌≡◌, ℕ, ◌-◌, ◌<◌, List, [], ◌∷◌, ◌++◌, length, take, refl, sym, ap, subst, ◌∙◌, append_assoc, append-nil, arith, length-append}
use Rattle.std.proofs.lemmas.List.Elements.{All-append, All-set, All-pop, All-take}
use Rattle.std.proofs.Math.Seq.{take-append_seam}
use Rattle.smallvec.specs.SmallVec.{SmallVec}
use Rattle.chunk_list.proofs.ChunkLemmas.{length-le-contents, contents-append, AllFilled-append, AllFilled-take, AllFilled-drop}
use Rattle.tag_list.specs.Chain.{AllFilled, entries, few_items}

-- what joined chains hold, and how many vectors they have
pub ruleset joined = (length-le-contents, contents-append, AllFilled-append, AllFilled-take, AllFilled-drop, append_assoc, append-nil, length-append, All-append, All-set)

-- a chain holds what is before a last vector, and that vector
pub entries-push : (xs : List (SmallVec (ℕ × ℕ))) (c : SmallVec (ℕ × ℕ)) → entries (xs ++ c ∷ []) ≡ entries xs ++ c.items
entries-push xs c = contents-append few_items xs (c ∷ []) ∙ ap (λ l. entries xs ++ l) (append-nil c.items)

-- a front of a chain with no empty vector has none
pub AllFilled-front : (xs : List (SmallVec (ℕ × ℕ))) (c : SmallVec (ℕ × ℕ)) → AllFilled (xs ++ c ∷ []) → AllFilled xs
AllFilled-front [] c f = tt
AllFilled-front (x ∷ xs) c f = (f.0, AllFilled-front xs c f.1)

-- nor is its last vector empty
pub AllFilled-last : (xs : List (SmallVec (ℕ × ℕ))) (c : SmallVec (ℕ × ℕ)) → AllFilled (xs ++ c ∷ []) → 0 < length c.items
AllFilled-last [] c f = f.0
AllFilled-last (x ∷ xs) c f = AllFilled-last xs c f.1

-- a chain whose last vector is told
module _ (whole front : List (SmallVec (ℕ × ℕ))) (c : SmallVec (ℕ × ℕ)) where
  pub entries-last_of : whole ≡ front ++ c ∷ [] → entries whole ≡ entries front ++ c.items
  entries-last_of e = ap entries e ∙ entries-push front c

  pub AllFilled-front_of : whole ≡ front ++ c ∷ [] → AllFilled whole → AllFilled front
  AllFilled-front_of e f = AllFilled-front front c (subst AllFilled e f)

  pub AllFilled-last_of : whole ≡ front ++ c ∷ [] → AllFilled whole → 0 < length c.items
  AllFilled-last_of e f = AllFilled-last front c (subst AllFilled e f)

-- what the last vector of a chain has
pub ruleset last_of = (entries-last_of, AllFilled-front_of, AllFilled-last_of, append_assoc, append-nil, length-append)

-- a walk from the back comes to the last vector of what is in the middle
pub entries-walked_back : (front back rest : List (ℕ × ℕ)) (middle left : List (SmallVec (ℕ × ℕ))) (c : SmallVec (ℕ × ℕ)) (v : ℕ × ℕ) → back ≡ [] → middle ≡ left ++ c ∷ [] → c.items ≡ rest ++ v ∷ [] → front ++ (entries middle ++ back) ≡ (front ++ (entries left ++ rest)) ++ v ∷ []
entries-walked_back front back rest middle left c v b m e =
    let told : entries middle ++ back ≡ (entries left ++ rest) ++ v ∷ [] =
    ap (λ l. entries middle ++ l) b ∙ append-nil (entries middle) ∙ ap entries m ∙ entries-push left c ∙ ap (λ l. entries left ++ l) e ∙ sym (append_assoc (entries left) rest (v ∷ []))
    in
    ap (λ l. front ++ l) told ∙ sym (append_assoc front (entries left ++ rest) (v ∷ []))

-- a list of no items is empty
pub nil-from_length : {A : Type 0} (xs : List A) → length xs ≡ 0 → xs ≡ []
nil-from_length [] e = refl
nil-from_length (x ∷ xs) e = absurd (omega arith)

-- what is left when the last item is gone
pub take-before_last : {A : Type 0} (xs ys : List A) (v : A) → xs ≡ ys ++ v ∷ [] → ys ≡ take (length xs - 1) xs
take-before_last xs ys v e =
    let count : length xs - 1 ≡ length ys = omega (arith, ap length e, length-append ys (v ∷ [])) in
    sym (ap (λ k. take k xs) count ∙ ap (take (length ys)) e ∙ take-append_seam ys (v ∷ []))

-- a list of tagged handles without its last one
pub ruleset last_gone = (take-before_last, nil-from_length, length-append, All-pop, All-take)
