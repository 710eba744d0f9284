-- The parameters of a macro, by their ids and by how these are spelled.
use Rattle.std.proofs.Common.{◌≡◌, ℕ, ◌+◌, ◌<◌, Bool, true, false, cond, nat_eq, ◌||◌, if◌then◌else◌, List, [], ◌∷◌, ◌++◌, length, map, drop, get_or, position, Option, None, Some, option_map, refl, sym, ap, ◌∙◌, append_assoc, arith}
use Rattle.std.specs.List.{list_any, position_from}
use Rattle.std.proofs.lemmas.Iterator.Adapters.{position_from-zero}
use Rattle.std.specs.Str.{bytes_eq}
use Rattle.std.specs.Cmp.{nat_eq_equiv}
use Rattle.std.proofs.lemmas.Bool.{and_parts, not-true, or_parts}
use Rattle.std.proofs.Math.Bool.{and-true}
use Rattle.std.proofs.lemmas.List.{drop_more}
use Rattle.indexmap.specs.IndexSet.{insert_key}
use Rattle.meaning_macros.specs.Bodies.{number_of_name}
use Rattle.meaning_macros.specs.WellFormed.{are_different}
use Rattle.sparse_model.specs.declared.ids.NameId.{NameId}
use Rattle.c_macros.specs.Seen.{KeepsApart, Spelling, own_text}

-- two ids are one
abbrev pub same_id : NameId → NameId → Bool
same_id i j = nat_eq i.0 j.0

-- the numbers keep ids apart
pub own_text-KeepsApart : KeepsApart own_text
own_text-KeepsApart i j = and-true (same_id i j)

-- none of the names behind one that differs from all of them is that one
differs_from : (first name : NameId) (between others : List NameId) → list_any (bytes_eq (own_text first)) (map own_text (between ++ name ∷ others)) ≡ false → same_id first name ≡ false
differs_from first name [] others none = sym (own_text-KeepsApart first name) ∙ (or_parts _ _ none).0
differs_from first name (other ∷ between) others none = differs_from first name between others (or_parts _ _ none).1

-- a name isn't one of those before it
pub absent : (before others : List NameId) (name : NameId) → are_different (map own_text (before ++ name ∷ others)) ≡ true → list_any (same_id name) before ≡ false
absent [] others name different = refl
absent (first ∷ before) others name different =
    let parts = and_parts _ _ different in
    let here = nat_eq_equiv.symm name.0 first.0 ∙ differs_from first name before others (not-true _ parts.0) in
    ap (λ found. found || list_any (same_id name) before) here ∙ absent before others name parts.1

-- a further parameter goes last
pub one_more : (before names : List NameId) (i : ℕ) (other : NameId) (new : List NameId) → i < length names → before ++ drop i names ≡ names → are_different (map own_text names) ≡ true
    → new ≡ insert_key same_id before (get_or names i other) → new ++ drop (i + 1) names ≡ names
one_more before names i other new within all different inserted =
    let name = get_or names i other in
    let here : before ++ name ∷ drop (i + 1) names ≡ names = ap (λ rest. before ++ rest) (sym (drop_more names i other within)) ∙ all in
    let none = absent before (drop (i + 1) names) name (ap (λ ids. are_different (map own_text ids)) here ∙ different) in
    ap (λ ids. ids ++ drop (i + 1) names) (inserted ∙ ap (λ found. if found then before else before ++ name ∷ []) none)
    ∙ append_assoc before (name ∷ []) (drop (i + 1) names) ∙ here

-- the numbers of names that are counted from another number
counted_from : (s : Spelling) → KeepsApart s → (names : List NameId) (id : NameId) (i : ℕ) → position_from (same_id id) i names ≡ option_map (λ n. n + i) (number_of_name (s id) (map s names))
counted_from s apart [] id i = refl
counted_from s apart (name ∷ names) id i =
    (λ k. cond (same_id id name) (Some i) (counted_from s apart names id (i + 1) k))
    ∙ by (same_id id name) (number_of_name (s id) (map s names))
    ∙ ap (λ found. option_map (λ n. n + i) (if found then Some 0 else option_map (λ n. n + 1) (number_of_name (s id) (map s names)))) (sym (apart name id ∙ nat_eq_equiv.symm name.0 id.0))
  where
    by : (here : Bool) (number : Option ℕ) → cond here (Some i) (option_map (λ n. n + (i + 1)) number) ≡ option_map (λ n. n + i) (if here then Some 0 else option_map (λ n. n + 1) number)
    by true number = ap Some (omega arith)
    by false None = refl
    by false (Some n) = ap Some (omega arith)

-- the number at which an id stands is that of its spelling among the spellings
pub number_of_name-position : (s : Spelling) → KeepsApart s → (names : List NameId) (id : NameId) → position (same_id id) names ≡ number_of_name (s id) (map s names)
number_of_name-position s apart names id = position_from-zero (same_id id) names ∙ counted_from s apart names id 0 ∙ by (number_of_name (s id) (map s names))
  where
    by : (number : Option ℕ) → option_map (λ n. n + 0) number ≡ number
    by None = refl
    by (Some n) = ap Some (omega arith)
