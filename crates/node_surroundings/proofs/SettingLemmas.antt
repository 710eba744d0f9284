-- Lists of settings of which one is another.
use Rattle.std.proofs.Common.{◌≡◌, ℕ, zero, suc, ◌<◌, ◌/◌, List, [], ◌∷◌, ◌++◌, length, get_or, refl, sym, ap, subst, ◌∙◌, arith}
use Rattle.std.specs.Prelude.{Result, Ok, Err, OnErr, slice_set}
use Rattle.std.specs.Global.{Vec}
use Rattle.node_surroundings.specs.declared.surrounding.Around.{Around}
use Rattle.node_surroundings.specs.Kept.{IsLonger, lists_of, settings_at}

-- the one of a node, as it is kept
list_read : (lists : List (Vec Around)) (list : ℕ) (was : Vec Around) → list < length lists → was ≡ get_or lists list was
    → get_or (lists_of lists) list [] ≡ was.items
list_read [] list was within found = absurd (omega (arith, within))
list_read (first ∷ lists) zero was within found = ap (λ (v : Vec Around). v.items) (sym found)
list_read (first ∷ lists) (suc list) was within found = list_read lists list was (omega (arith, within)) found

pub settings_read : (lists : List (Vec Around)) (handle list : ℕ) (was : Vec Around) → list ≡ handle / 32768 → list < length lists
    → was ≡ get_or lists list was → settings_at lists handle ≡ was.items
settings_read lists handle list was is within found = ap (λ n. get_or (lists_of lists) n []) (sym is) ∙ list_read lists list was within found

-- the one that was set
pub list_at-set : (lists : List (Vec Around)) (list : ℕ) (new : Vec Around) → list < length lists
    → get_or (lists_of (slice_set lists list new)) list [] ≡ new.items
list_at-set [] list new within = absurd (omega (arith, within))
list_at-set (was ∷ lists) zero new within = refl
list_at-set (was ∷ lists) (suc list) new within = list_at-set lists list new (omega (arith, within))

none_more : (settings : List Around) → settings ≡ settings ++ []
none_more [] = refl
none_more (setting ∷ settings) = ap (λ more. setting ∷ more) (none_more settings)

-- none has fewer settings where that one has not
pub lists_longer :
    (lists : List (Vec Around)) (list : ℕ) (was new : Vec Around) → list < length lists → was ≡ get_or lists list was → IsLonger was.items new.items
    → (other : ℕ) → IsLonger (get_or (lists_of lists) other []) (get_or (lists_of (slice_set lists list new)) other [])
lists_longer [] list was new within found longer other = absurd (omega (arith, within))
lists_longer (first ∷ lists) zero was new within found longer zero = subst (λ (v : Vec Around). IsLonger v.items new.items) found longer
lists_longer (first ∷ lists) zero was new within found longer (suc other) = ([], none_more (get_or (lists_of lists) other []))
lists_longer (first ∷ lists) (suc list) was new within found longer zero = ([], none_more first.items)
lists_longer (first ∷ lists) (suc list) was new within found longer (suc other) =
    lists_longer lists list was new (omega (arith, within)) found longer other

-- and all are the same where that one is
lists_kept : (lists : List (Vec Around)) (list : ℕ) (was new : Vec Around) → list < length lists → was ≡ get_or lists list was → new.items ≡ was.items
    → lists_of (slice_set lists list new) ≡ lists_of lists
lists_kept [] list was new within found same = refl
lists_kept (first ∷ lists) zero was new within found same =
    ap (λ settings. settings ∷ lists_of lists) (same ∙ ap (λ (v : Vec Around). v.items) found)
lists_kept (first ∷ lists) (suc list) was new within found same =
    ap (λ more. first.items ∷ more) (lists_kept lists list was new (omega (arith, within)) found same)

pub err_kept :
    {X E : Type 0} (result : Result X E) (lists : List (Vec Around)) (list : ℕ) (was new : Vec Around) → list < length lists
    → was ≡ get_or lists list was → OnErr result (new.items ≡ was.items) → OnErr result (lists_of (slice_set lists list new) ≡ lists_of lists)
err_kept (Ok x) lists list was new within found same = tt
err_kept (Err e) lists list was new within found same = lists_kept lists list was new within found same
