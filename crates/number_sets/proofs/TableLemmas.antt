-- Sets in a table that grows, and the numbers of a set that is made of two halves.
use Rattle.std.proofs.Common.{◌≡◌, ℕ, zero, suc, ◌+◌, ◌-◌, ◌<◌, ◌≤◌, Bool, true, false, ◌||◌, ◌&&◌, if◌then◌else◌, List, [], ◌∷◌, ◌++◌, length, map, slice_get, Some, unwrap_or, nat_eq, nat_lt, refl, sym, ap, ◌∙◌, append_assoc, append-nil, arith, length-append}
use Rattle.std.specs.List.{list_any}
use Rattle.std.proofs.lemmas.Bool.{ltb-false, ltb-true, ne_eqb, false≢true}
use Rattle.std.proofs.lemmas.Bool.Decides.{nat_tests}
use Rattle.std.proofs.lemmas.List.Folds.{list_any-append}
use Rattle.number_sets.specs.declared.sets.SetId.{SetId}
use Rattle.number_sets.specs.NumberSets.{Table, has, holds, IsSet, Extends}

-- an element of a list stays where more come behind it
pub slice_get-append : {X : Type 0} (xs ys : List X) (i : ℕ) → i < length xs → slice_get (xs ++ ys) i ≡ slice_get xs i
slice_get-append [] ys i within = absurd (omega arith)
slice_get-append (x ∷ xs) ys zero within = refl
slice_get-append (x ∷ xs) ys (suc i) within = slice_get-append xs ys i (omega arith)

-- the last of a list
pub slice_get-last : {X : Type 0} (xs : List X) (x : X) → slice_get (xs ++ x ∷ []) (length xs) ≡ Some x
slice_get-last [] x = refl
slice_get-last (y ∷ xs) x = slice_get-last xs x

-- a table extends itself
pub Extends-refl : (table : Table) → Extends table table
Extends-refl table = ([], sym (append-nil table))

-- a table that grew twice grew
pub Extends-Extends : (old mid new : Table) → Extends old mid → Extends mid new → Extends old new
Extends-Extends old mid new first later = (first.0 ++ later.0, later.1 ∙ ap (λ table. table ++ later.0) first.1 ∙ append_assoc old first.0 later.0)

-- a set that stands keeps its numbers where the table grows
pub has-Extends : (old new : Table) → Extends old new → (place n : ℕ) → place < length old → has new place n ≡ has old place n
has-Extends old new extends place n within =
    ap (λ table. has table place n) extends.1 ∙ ap (λ found. list_any (nat_eq n) (unwrap_or found [])) (slice_get-append old extends.0 place within)

-- the same of a set that is known by its id
pub holds-Extends : (old new : Table) → Extends old new → (set : SetId) → IsSet old set → (n : ℕ) → holds new set n ≡ holds old set n
holds-Extends old new extends set known n = has-Extends old new extends set.0 n known

-- it stays one of the table
pub IsSet-Extends : (old new : Table) → Extends old new → (set : SetId) → IsSet old set → IsSet new set
IsSet-Extends old new extends set known = omega (arith, ap length extends.1, length-append old extends.0)

-- one number among others, all of them raised
nat_eq-raised : (p n m : ℕ) → p ≤ n → nat_eq n (p + m) ≡ nat_eq (n - p) m
nat_eq-raised p n m above = grind (arith, nat_tests)

-- no raised number is below what it was raised by
pub list_any-below : (p n : ℕ) (ys : List ℕ) → n < p → list_any (nat_eq n) (map (λ m. p + m) ys) ≡ false
list_any-below p n [] below = refl
list_any-below p n (y ∷ ys) below =
    ap (λ here. here || list_any (nat_eq n) (map (λ m. p + m) ys)) (ne_eqb n (p + y) (λ same. omega arith)) ∙ list_any-below p n ys below

-- raised numbers are looked for as the numbers themselves
pub list_any-above : (p n : ℕ) (ys : List ℕ) → p ≤ n → list_any (nat_eq n) (map (λ m. p + m) ys) ≡ list_any (nat_eq (n - p)) ys
list_any-above p n [] above = refl
list_any-above p n (y ∷ ys) above =
    ap (λ here. here || list_any (nat_eq n) (map (λ m. p + m) ys)) (nat_eq-raised p n y above) ∙ ap (λ later. nat_eq (n - p) y || later) (list_any-above p n ys above)

-- of two tests that both hold, each holds
pub and_left : (a b : Bool) → a && b ≡ true → a ≡ true
and_left true b h = refl
and_left false b h = h

pub and_right : (a b : Bool) → a && b ≡ true → b ≡ true
and_right true b h = h
and_right false b h = absurd (false≢true h)

pub or-false : (b : Bool) → b || false ≡ b
or-false true = refl
or-false false = refl

-- two lists one behind the other, the second raised above the first
pub list_any-halves : (p n : ℕ) (xs ys : List ℕ) → (list_any (nat_eq n) xs ≡ true → n < p) → list_any (nat_eq n) (xs ++ map (λ m. p + m) ys) ≡ (if nat_lt n p then list_any (nat_eq n) xs else list_any (nat_eq (n - p)) ys)
list_any-halves p n xs ys bounded = list_any-append (nat_eq n) xs (map (λ m. p + m) ys) ∙ by (nat_lt n p) refl (list_any (nat_eq n) xs) refl
  where
    by : (below : Bool) → nat_lt n p ≡ below → (found : Bool) → list_any (nat_eq n) xs ≡ found → list_any (nat_eq n) xs || list_any (nat_eq n) (map (λ m. p + m) ys) ≡ (if below then list_any (nat_eq n) xs else list_any (nat_eq (n - p)) ys)
    by true e found f = ap (λ later. list_any (nat_eq n) xs || later) (list_any-below p n ys (ltb-true n p e)) ∙ or-false (list_any (nat_eq n) xs)
    by false e true f = absurd (omega (arith, bounded f, ltb-false n p e))
    by false e false f = ap (λ here. here || list_any (nat_eq n) (map (λ m. p + m) ys)) f ∙ list_any-above p n ys (ltb-false n p e)
