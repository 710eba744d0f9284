-- A list of failures in order is known by the first failure of each kind, and whatever was found has one.
use Rattle.std.proofs.Common.{◌≡◌, List, [], ◌∷◌, Bool, true, false, cond, Option, Some, None, unwrap_or, refl, sym, ap, ap₂, ◌∙◌, is_eq, Ordering, Less, Equal, Greater}
use Rattle.std.specs.List.{AllByRecursion}
use Rattle.std.specs.Ordering.{ordering_reverse}
use Rattle.std.specs.Cmp.{IsTotalOrder}
use Rattle.std.proofs.lemmas.Cmp.{alike_right, nat_cmp_total, on_total, tied_itself, then_total}
use Rattle.std.proofs.lemmas.Option.{none-some}
use Rattle.vocabulary.specs.Rules.{rule_number}
use Rattle.meaning_operands.specs.Failures.{Failure}
use Rattle.meaning_warnings.specs.Listing.{order_of, first_like, AreOrdered, IsListing}

-- the order is total: of tokens, of rules, of parts
pub total : IsTotalOrder order_of
total =
    then_total (then_total (on_total (λ (f : Failure). f.token) nat_cmp_total) (on_total (λ (f : Failure). rule_number f.rule) nat_cmp_total))
    (on_total (λ (f : Failure). f.part) nat_cmp_total)

-- all of them are behind it
abbrev pub AreBehind : Failure → List Failure → Type 0
AreBehind f fs = AllByRecursion (λ other. order_of f other ≡ Less) fs

-- none of those behind a failure is one with it
none-behind : (f : Failure) (fs : List Failure) → AreBehind f fs → first_like f fs ≡ None
none-behind f [] all = refl
none-behind f (g ∷ fs) all = rw (all.0, none-behind f fs all.1) refl

-- those that are one have the same first
pub like-one : (f g : Failure) (fs : List Failure) → order_of f g ≡ Equal → first_like f fs ≡ first_like g fs
like-one f g [] e = refl
like-one f g (h ∷ fs) e = rw (total.congr f g h e, like-one f g fs e) refl

-- what is behind a later one is behind an earlier one
pub behind-earlier : (f g : Failure) (fs : List Failure) → order_of f g ≡ Less → AreBehind g fs → AreBehind f fs
behind-earlier f g [] before all = all
behind-earlier f g (h ∷ fs) before all = (total.trans f g h before all.0, behind-earlier f g fs before all.1)

behind-one : (f g : Failure) (fs : List Failure) → order_of f g ≡ Equal → AreBehind g fs → AreBehind f fs
behind-one f g [] e all = all
behind-one f g (h ∷ fs) e all = (total.congr f g h e ∙ all.0, behind-one f g fs e all.1)

turned : (f g : Failure) (o : Ordering) → order_of f g ≡ o → order_of g f ≡ ordering_reverse o
turned f g o e = total.antisymm g f ∙ ap ordering_reverse e

-- a failure is the first like itself
first-self : (f : Failure) (fs : List Failure) → first_like f (f ∷ fs) ≡ Some f
first-self f fs = rw (tied_itself total f) refl

-- and none is, in a list that begins behind it
first-before : (f g : Failure) (fs : List Failure) → order_of f g ≡ Less → AreBehind g fs → first_like f (g ∷ fs) ≡ None
first-before f g fs before all = none-behind f (g ∷ fs) (before, behind-earlier f g fs before all)

-- One list

one_head : (f g : Failure) → Some f ≡ Some g → f ≡ g
one_head f g e = ap (λ (o : Option Failure). unwrap_or o f) e

-- without equal heads the rest have the same firsts
rest-same : (f g h : Failure) (fs gs : List Failure) → f ≡ g → AreBehind f fs → AreBehind g gs
    → first_like h (f ∷ fs) ≡ first_like h (g ∷ gs) → first_like h fs ≡ first_like h gs
rest-same f g h fs gs is all other same = rest_by (order_of h f) refl
  where
    of : order_of h g ≡ order_of h f
    of = ap (order_of h) (sym is)

    apart : is_eq (order_of h f) ≡ false → first_like h fs ≡ first_like h gs
    apart here =
        let there : is_eq (order_of h g) ≡ false = ap is_eq of ∙ here in
        ap (λ c. cond c (Some f) (first_like h fs)) (sym here) ∙ same ∙ ap (λ c. cond c (Some g) (first_like h gs)) there

    rest_by : (o : Ordering) → order_of h f ≡ o → first_like h fs ≡ first_like h gs
    rest_by Less e = apart (ap is_eq e)
    rest_by Equal e = like-one h f fs e ∙ none-behind f fs all ∙ sym (none-behind g gs other) ∙ sym (like-one h g gs (of ∙ e))
    rest_by Greater e = apart (ap is_eq e)

pub unique : (fs gs : List Failure) → AreOrdered fs → AreOrdered gs → ((h : Failure) → first_like h fs ≡ first_like h gs) → fs ≡ gs
unique [] [] up others same = refl
unique [] (g ∷ gs) up others same = absurd (none-some g (same g ∙ first-self g gs))
unique (f ∷ fs) [] up others same = absurd (none-some f (sym (same f) ∙ first-self f fs))
unique (f ∷ fs) (g ∷ gs) up others same = same_by (order_of f g) refl (unique fs gs up.1 others.1)
  where
    same_by : (o : Ordering) → order_of f g ≡ o → (((h : Failure) → first_like h fs ≡ first_like h gs) → fs ≡ gs) → f ∷ fs ≡ g ∷ gs
    same_by Less e rest = absurd (none-some f (sym (first-before f g gs e others.0) ∙ sym (same f) ∙ first-self f fs))
    same_by Greater e rest = absurd (none-some g (sym (first-before g f fs (turned f g Greater e) up.0) ∙ same g ∙ first-self g gs))
    same_by Equal e rest =
        let found : first_like f (g ∷ gs) ≡ Some g = rw e refl in
        let is = one_head f g (sym (first-self f fs) ∙ same f ∙ found) in
        ap₂ ◌∷◌ is (rest (λ h. rest-same f g h fs gs is up.0 others.0 (same h)))

-- There is one

-- the list for this order
abbrev pub by_order : Ordering → (less equal greater : List Failure) → List Failure
by_order Less less equal greater = less
by_order Equal less equal greater = equal
by_order Greater less equal greater = greater

-- a failure joins those in order, in the place of the one that is the same
abbrev pub placed : Failure → List Failure → List Failure
placed f [] = f ∷ []
placed f (g ∷ gs) = by_order (order_of f g) (f ∷ g ∷ gs) (f ∷ gs) (g ∷ placed f gs)

abbrev pub in_order : List Failure → List Failure
in_order [] = []
in_order (f ∷ fs) = placed f (in_order fs)

-- it stays behind what all of them are behind
placed-behind : (e f : Failure) (gs : List Failure) → order_of e f ≡ Less → AreBehind e gs → AreBehind e (placed f gs)
placed-behind e f [] before all = (before, all)
placed-behind e f (g ∷ gs) before all = behind_by (order_of f g) (placed-behind e f gs before all.1)
  where
    behind_by : (o : Ordering) → AreBehind e (placed f gs) → AreBehind e (by_order o (f ∷ g ∷ gs) (f ∷ gs) (g ∷ placed f gs))
    behind_by Less rest = (before, all)
    behind_by Equal rest = (before, all.1)
    behind_by Greater rest = (all.0, rest)

placed-ordered : (f : Failure) (gs : List Failure) → AreOrdered gs → AreOrdered (placed f gs)
placed-ordered f [] up = (tt, tt)
placed-ordered f (g ∷ gs) up = ordered_by (order_of f g) refl (placed-ordered f gs up.1)
  where
    ordered_by : (o : Ordering) → order_of f g ≡ o → AreOrdered (placed f gs) → AreOrdered (by_order o (f ∷ g ∷ gs) (f ∷ gs) (g ∷ placed f gs))
    ordered_by Less e rest = ((e, behind-earlier f g gs e up.0), up)
    ordered_by Equal e rest = (behind-one f g gs e up.0, up.1)
    ordered_by Greater e rest = (placed-behind g f gs (turned f g Greater e) up.0, rest)

-- the firsts behind it are those behind the failure in front
placed-same : (h f : Failure) (gs : List Failure) → first_like h (placed f gs) ≡ first_like h (f ∷ gs)
placed-same h f [] = refl
placed-same h f (g ∷ gs) = first_by (order_of f g) refl (placed-same h f gs)
  where
    equal : (b : Bool) → is_eq (order_of h f) ≡ b → order_of f g ≡ Equal
        → cond b (Some f) (first_like h gs) ≡ cond b (Some f) (cond (is_eq (order_of h g)) (Some g) (first_like h gs))
    equal true i e = refl
    equal false i e = sym (ap (λ c. cond c (Some g) (first_like h gs)) (sym (ap is_eq (alike_right total f g h e)) ∙ i))

    greater : (o : Ordering) → order_of h f ≡ o → order_of f g ≡ Greater → first_like h (placed f gs) ≡ first_like h (f ∷ gs)
        → cond (is_eq (order_of h g)) (Some g) (first_like h (placed f gs))
        ≡ cond (is_eq o) (Some f) (cond (is_eq (order_of h g)) (Some g) (first_like h gs))
    greater Less i e rest = ap (cond (is_eq (order_of h g)) (Some g)) (rest ∙ ap (λ o. cond (is_eq o) (Some f) (first_like h gs)) i)
    greater Greater i e rest = ap (cond (is_eq (order_of h g)) (Some g)) (rest ∙ ap (λ o. cond (is_eq o) (Some f) (first_like h gs)) i)
    greater Equal i e rest =
        ap (λ o. cond (is_eq o) (Some g) (first_like h (placed f gs))) (total.congr h f g i ∙ e)
        ∙ rest ∙ ap (λ o. cond (is_eq o) (Some f) (first_like h gs)) i

    first_by : (o : Ordering) → order_of f g ≡ o → first_like h (placed f gs) ≡ first_like h (f ∷ gs)
        → first_like h (by_order o (f ∷ g ∷ gs) (f ∷ gs) (g ∷ placed f gs)) ≡ first_like h (f ∷ g ∷ gs)
    first_by Less e rest = refl
    first_by Equal e rest = equal _ refl e
    first_by Greater e rest = greater _ refl e rest

in_order-ordered : (fs : List Failure) → AreOrdered (in_order fs)
in_order-ordered [] = tt
in_order-ordered (f ∷ fs) = placed-ordered f (in_order fs) (in_order-ordered fs)

in_order-same : (h : Failure) (fs : List Failure) → first_like h (in_order fs) ≡ first_like h fs
in_order-same h [] = refl
in_order-same h (f ∷ fs) = placed-same h f (in_order fs) ∙ ap (cond (is_eq (order_of h f)) (Some f)) (in_order-same h fs)

-- in order, each once
pub lists : (found : List Failure) → IsListing found (in_order found)
lists found = record { ordered = in_order-ordered found; same = λ h. in_order-same h found }
