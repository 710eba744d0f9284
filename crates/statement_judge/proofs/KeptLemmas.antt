-- Numbers of combinations, where more of them join.
use Rattle.std.proofs.Common.{◌≡◌, ℕ, zero, suc, ◌<◌, ◌≤◌, List, [], ◌∷◌, ◌++◌, length, get_or, replicate, slice_get, nat_eq, true, Option, Some, None, refl, ap, ap₂, ◌∙◌, arith, length-append}
use Rattle.std.specs.Prelude.{slice_set}
use Rattle.std.specs.Option.{option_eq}
use Rattle.std.proofs.lemmas.Bool.{and_parts, eqb-true, false≢true}
use Rattle.std.proofs.lemmas.List.{length-map, map-set}
use Rattle.std.proofs.lemmas.Option.{get_or_from_slice_get, slice_get-map}
use Rattle.node_surroundings.proofs.ListLemmas.{map-replicate}
use Rattle.statement_judge.specs.declared.enclosing.Enclosing.{Enclosing}
use Rattle.statement_judge.specs.contracts.enclosing.EnclosingPartialEq.TheImpl as keys
use Rattle.statement_judge.specs.Enclosing.{nothing_above}
use Rattle.statement_judge.specs.Kept.{AreWithin, IsLonger, setting_seen, settings_seen}

-- a combination stays where more come behind it
setting-longer : (settings more : List Enclosing) (number : ℕ) → number < length settings
    → get_or (settings ++ more) number nothing_above ≡ get_or settings number nothing_above
setting-longer [] more number within = absurd (omega (arith, within))
setting-longer (setting ∷ settings) more zero within = refl
setting-longer (setting ∷ settings) more (suc number) within = setting-longer settings more number (omega (arith, within))

-- so the numbers stand for the same
settings_seen-more : (settings more : List Enclosing) (numbers : List ℕ) → AreWithin (length settings) numbers
    → settings_seen (settings ++ more) numbers ≡ settings_seen settings numbers
settings_seen-more settings more [] within = refl
settings_seen-more settings more (number ∷ numbers) within =
    λ i. setting-longer settings more number within.0 i ∷ settings_seen-more settings more numbers within.1 i

settings_seen-longer : (settings later : List Enclosing) (numbers : List ℕ) → IsLonger settings later → AreWithin (length settings) numbers
    → settings_seen later numbers ≡ settings_seen settings numbers
settings_seen-longer settings later numbers (more, is) within =
    ap (λ all. settings_seen all numbers) is ∙ settings_seen-more settings more numbers within

-- numbers are within where more combinations came and one number is another
AreWithin-more : (count later : ℕ) (numbers : List ℕ) → count ≤ later → AreWithin count numbers → AreWithin later numbers
AreWithin-more count later [] order within = within
AreWithin-more count later (number ∷ numbers) order within =
    let first : number < count = within.0 in
    (omega (arith, order, first), AreWithin-more count later numbers order within.1)

pub AreWithin-set : (count later : ℕ) (numbers : List ℕ) (handle number : ℕ) → count ≤ later → AreWithin count numbers → number < later
    → AreWithin later (slice_set numbers handle number)
AreWithin-set count later [] handle number order within new = within
AreWithin-set count later (first ∷ numbers) zero number order within new = (new, AreWithin-more count later numbers order within.1)
AreWithin-set count later (first ∷ numbers) (suc handle) number order within new =
    let here : first < count = within.0 in
    (omega (arith, order, here), AreWithin-set count later numbers handle number order within.1 new)

pub length-longer : (settings later : List Enclosing) → IsLonger settings later → length settings ≤ length later
length-longer settings later (more, is) = omega (arith, ap length is, length-append settings more)

-- a number is within
pub AreWithin-at : (count : ℕ) (numbers : List ℕ) (handle d : ℕ) → AreWithin count numbers → handle < length numbers → get_or numbers handle d < count
AreWithin-at count [] handle d within inside = absurd (omega (arith, inside))
AreWithin-at count (number ∷ numbers) zero d within inside = within.0
AreWithin-at count (number ∷ numbers) (suc handle) d within inside = AreWithin-at count numbers handle d within.1 (omega (arith, inside))

pub AreWithin-zeros : (count : ℕ) → AreWithin 1 (replicate count 0)
AreWithin-zeros zero = tt
AreWithin-zeros (suc count) = (omega arith, AreWithin-zeros count)

-- Combinations that compare alike are one

same_handles : (one other : Option ℕ) → option_eq nat_eq one other ≡ true → one ≡ other
same_handles None None is = refl
same_handles None (Some other) is = absurd (false≢true is)
same_handles (Some one) None is = absurd (false≢true is)
same_handles (Some one) (Some other) is = ap Some (eqb-true one other is)

pub same_enclosing : (one other : Enclosing) → keys.eq-value.it one other ≡ true → one ≡ other
same_enclosing one other is =
    let first = and_parts _ _ is in
    let second = and_parts _ _ first.1 in
    let third = and_parts _ _ second.1 in
    let fourth = and_parts _ _ third.1 in
    let switch = same_handles one.switch other.switch first.0 in
    let left = same_handles one.left other.left second.0 in
    let continued = same_handles one.continued other.continued third.0 in
    let innermost = same_handles one.innermost other.innermost fourth.0 in
    let outermost = same_handles one.outermost other.outermost fourth.1 in
    λ i. record { switch = switch i; left = left i; continued = continued i; innermost = innermost i; outermost = outermost i }

pub setting_last : (settings : List Enclosing) (enclosing : Enclosing) → slice_get (settings ++ enclosing ∷ []) (length settings) ≡ Some enclosing
setting_last [] enclosing = refl
setting_last (setting ∷ settings) enclosing = setting_last settings enclosing

-- What is kept

pub filled_kept :
    (settings : List Enclosing) (numbers : List ℕ) (count : ℕ) → settings ≡ nothing_above ∷ [] → numbers ≡ replicate count 0
    → settings_seen settings numbers ≡ replicate count nothing_above
filled_kept settings numbers count one all =
    ap (settings_seen settings) all ∙ map-replicate (setting_seen settings) count 0
    ∙ ap (λ list. replicate count (get_or list 0 nothing_above)) one

pub set_kept :
    (settings later : List Enclosing) (numbers : List ℕ) (all : List Enclosing) (handle number : ℕ) (enclosing : Enclosing)
    → IsLonger settings later → AreWithin (length settings) numbers → settings_seen settings numbers ≡ all → slice_get later number ≡ Some enclosing
    → settings_seen later (slice_set numbers handle number) ≡ slice_set all handle enclosing
set_kept settings later numbers all handle number enclosing longer within seen stands =
    map-set (setting_seen later) numbers handle number
    ∙ ap₂ (λ list one. slice_set list handle one) (settings_seen-longer settings later numbers longer within ∙ seen)
    (get_or_from_slice_get later number enclosing nothing_above stands)
