-- Numbers of marks, where more marks join those that they name.
use Rattle.std.proofs.Common.{◌≡◌, ℕ, zero, suc, ◌-◌, ◌<◌, ◌≤◌, List, [], ◌∷◌, ◌++◌, take, length, slice_get, Result, Ok, Err, OnOk, OnErr, refl, sym, subst, ap, ◌∙◌, arith, length-append}
use Rattle.std.specs.Prelude.{unwrap_or}
use Rattle.c_types.specs.Table.{IsLonger}
use Rattle.node_facts.specs.declared.marks.NodeMark.{NodeMark}
use Rattle.node_facts.specs.declared.marks.NodeMark.TheVariants as marks
use Rattle.node_facts.specs.Marks.{AreWithin, mark_at, marks_in}

at-front : (kept more : List NodeMark) (number : ℕ) → number < length kept → slice_get (kept ++ more) number ≡ slice_get kept number
at-front [] more number within = absurd (omega (arith, within))
at-front (mark ∷ kept) more zero within = refl
at-front (mark ∷ kept) more (suc number) within = at-front kept more number (omega (arith, within))

marks_in-more : (kept more : List NodeMark) (numbers : List ℕ) → AreWithin (length kept) numbers → marks_in (kept ++ more) numbers ≡ marks_in kept numbers
marks_in-more kept more [] within = refl
marks_in-more kept more (number ∷ numbers) within =
    λ i. unwrap_or (at-front kept more number within.0 i) marks.Unknown ∷ marks_in-more kept more numbers within.1 i

marks_in-longer : (kept later : List NodeMark) (numbers : List ℕ) → IsLonger kept later → AreWithin (length kept) numbers
    → marks_in later numbers ≡ marks_in kept numbers
marks_in-longer kept later numbers (more, is) within = ap (λ all. marks_in all numbers) is ∙ marks_in-more kept more numbers within

-- numbers below one are below a later one
AreWithin-more : (count later : ℕ) (numbers : List ℕ) → count ≤ later → AreWithin count numbers → AreWithin later numbers
AreWithin-more count later [] order within = within
AreWithin-more count later (number ∷ numbers) order within =
    let first : number < count = within.0 in
    (omega (arith, order, first), AreWithin-more count later numbers order within.1)

pub AreWithin-longer : (kept later : List NodeMark) (numbers : List ℕ) → IsLonger kept later → AreWithin (length kept) numbers → AreWithin (length later) numbers
AreWithin-longer kept later numbers (more, is) within =
    AreWithin-more (length kept) (length later) numbers (omega (arith, ap length is, length-append kept more)) within

-- one more
pub AreWithin-push : (count : ℕ) (numbers : List ℕ) (number : ℕ) → AreWithin count numbers → number < count → AreWithin count (numbers ++ number ∷ [])
AreWithin-push count [] number within new = (new, tt)
AreWithin-push count (first ∷ numbers) number within new = (within.0, AreWithin-push count numbers number within.1 new)

pub marks_in-push : (kept : List NodeMark) (numbers : List ℕ) (number : ℕ)
    → marks_in kept (numbers ++ number ∷ []) ≡ marks_in kept numbers ++ mark_at kept number ∷ []
marks_in-push kept [] number = refl
marks_in-push kept (first ∷ numbers) number = ap (λ marks. mark_at kept first ∷ marks) (marks_in-push kept numbers number)

-- one fewer
pub AreWithin-take : (count n : ℕ) (numbers : List ℕ) → AreWithin count numbers → AreWithin count (take n numbers)
AreWithin-take count zero numbers within = tt
AreWithin-take count (suc n) [] within = within
AreWithin-take count (suc n) (first ∷ numbers) within = (within.0, AreWithin-take count n numbers within.1)

-- What is kept of a list of nodes, where marks join.
module _ (kept later : List NodeMark) (numbers : List ℕ) (longer : IsLonger kept later) (within : AreWithin (length kept) numbers)
    (nodes : List NodeMark) (seen : marks_in kept numbers ≡ nodes) where
  pub stays : marks_in later numbers ≡ nodes
  stays = marks_in-longer kept later numbers longer within ∙ seen

  -- so it is where a call is refused
  pub stays-refused : {T E : Type 0} (result : Result T E) → OnErr result (marks_in later numbers ≡ nodes)
  stays-refused (Ok value) = tt
  stays-refused (Err fault) = stays

-- Either one more joins them, or none.
pub AreWithin-either : {T E : Type 0} (count : ℕ) (numbers later : List ℕ) (number : ℕ) (result : Result T E) → AreWithin count numbers → number < count
    → OnOk result (later ≡ numbers ++ number ∷ []) → OnErr result (later ≡ numbers) → AreWithin count later
AreWithin-either count numbers later number (Ok value) within new is none =
    subst (AreWithin count) (sym is) (AreWithin-push count numbers number within new)
AreWithin-either count numbers later number (Err fault) within new none is = subst (AreWithin count) (sym is) within
