-- Where no block lacks anything, the graph has all that the walk asks for.
use Rattle.std.proofs.Common.{◌≡◌, inl, inr, ℕ, zero, suc, ◌+◌, ◌-◌, ◌<◌, ◌≤◌, ◌^◌, ℤ, Bool, true, false, nat_eq, nat_le, nat_lt, Option, Some, None, IfNone, List, [], ◌∷◌, length, get_or, unsigned_abs, if◌then◌else◌, refl, sym, ap, ◌∙◌, subst, arith}
use Rattle.std.proofs.lemmas.List.{get_or_past}
use Rattle.std.proofs.lemmas.Bool.{and_parts, ltb-true, leb-true}
use Rattle.meaning_paths.specs.Steps.{Step, Point, Add, Call, End}
use Rattle.meaning_paths.specs.Walks.{IsIn}
use Rattle.meaning_paths.specs.Graphs.{BasicBlock, BeginsWithPoint, EachBeginsWithPoint, empty_block, size_of_graph, size_of_steps, successors_at}
use Rattle.flows.specs.declared.wrong.Wrong.{Wrong}
use Rattle.flows.specs.declared.wrong.Wrong.TheVariants.{NoStep, NoPointFirst, NoSuchBlock, LargeSum}
use Rattle.flows.specs.Asked.{IsAsked, all_below, asked_fault, begins_with_point, block_fault, fault_from, fault_or}

point-first : (steps : List Step) → begins_with_point steps ≡ true → BeginsWithPoint steps
point-first [] is = tt
point-first (Point token moment ∷ steps) is = tt
point-first (Add token key by ∷ steps) is = absurd (cc)
point-first (Call token key enters leaves ∷ steps) is = absurd (cc)
point-first (End token ∷ steps) is = absurd (cc)

below-in : (blocks : ℕ) (numbers : List ℕ) (number : ℕ) → all_below blocks numbers ≡ true → IsIn number numbers → number < blocks
below-in blocks [] number all there = absurd there
below-in blocks (other ∷ numbers) number all (inl here) =
    subst (λ k. k < blocks) (sym here) (ltb-true other blocks (and_parts (nat_lt other blocks) (all_below blocks numbers) all).0)
below-in blocks (other ∷ numbers) number all (inr there) = below-in blocks numbers number (and_parts (nat_lt other blocks) (all_below blocks numbers) all).1 there

three : (points below small : Bool) → ◌≡◌ {A = Option Wrong} (if points then (if below then (if small then None else Some LargeSum) else Some NoSuchBlock) else Some NoPointFirst) None
    → (points ≡ true) × (below ≡ true) × (small ≡ true)
three true true true none = (refl, refl, refl)
three true true false none = absurd (cc)
three true false small none = absurd (cc)
three false below small none = absurd (cc)

neither : (number : ℕ) (fault : Option Wrong) (later : Option (ℕ × Wrong)) → fault_or number fault later ≡ None → (fault ≡ None) × (later ≡ None)
neither number None later none = (refl, none)
neither number (Some wrong) later none = absurd (cc)

none-of-two : (empty fits : Bool) (later : Option (ℕ × Wrong)) → ◌≡◌ {A = Option (ℕ × Wrong)} (if empty then Some (0, NoStep) else if fits then later else Some (0, LargeSum)) None
    → (empty ≡ false) × (fits ≡ true) × (later ≡ None)
none-of-two true fits later none = absurd (cc)
none-of-two false true later none = (refl, refl, none)
none-of-two false false later none = absurd (cc)

-- a number that isn't 0 is more
some : (n : ℕ) → nat_eq n 0 ≡ false → 0 < n
some zero is = absurd (cc)
some (suc n) is = omega arith

-- what holds of each block there, and of one that isn't there
nowhere : (P : BasicBlock → Type 0) → P empty_block → (k : ℕ) → P (get_or [] k empty_block)
nowhere P none k = subst P (sym (get_or_past [] k empty_block (omega arith))) none

at-front : (P : BasicBlock → Type 0) (block : BasicBlock) (rest : List BasicBlock) → P block → ((k : ℕ) → P (get_or rest k empty_block)) → (k : ℕ) → P (get_or (block ∷ rest) k empty_block)
at-front P block rest here later zero = here
at-front P block rest here later (suc k) = later k

record LackNothing (blocks left : ℕ) (rest : List BasicBlock) : Type 0 where
  pub points : EachBeginsWithPoint rest
  pub closed : (number other : ℕ) → IsIn other (successors_at rest number) → other < blocks
  pub small : size_of_graph rest ≤ left

lack-nothing : (blocks left number : ℕ) (rest : List BasicBlock) → fault_from blocks left number rest ≡ None → LackNothing blocks left rest
lack-nothing blocks left number [] none =
    record {
      points = nowhere (λ (block : BasicBlock). BeginsWithPoint block.steps) tt;
      closed = nowhere (λ (block : BasicBlock). (other : ℕ) → IsIn other block.successors → other < blocks) (λ other there. absurd there);
      small = omega arith;
    }
lack-nothing blocks left number (block ∷ rest) none =
    let parts = neither number (block_fault blocks left block) (fault_from blocks (left - size_of_steps block.steps) (number + 1) rest) none in
    let own = three (begins_with_point block.steps) (all_below blocks block.successors) (nat_le (size_of_steps block.steps) left) parts.0 in
    let later = lack-nothing blocks (left - size_of_steps block.steps) (number + 1) rest parts.1 in
    record {
      points = at-front (λ (found : BasicBlock). BeginsWithPoint found.steps) block rest (point-first block.steps own.0) later.points;
      closed = at-front (λ (found : BasicBlock). (other : ℕ) → IsIn other found.successors → other < blocks) block rest (λ other there. below-in blocks block.successors other own.1 there) later.closed;
      small = omega (arith, leb-true (size_of_steps block.steps) left own.2, later.small);
    }

asked : (graph : List BasicBlock) (enters : ℤ) → asked_fault graph enters ≡ None → IsAsked graph enters
asked graph enters none =
    let left = (2 ^ 63 - 1) - unsigned_abs enters in
    let parts = none-of-two (nat_eq (length graph) 0) (nat_le (unsigned_abs enters) (2 ^ 63 - 1)) (fault_from (length graph) left 0 graph) none in
    let whole = lack-nothing (length graph) left 0 graph parts.2 in
    record {
      begins = some (length graph) parts.0;
      closed = whole.closed;
      points = whole.points;
      small = omega (arith, leb-true (unsigned_abs enters) (2 ^ 63 - 1) parts.1, whole.small);
    }

pub asked-if : (graph : List BasicBlock) (enters : ℤ) (fault : Option (ℕ × Wrong)) → fault ≡ asked_fault graph enters → IfNone fault (IsAsked graph enters)
asked-if graph enters None is = asked graph enters (sym is)
asked-if graph enters (Some found) is = tt

-- One block more lacks nothing, or it is the first that does.
pub one-less : (blocks left less number : ℕ) (block : BasicBlock) (later : List BasicBlock) → block_fault blocks left block ≡ None → less ≡ left - size_of_steps block.steps
    → fault_from blocks left number (block ∷ later) ≡ fault_from blocks less (number + 1) later
one-less blocks left less number block later none same =
    ap (λ (fault : Option Wrong). fault_or number fault (fault_from blocks (left - size_of_steps block.steps) (number + 1) later)) none
    ∙ ap (λ (rest : ℕ). fault_from blocks rest (number + 1) later) (sym same)

pub first-lacking : (blocks left number : ℕ) (block : BasicBlock) (later : List BasicBlock) (wrong : Wrong) → block_fault blocks left block ≡ Some wrong
    → fault_from blocks left number (block ∷ later) ≡ Some (number, wrong)
first-lacking blocks left number block later wrong lacks =
    ap (λ (fault : Option Wrong). fault_or number fault (fault_from blocks (left - size_of_steps block.steps) (number + 1) later)) lacks
