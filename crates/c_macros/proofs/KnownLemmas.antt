-- What is known of ids and sets stays known where tables grow.
use Rattle.std.proofs.Common.{◌≡◌, ◌∙◌, ℕ, List, [], ◌∷◌, ◌++◌, length, slice_get, Some, All, sym, ap, subst, arith, length-append, take, Result, Ok, Err, OnOk, IfErr, Vec, Global}
use Rattle.std.proofs.lemmas.List.Elements.{All-weaker, All-head, All-tail, All-take}
use Rattle.std.proofs.Math.ListN.{get_or-append}
use Rattle.std.proofs.lemmas.Option.{same_Some, slice_get-get_or, slice_get_within}
use Rattle.number_sets.specs.NumberSets.{IsSet}
use Rattle.number_sets.specs.NumberSets as sets
use Rattle.number_sets.specs.declared.sets.SetId.{SetId}
use Rattle.c_tokens.specs.Seen.{Extends}
use Rattle.c_tokens.proofs.SeenLemmas.{IsKnown-Extends}
use Rattle.c_macros.specs.declared.item.Item.{Item}
use Rattle.c_macros.specs.declared.run.Call.{Call}
use Rattle.c_macros.specs.Reading.{HasName, HasSet}
use Rattle.c_macros.specs.Ends.{Ends}
use Rattle.c_macros.specs.Run.{Fails, IsKnownItem, IsKnownCall, IsKnownRun, outcome}
use Rattle.c_macros.specs.Stops.{AreClosings}
use Rattle.c_macros.specs.Table.{Table}
use Rattle.c_macros.specs.Waiting.{Waiting}
use Rattle.c_macros.specs.declared.budget.Budget.{Budget}
use Rattle.c_macros.specs.declared.expand_fault.ExpandFault.{ExpandFault}
use Rattle.c_macros.specs.declared.expand_fault.ExpandFault.TheVariants.{Memory}
use Rattle.c_macros.specs.declared.run.Run.{Run}

pub IsSet-later : (table grown : sets.Table) → sets.Extends table grown → (set : SetId) → IsSet table set → IsSet grown set
IsSet-later table grown more set is = omega (arith, is, ap length more.1, length-append table more.0)

pub known-later : (names later : List (List ℕ)) (table grown : sets.Table) → Extends names later → sets.Extends table grown → (item : Item) → IsKnownItem names table item → IsKnownItem later grown item
known-later names later table grown more_names more_sets item known = record {
  name = IsKnown-Extends names later more_names item.token.name known.name;
  set = IsSet-later table grown more_sets item.hides known.set;
}

pub call-later : (names later : List (List ℕ)) (table grown : sets.Table) → Extends names later → sets.Extends table grown → (call : Call) → IsKnownCall names table call → IsKnownCall later grown call
call-later names later table grown more_names more_sets call known = record {
  name = known-later names later table grown more_names more_sets call.name known.name;
  hides = IsSet-later table grown more_sets call.hides known.hides;
}

pub sets-later : (table grown : sets.Table) → sets.Extends table grown → (items : List Item) → All (HasSet table) items → All (HasSet grown) items
sets-later table grown more items known = All-weaker (HasSet table) (HasSet grown) (λ item. IsSet-later table grown more item.hides) items known

pub items-later : (names later : List (List ℕ)) (table grown : sets.Table) → Extends names later → sets.Extends table grown → (items : List Item) → All (IsKnownItem names table) items → All (IsKnownItem later grown) items
items-later names later table grown more_names more_sets items known =
    All-weaker (IsKnownItem names table) (IsKnownItem later grown) (known-later names later table grown more_names more_sets) items known

pub calls-later : (names later : List (List ℕ)) (table grown : sets.Table) → Extends names later → sets.Extends table grown → (calls : List Call) → All (IsKnownCall names table) calls → All (IsKnownCall later grown) calls
calls-later names later table grown more_names more_sets calls known =
    All-weaker (IsKnownCall names table) (IsKnownCall later grown) (call-later names later table grown more_names more_sets) calls known

-- the front of a list, and its last element
pub All-front : {X : Type 0} (P : X → Type 0) (xs ys : List X) → All P (xs ++ ys) → All P xs
All-front P xs ys all = λ k d below. subst P (get_or-append xs ys d k below) (all k d (omega (arith, below, length-append xs ys)))

pub All-back : {X : Type 0} (P : X → Type 0) (xs ys : List X) → All P (xs ++ ys) → All P ys
All-back P [] ys all = all
All-back P (x ∷ xs) ys all = All-back P xs ys (All-tail P x (xs ++ ys) all)

-- an element that is found
pub found-has : {X : Type 0} (P : X → Type 0) (xs : List X) (k : ℕ) (x : X) → All P xs → slice_get xs k ≡ Some x → P x
found-has P xs k x all at =
    let within = slice_get_within xs k x at in
    subst P (same_Some _ _ (sym (slice_get-get_or xs k x within) ∙ at)) (all k x within)

pub All-last : {X : Type 0} (P : X → Type 0) (xs : List X) (x : X) → All P (xs ++ x ∷ []) → P x
All-last P xs x all = All-head P x [] (All-back P xs (x ∷ []) all)

-- what holds of each where a call succeeds
pub on_ok_from : {X T E : Type 0} (P : X → Type 0) (Q R : Type 0) (r : Result T E) → ((x : X) → OnOk r (P x)) → OnOk r Q → (((x : X) → P x) → Q → R) → OnOk r R
on_ok_from P Q R (Ok done) each other then = then each other
on_ok_from P Q R (Err fault) each other then = tt

pub on_ok_both : {T E : Type 0} (P Q : Type 0) (r : Result T E) → OnOk r P → OnOk r Q → OnOk r (P × Q)
on_ok_both P Q (Ok done) first second = (first, second)
on_ok_both P Q (Err fault) first second = tt

pub known-both : (names : List (List ℕ)) (table : sets.Table) (items : List Item) → All (HasName names) items → All (HasSet table) items → All (IsKnownItem names table) items
known-both names table items has_name has_set = λ k d below. record { name = has_name k d below; set = has_set k d below }

pub names-known : (names : List (List ℕ)) (table : sets.Table) (items : List Item) → All (IsKnownItem names table) items → All (HasName names) items
names-known names table items known = λ k d below. (known k d below).name

pub sets-known : (names : List (List ℕ)) (table : sets.Table) (items : List Item) → All (IsKnownItem names table) items → All (HasSet table) items
sets-known names table items known = λ k d below. (known k d below).set

-- a run that a call has left
pub left-known : (names : List (List ℕ)) (run next : Run) (put_count raw_count : ℕ) → IsKnownRun names run → next.sets ≡ run.sets → next.work ≡ run.work → next.calls ≡ run.calls → next.closings ≡ run.closings
    → next.put.items ≡ take put_count run.put.items → next.raw.items ≡ take raw_count run.raw.items → IsKnownRun names next
left-known names run next put_count raw_count known same work calls closings put raw = record {
  closings = subst (λ (v : Vec Item Global). AreClosings v.items next.closings.items) (sym work) (subst (λ (v : Vec ℕ Global). AreClosings run.work.items v.items) (sym closings) known.closings);
  work = subst (λ (v : Vec Item Global). All (IsKnownItem names next.sets) v.items) (sym work) (items run.work.items known.work);
  put = subst (All (IsKnownItem names next.sets)) (sym put) (All-take (IsKnownItem names next.sets) put_count run.put.items (items run.put.items known.put));
  raw = subst (All (IsKnownItem names next.sets)) (sym raw) (All-take (IsKnownItem names next.sets) raw_count run.raw.items (items run.raw.items known.raw));
  calls = subst (λ (v : Vec Call Global). All (IsKnownCall names next.sets) v.items) (sym calls) (subst (λ table. All (IsKnownCall names table) run.calls.items) (sym same) known.calls);
  some_set = omega (arith, known.some_set, ap length same);
}
  where
    items : (all : List Item) → All (IsKnownItem names run.sets) all → All (IsKnownItem names next.sets) all
    items all here = subst (λ table. All (IsKnownItem names table) all) (sym same) here

-- want of memory says nothing of what comes
pub memory-fails : {T : Type 0} (names : List (List ℕ)) (next : Run) (table : Table) (waits : List Waiting) (made now : List Item) (b : Budget) (r : Result T ExpandFault) → IfErr r (λ fault. fault ≡ Memory) → IfErr r (Fails names next table waits made now b)
memory-fails names next table waits made now b (Ok done) only = tt
memory-fails names next table waits made now b (Err fault) only = λ r reads f is. subst (λ x. Ends x (outcome f r table waits made now b)) (sym only) tt

-- a run of which the work, the sets and the laid body are others
pub laid-known : (names later : List (List ℕ)) (run next : Run) (before : sets.Table) → Extends names later → sets.Extends before next.sets → IsKnownRun names run → before ≡ run.sets
    → next.put ≡ run.put → next.raw ≡ run.raw → next.calls ≡ run.calls → AreClosings next.work.items next.closings.items → All (IsKnownItem later next.sets) next.work.items → IsKnownRun later next
laid-known names later run next before more_names more known same put raw calls closings work = record {
  closings = closings;
  work = work;
  put = subst (λ (v : Vec Item Global). All (IsKnownItem later next.sets) v.items) (sym put) (items-later names later run.sets next.sets more_names grown run.put.items known.put);
  raw = subst (λ (v : Vec Item Global). All (IsKnownItem later next.sets) v.items) (sym raw) (items-later names later run.sets next.sets more_names grown run.raw.items known.raw);
  calls = subst (λ (v : Vec Call Global). All (IsKnownCall later next.sets) v.items) (sym calls) (calls-later names later run.sets next.sets more_names grown run.calls.items known.calls);
  some_set = omega (arith, known.some_set, ap length grown.1, length-append run.sets grown.0);
}
  where
    grown : sets.Extends run.sets next.sets
    grown = subst (λ t. sets.Extends t next.sets) same more
