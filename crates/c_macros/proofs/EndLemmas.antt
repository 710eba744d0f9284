-- What comes of a run where an argument of a call ends, and where the call does.
use Rattle.std.proofs.Common.{◌≡◌, ◌≤◌, ◌+◌, ◌-◌, ℕ, suc, Bool, true, false, List, [], ◌∷◌, ◌++◌, length, take, drop, slice_get, Some, None, refl, sym, ap, ◌∙◌, arith, length-append}
use Rattle.std.proofs.lemmas.List.{append_assoc, append-nil}
use Rattle.std.proofs.lemmas.Option.{none-some, same_Some, slice_get-get_or, slice_get_past}
use Rattle.std.proofs.Math.Seq.{get_or-append_seam, take-append_seam, drop-append_seam}
use Rattle.meaning_macros.specs.Bodies.{chains, stands_raw, stands_apart}
use Rattle.meaning_macros.specs.Hiding.{Hiding}
use Rattle.meaning_macros.specs.Macros as macros
use Rattle.meaning_macros.specs.Substitution.{substituted}
use Rattle.meaning_macros.specs.Expansion as expansion
use Rattle.meaning_macros.specs.Expansion.{Expanded, Expander, laid}
use Rattle.c_tokens.specs.Seen.{at_of}
use Rattle.c_macros.specs.declared.budget.Budget.{Budget}
use Rattle.c_macros.specs.declared.definition.Macro.{Macro}
use Rattle.c_macros.specs.declared.item.Item.{Item}
use Rattle.c_macros.specs.declared.operand.ParameterUse.{ParameterUse}
use Rattle.c_macros.specs.declared.run.Call.{Call}
use Rattle.c_macros.specs.declared.run.Run.{Run}
use Rattle.c_macros.specs.Argument.{if_asked}
use Rattle.c_macros.specs.Arguments.{arguments_by, in_a_row, ends_from}
use Rattle.c_macros.specs.Ends.{budget_by}
use Rattle.c_macros.specs.Laid.{LaidItems, Lays}
use Rattle.c_macros.specs.Lay.{SpacedOn, with_space}
use Rattle.c_macros.specs.Meaning.{IsExpansion, Suspended, put_all, resume, meaning}
use Rattle.c_macros.specs.Reading.{Reading, ReadsNames, hiding_by, hidings_by}
use Rattle.c_macros.specs.Run.{Comes, absent_one, all_suspended, macro_named, outcome, suspended_by, table_by}
use Rattle.c_macros.specs.Seen.{KeepsApart, Spelling, macro_by}
use Rattle.c_macros.specs.Substitution.{IsWhole}
use Rattle.c_macros.specs.Table.{Table, macro_at}
use Rattle.c_macros.specs.Uses.{use_in}
use Rattle.c_macros.specs.Waiting.{Waiting, Later, Done, Holds, Ended, InRow, backwards, end_if, one_done, with_absent, raws_of, puts_of, later_items, pending, floors, work_of, put_of, put_ends_of, raw_of, raw_ends_of, stops_of, call_of}
use Rattle.c_macros.proofs.BeginLemmas.{asked-read, named-is}
use Rattle.c_macros.proofs.BorderLemmas.{none_now}
use Rattle.c_macros.proofs.HoldLemmas.{Innermost, innermost, put-done, put_ends-done, puts-one, raw-done, raw_ends-done, raws-one, work-last, work-next}
use Rattle.c_macros.proofs.OpenLemmas.{last-absent, last-is, next-is}
use Rattle.c_macros.proofs.ReplaceLemmas.{laid-holds, whole-is}
use Rattle.c_macros.proofs.VectorLemmas.{ends-same, length-backwards, map-append}

-- An argument has ended

pub ended : (run after : Run) (call : Call) (mark : Item) (waits : List Waiting) (made now : List Item) → Holds run waits made now → length run.work.items ≤ run.floor
    → run.calls.items ≡ after.calls.items ++ call ∷ [] → run.work.items ≡ after.work.items ++ mark ∷ []
    → after.put.items ≡ run.put.items → after.put_ends.items ≡ run.put_ends.items ++ length run.put.items ∷ []
    → after.raw.items ≡ run.raw.items → after.raw_ends.items ≡ run.raw_ends.items ++ length run.raw.items ∷ [] → after.stops.items ≡ run.stops.items
    → Ended after call waits made now
ended run after call mark waits made now holds short calls work put put_ends raw raw_ends stops = record {
  w = w;
  ws = ws;
  are = inner.are;
  none = none;
  call_is = inner.call_is;
  mark = mark;
  work = sym work ∙ holds.work ∙ (λ i. work_of (inner.are i) ++ backwards (none i)) ∙ append-nil (work_of (w ∷ ws));
  put = put ∙ put_is ∙ put-done w ws made;
  put_ends = put_ends ∙ (λ i. (holds.put_ends ∙ ap put_ends_of inner.are) i ++ length (put_is i) ∷ []) ∙ put_ends-done w ws made;
  raw = raw ∙ raw_is ∙ raw-done w ws made;
  raw_ends = raw_ends ∙ (λ i. (holds.raw_ends ∙ ap raw_ends_of inner.are) i ++ length (raw_is i) ∷ []) ∙ raw_ends-done w ws made;
  stops = stops ∙ holds.stops ∙ ap stops_of inner.are;
  calls = inner.others_are;
}
  where
    inner : Innermost waits after.calls.items call
    inner = innermost waits after.calls.items call (sym calls ∙ holds.calls)

    w : Waiting
    w = inner.w

    ws : List Waiting
    ws = inner.ws

    none : now ≡ []
    none = none_now now (omega (arith, short, ap length holds.work, holds.floor, length-append (work_of waits) (backwards now)))

    put_is : run.put.items ≡ put_of (inner.w ∷ inner.ws) ++ made
    put_is = holds.put ∙ ap (λ calls_now. put_of calls_now ++ made) inner.are

    raw_is : run.raw.items ≡ raw_of (inner.w ∷ inner.ws)
    raw_is = holds.raw ∙ ap raw_of inner.are

-- The next argument begins

-- there is one, and so far it is read
record NextLater (below : ℕ) (todo : List Later) (closing : Item) (rest : List Item) (floor : ℕ) : Type 0 where
  p : Later
  ps : List Later
  are : todo ≡ p ∷ ps
  floor_is : floor ≡ below + length (pending ps closing rest)

next-later : (below : ℕ) (todo : List Later) (closing : Item) (rest : List Item) (before : List ℕ) (floor : ℕ) → slice_get (before ++ floors below todo closing rest) (length before) ≡ Some floor → NextLater below todo closing rest floor
next-later below [] closing rest before floor at =
    absurd (none-some floor (sym (slice_get_past (before ++ []) (length before) (omega (arith, ap length (append-nil before)))) ∙ at))
next-later below (p ∷ ps) closing rest before floor at = record {
  p = p;
  ps = ps;
  are = refl;
  floor_is = same_Some _ _ (sym at
      ∙ slice_get-get_or (before ++ floors below (p ∷ ps) closing rest) (length before) 0 (omega (arith, length-append before (floors below (p ∷ ps) closing rest)))
      ∙ ap Some (get_or-append_seam before (below + length (pending ps closing rest)) (floors below ps closing rest) 0));
}

last-later : (below : ℕ) (todo : List Later) (closing : Item) (rest : List Item) (before : List ℕ) → slice_get (before ++ floors below todo closing rest) (length before) ≡ None → todo ≡ []
last-later below [] closing rest before at = refl
last-later below (p ∷ ps) closing rest before at =
    absurd (none-some (below + length (pending ps closing rest)) (sym at
    ∙ slice_get-get_or (before ++ floors below (p ∷ ps) closing rest) (length before) 0 (omega (arith, length-append before (floors below (p ∷ ps) closing rest)))
    ∙ ap Some (get_or-append_seam before (below + length (pending ps closing rest)) (floors below ps closing rest) 0)))

-- the call with its next argument read
abbrev next_of : Waiting → List Waiting → (made raw : List Item) → List Later → Waiting
next_of w ws made raw ps = record (one_done w made) { raw = raw; todo = ps; passed = w.passed ++ (length (work_of ws) + length (pending ps w.closing w.rest)) ∷ [] }

next-call : (w : Waiting) (ws : List Waiting) (made raw : List Item) (ps : List Later) → record (call_of w ws) { next_stop = (call_of w ws).next_stop + 1 } ≡ call_of (next_of w ws made raw ps) ws
next-call w ws made raw ps = λ i. record (call_of w ws) { next_stop = one_more i }
  where
    stop : ℕ
    stop = length (work_of ws) + length (pending ps w.closing w.rest)

    one_more : length (stops_of ws ++ w.passed) + 1 ≡ length (stops_of ws ++ (w.passed ++ (length (work_of ws) + length (pending ps w.closing w.rest)) ∷ []))
    one_more = omega (arith, length-append (stops_of ws) w.passed, length-append (stops_of ws) (w.passed ++ stop ∷ []), length-append w.passed (stop ∷ []))

next-holds : (run next : Run) (call : Call) (waits : List Waiting) (made now raw first : List Item) (e : Ended run call waits made now) (p : Later) (ps : List Later) → e.w.todo ≡ p ∷ ps
    → next.work.items ≡ (work_of e.ws ++ backwards (pending ps e.w.closing e.w.rest)) ++ backwards first
    → next.floor ≡ length (work_of e.ws) + length (pending ps e.w.closing e.w.rest)
    → next.put.items ≡ run.put.items → next.put_ends.items ≡ run.put_ends.items → next.raw.items ≡ run.raw.items ++ raw → next.raw_ends.items ≡ run.raw_ends.items → next.stops.items ≡ run.stops.items
    → next.calls.items ≡ run.calls.items ++ record call { next_stop = call.next_stop + 1 } ∷ []
    → Holds next (next_of e.w e.ws made raw ps ∷ e.ws) [] first
next-holds run next call waits made now raw first e p ps are work floor put put_ends raw_is raw_ends stops calls = record {
  work = work;
  floor = floor ∙ ap (λ n. length (work_of ws) + n) (sym (length-backwards (pending ps w.closing w.rest))) ∙ sym (length-append (work_of ws) (backwards (pending ps w.closing w.rest)));
  put = put ∙ e.put ∙ sym (append-nil (put_of (one_done w made ∷ ws)));
  put_ends = put_ends ∙ e.put_ends;
  raw = raw_is ∙ ap (λ xs. xs ++ raw) (e.raw ∙ append-nil (raw_of ws ++ in_a_row (raws_of (one_done w made).done)));
  raw_ends = raw_ends ∙ e.raw_ends;
  stops = stops ∙ e.stops ∙ ap (λ todo. (stops_of ws ++ w.passed) ++ floors (length (work_of ws)) todo w.closing w.rest) are
      ∙ sym (append_assoc (stops_of ws ++ w.passed) (stop ∷ []) (floors (length (work_of ws)) ps w.closing w.rest))
      ∙ ap (λ xs. xs ++ floors (length (work_of ws)) ps w.closing w.rest) (append_assoc (stops_of ws) w.passed (stop ∷ []));
  calls = calls ∙ λ i. e.calls i ++ (ap (λ (c : Call). record c { next_stop = c.next_stop + 1 }) e.call_is ∙ next-call w ws made raw ps) i ∷ [];
}
  where
    w : Waiting
    w = e.w

    ws : List Waiting
    ws = e.ws

    stop : ℕ
    stop = length (work_of e.ws) + length (pending ps e.w.closing e.w.rest)

raws-read : (r : Reading) (w : Waiting) (made : List Item) → arguments_by r (raws_of (one_done w made).done) ≡ arguments_by r (raws_of w.done) ++ hidings_by r w.raw ∷ []
raws-read r w made = ap (arguments_by r) (raws-one w.done (record { raw = w.raw; put = made })) ∙ map-append (hidings_by r) (raws_of w.done) (w.raw ∷ [])

puts-read : (r : Reading) (w : Waiting) (made : List Item) → arguments_by r (puts_of (one_done w made).done) ≡ arguments_by r (puts_of w.done) ++ hidings_by r made ∷ []
puts-read r w made = ap (arguments_by r) (puts-one w.done (record { raw = w.raw; put = made })) ∙ map-append (hidings_by r) (puts_of w.done) (made ∷ [])

-- the arguments that are ready, counted by their ends
length-ends : (n : ℕ) (lists : List (List Item)) → length (ends_from n lists) ≡ length lists
length-ends n [] = refl
length-ends n (list ∷ lists) = ap suc (length-ends (n + length list) lists)

length-arguments : (r : Reading) (lists : List (List Item)) → length (arguments_by r lists) ≡ length lists
length-arguments r [] = refl
length-arguments r (list ∷ lists) = ap suc (length-arguments r lists)

ready-count : (run : Run) (call : Call) (waits : List Waiting) (made now : List Item) (e : Ended run call waits made now) (r : Reading)
    → length run.put_ends.items - call.first_put_end ≡ length (arguments_by r (puts_of e.w.done) ++ hidings_by r made ∷ [])
ready-count run call waits made now e r =
    omega (
      arith,
      ap length e.put_ends,
      ap (λ (c : Call). c.first_put_end) e.call_is,
      length-append (put_ends_of e.ws) (ends_from (length (put_of e.ws ++ e.w.put)) (puts_of (one_done e.w made).done)),
      length-ends (length (put_of e.ws ++ e.w.put)) (puts_of (one_done e.w made).done),
      ap length (puts-read r e.w made),
      length-arguments r (puts_of (one_done e.w made).done),
    )

-- a run in which the next argument has begun
next-comes : (names : List (List ℕ)) (run next : Run) (table : Table) (call : Call) (waits : List Waiting) (made now : List Item) (m : Macro) (taken : ParameterUse) (k : ℕ) (b : Budget)
    → (e : Ended run call waits made now) (p : Later) (ps : List Later) → e.w.todo ≡ p ∷ ps → macro_at table call.name.token.name ≡ Some m
    → k ≡ length run.put_ends.items - call.first_put_end → ((s : Spelling) → KeepsApart s → taken ≡ use_in k (chains (macro_by s m)))
    → Holds next (next_of e.w e.ws made (if_asked taken.raw p.items) ps ∷ e.ws) [] (if_asked taken.apart p.items)
    → Comes names next table waits made now b b
next-comes names run next table call waits made now m taken k b e p ps are found count uses holds = record {
  shape = record { waits = next_of w ws made (if_asked taken.raw p.items) ps ∷ ws; made = []; now = if_asked taken.apart p.items; holds = holds };
  means = λ r reads f is.
      let s = suspended_by r table w in
      let ss = all_suspended r table ws in
      let others = arguments_by r (later_items ps) ++ absent_one w.absent in
      let n = length (s.readys ++ hidings_by r made ∷ []) in
      let body = chains s.call.macro in
      let named : macro_named r.spelled table w.name.token.name ≡ macro_by r.spelled m = ap (λ (c : Call). macro_named r.spelled table c.name.token.name) (sym e.call_is) ∙ named-is r.spelled table call.name.token.name m found in
      let use_is : taken ≡ use_in n body = uses r.spelled reads.spells.apart ∙ (λ i. use_in ((count ∙ ready-count run call waits made now e r) i) (chains (sym named i))) in
      sym ((λ i. outcome f r table (e.are i) made (e.none i) b)
      ∙ next-is f (table_by r.spelled table) is ss s (hidings_by r made) (hidings_by r p.items) others (budget_by b) (ap (λ todo. arguments_by r (later_items todo) ++ absent_one w.absent) are)
      ∙ λ i. meaning f (record {
        call = s.call;
        raws = sym (raws-read r w made) i;
        readys = sym (puts-read r w made) i;
        raw = sym (ap (λ (u : ParameterUse). hidings_by r (if_asked u.raw p.items)) use_is ∙ asked-read r (stands_raw n body) p.items) i;
        later = others;
      } ∷ ss) [] (sym (ap (λ (u : ParameterUse). hidings_by r (if_asked u.apart p.items)) use_is ∙ asked-read r (stands_apart n body) p.items) i) (budget_by b));
}
  where
    w : Waiting
    w = e.w

    ws : List Waiting
    ws = e.ws

-- what the run is where the next argument begins, from what was done
pub begun-next : (names : List (List ℕ)) (run next : Run) (table : Table) (call : Call) (waits : List Waiting) (made now : List Item) (m : Macro) (taken : ParameterUse) (k floor : ℕ) (b : Budget)
    → (e : Ended run call waits made now) → slice_get run.stops.items call.next_stop ≡ Some floor → macro_at table call.name.token.name ≡ Some m
    → k ≡ length run.put_ends.items - call.first_put_end → ((s : Spelling) → KeepsApart s → taken ≡ use_in k (chains (macro_by s m)))
    → ((below items : List Item) → run.work.items ≡ below ++ backwards items → floor ≡ length below → next.work.items ≡ below ++ backwards (if_asked taken.apart items))
    → ((below items : List Item) → run.work.items ≡ below ++ backwards items → floor ≡ length below → next.raw.items ≡ run.raw.items ++ if_asked taken.raw items)
    → next.floor ≡ floor → next.put.items ≡ run.put.items → next.put_ends.items ≡ run.put_ends.items → next.raw_ends.items ≡ run.raw_ends.items → next.stops.items ≡ run.stops.items
    → next.calls.items ≡ run.calls.items ++ record call { next_stop = call.next_stop + 1 } ∷ []
    → Comes names next table waits made now b b
begun-next names run next table call waits made now m taken k floor b e at found count uses work raw floor_is put put_ends raw_ends stops calls =
    next-comes names run next table call waits made now m taken k b e later.p later.ps later.are found count uses
    (next-holds run next call waits made now (if_asked taken.raw later.p.items) (if_asked taken.apart later.p.items) e later.p later.ps later.are
    (work below later.p.items split floor_below) (floor_is ∙ later.floor_is) put put_ends (raw below later.p.items split floor_below) raw_ends stops calls)
  where
    later : NextLater (length (work_of e.ws)) e.w.todo e.w.closing e.w.rest floor
    later = next-later (length (work_of e.ws)) e.w.todo e.w.closing e.w.rest (stops_of e.ws ++ e.w.passed) floor
        ((λ i. slice_get (sym e.stops i) (sym (ap (λ (c : Call). c.next_stop) e.call_is) i)) ∙ at)

    below : List Item
    below = work_of e.ws ++ backwards (pending later.ps e.w.closing e.w.rest)

    split : run.work.items ≡ (work_of e.ws ++ backwards (pending later.ps e.w.closing e.w.rest)) ++ backwards later.p.items
    split = (ends-same run.work.items ((work_of e.ws ++ backwards (pending later.ps e.w.closing e.w.rest)) ++ backwards later.p.items) e.mark later.p.comma
        (e.work ∙ ap (λ todo. work_of e.ws ++ backwards (pending todo e.w.closing e.w.rest)) later.are ∙ work-next e.ws later.p later.ps e.w.closing e.w.rest)).0

    floor_below : floor ≡ length (work_of e.ws ++ backwards (pending later.ps e.w.closing e.w.rest))
    floor_below = later.floor_is ∙ omega (arith, length-append (work_of e.ws) (backwards (pending later.ps e.w.closing e.w.rest)), length-backwards (pending later.ps e.w.closing e.w.rest))

-- The call ends

pub no-later : (run : Run) (call : Call) (waits : List Waiting) (made now : List Item) (e : Ended run call waits made now) → slice_get run.stops.items call.next_stop ≡ None → e.w.todo ≡ []
no-later run call waits made now e at =
    last-later (length (work_of e.ws)) e.w.todo e.w.closing e.w.rest (stops_of e.ws ++ e.w.passed) ((λ i. slice_get (sym e.stops i) (sym (ap (λ (c : Call). c.next_stop) e.call_is) i)) ∙ at)

-- all arguments of the call
abbrev pub all_done : Waiting → List Item → List Done
all_done w made = (with_absent w.absent (one_done w made)).done

pub raw-row : (run : Run) (call : Call) (waits : List Waiting) (made now : List Item) (e : Ended run call waits made now) (items : List Item) (ends : List ℕ) → items ≡ run.raw.items → ends ≡ run.raw_ends.items ++ end_if call.absent (length run.raw.items)
    → InRow items ends call.first_raw call.first_raw_end (raws_of (all_done e.w made))
raw-row run call waits made now e items ends items_is ends_is = record {
  before = raw_of e.ws;
  before_ends = raw_ends_of e.ws;
  items_are = items_is ∙ e.raw ∙ items_by e.w.absent;
  ends_are = ends_is ∙ (λ i. e.raw_ends i ++ end_if (ap (λ (c : Call). c.absent) e.call_is i) (length (e.raw i))) ∙ ends_by e.w.absent;
  first_is = ap (λ (c : Call). c.first_raw) e.call_is;
  first_end_is = ap (λ (c : Call). c.first_raw_end) e.call_is;
}
  where
    w : Waiting
    w = one_done e.w made

    items_by : (absent : Bool) → raw_of (one_done e.w made ∷ e.ws) ≡ raw_of e.ws ++ in_a_row (raws_of (with_absent absent (one_done e.w made)).done)
    items_by true = raw-done w e.ws [] ∙ append-nil (raw_of e.ws ++ in_a_row (raws_of (one_done w []).done))
    items_by false = append-nil (raw_of e.ws ++ in_a_row (raws_of w.done))

    ends_by : (absent : Bool) → raw_ends_of (one_done e.w made ∷ e.ws) ++ end_if absent (length (raw_of (one_done e.w made ∷ e.ws))) ≡ raw_ends_of e.ws ++ ends_from (length (raw_of e.ws)) (raws_of (with_absent absent (one_done e.w made)).done)
    ends_by true = raw_ends-done w e.ws []
    ends_by false = append-nil (raw_ends_of (w ∷ e.ws))

pub put-row : (run : Run) (call : Call) (waits : List Waiting) (made now : List Item) (e : Ended run call waits made now) (items : List Item) (ends : List ℕ) → items ≡ run.put.items → ends ≡ run.put_ends.items ++ end_if call.absent (length run.put.items)
    → InRow items ends call.first_put call.first_put_end (puts_of (all_done e.w made))
put-row run call waits made now e items ends items_is ends_is = record {
  before = put_of e.ws ++ e.w.put;
  before_ends = put_ends_of e.ws;
  items_are = items_is ∙ e.put ∙ items_by e.w.absent;
  ends_are = ends_is ∙ (λ i. e.put_ends i ++ end_if (ap (λ (c : Call). c.absent) e.call_is i) (length (e.put i))) ∙ ends_by e.w.absent;
  first_is = ap (λ (c : Call). c.first_put) e.call_is;
  first_end_is = ap (λ (c : Call). c.first_put_end) e.call_is;
}
  where
    w : Waiting
    w = one_done e.w made

    items_by : (absent : Bool) → put_of (one_done e.w made ∷ e.ws) ≡ (put_of e.ws ++ e.w.put) ++ in_a_row (puts_of (with_absent absent (one_done e.w made)).done)
    items_by true = sym (append-nil (put_of (w ∷ e.ws))) ∙ put-done w e.ws []
    items_by false = refl

    ends_by : (absent : Bool) → put_ends_of (one_done e.w made ∷ e.ws) ++ end_if absent (length (put_of (one_done e.w made ∷ e.ws))) ≡ put_ends_of e.ws ++ ends_from (length (put_of e.ws ++ e.w.put)) (puts_of (with_absent absent (one_done e.w made)).done)
    ends_by true = ap (λ items. put_ends_of (w ∷ e.ws) ++ length items ∷ []) (sym (append-nil (put_of (w ∷ e.ws)))) ∙ put_ends-done w e.ws []
    ends_by false = append-nil (put_ends_of (w ∷ e.ws))

-- what stands in a row is what the arguments are
pub in-row : (items : List Item) (ends : List ℕ) (first first_end : ℕ) (lists : List (List Item)) → InRow items ends first first_end lists → (before : List Item) × ((items ≡ before ++ in_a_row lists) × ((first ≡ length before) × (drop first_end ends ≡ ends_from (length before) lists)))
in-row items ends first first_end lists row =
    (row.before, (row.items_are, (row.first_is, (λ i. drop (row.first_end_is i) (row.ends_are i)) ∙ drop-append_seam row.before_ends (ends_from (length row.before) lists))))

front-is : {X : Type 0} (n : ℕ) (all front back : List X) → all ≡ front ++ back → n ≡ length front → take n all ≡ front
front-is n all front back is count = (λ i. take (count i) (is i)) ∙ take-append_seam front back

-- a run that the call has left
pub left-holds : (run mid : Run) (call : Call) (waits : List Waiting) (made now : List Item) (ends raw_ends : List ℕ) (e : Ended run call waits made now) → e.w.todo ≡ []
    → mid.work.items ≡ run.work.items → mid.floor ≡ call.outer → mid.put.items ≡ take call.first_put run.put.items → mid.put_ends.items ≡ take call.first_put_end (run.put_ends.items ++ ends)
    → mid.raw.items ≡ take call.first_raw run.raw.items → mid.raw_ends.items ≡ take call.first_raw_end (run.raw_ends.items ++ raw_ends) → mid.stops.items ≡ take call.first_stop run.stops.items → mid.calls.items ≡ run.calls.items
    → Holds mid e.ws e.w.put e.w.rest
left-holds run mid call waits made now ends raw_ends e none work floor put put_ends raw raw_ends_is stops calls = record {
  work = work ∙ (ends-same run.work.items (work_of e.ws ++ backwards e.w.rest) e.mark e.w.closing
      (e.work ∙ ap (λ todo. work_of e.ws ++ backwards (pending todo e.w.closing e.w.rest)) none ∙ work-last e.ws e.w.closing e.w.rest)).0;
  floor = floor ∙ ap (λ (c : Call). c.outer) e.call_is;
  put = put ∙ front-is call.first_put run.put.items (put_of e.ws ++ e.w.put) (in_a_row (puts_of w.done)) e.put (ap (λ (c : Call). c.first_put) e.call_is);
  put_ends = put_ends ∙ front-is call.first_put_end (run.put_ends.items ++ ends) (put_ends_of e.ws) (ends_from (length (put_of e.ws ++ e.w.put)) (puts_of w.done) ++ ends)
      (ap (λ all. all ++ ends) e.put_ends ∙ append_assoc (put_ends_of e.ws) (ends_from (length (put_of e.ws ++ e.w.put)) (puts_of w.done)) ends) (ap (λ (c : Call). c.first_put_end) e.call_is);
  raw = raw ∙ front-is call.first_raw run.raw.items (raw_of e.ws) (in_a_row (raws_of w.done)) (e.raw ∙ append-nil (raw_of e.ws ++ in_a_row (raws_of w.done))) (ap (λ (c : Call). c.first_raw) e.call_is);
  raw_ends = raw_ends_is ∙ front-is call.first_raw_end (run.raw_ends.items ++ raw_ends) (raw_ends_of e.ws) (ends_from (length (raw_of e.ws)) (raws_of w.done) ++ raw_ends)
      (ap (λ all. all ++ raw_ends) e.raw_ends ∙ append_assoc (raw_ends_of e.ws) (ends_from (length (raw_of e.ws)) (raws_of w.done)) raw_ends) (ap (λ (c : Call). c.first_raw_end) e.call_is);
  stops = stops ∙ front-is call.first_stop run.stops.items (stops_of e.ws) (e.w.passed ++ floors (length (work_of e.ws)) e.w.todo e.w.closing e.w.rest)
      (e.stops ∙ append_assoc (stops_of e.ws) e.w.passed (floors (length (work_of e.ws)) e.w.todo e.w.closing e.w.rest)) (ap (λ (c : Call). c.first_stop) e.call_is);
  calls = calls ∙ e.calls;
}
  where
    w : Waiting
    w = one_done e.w made

-- what a call comes to whose last argument has ended
last-means : (f : Expander) (table : macros.MacroTable) → IsExpansion table f → (ss : List Suspended) (s : Suspended) (made : List Hiding) (b : expansion.Budget) (absent : Bool) → s.later ≡ absent_one absent
    → meaning f (s ∷ ss) made [] b
    ≡ resume f ss (put_all s.call.put (laid f s.call.name s.call.hides s.call.rest b (substituted s.call.name.token.at ((s.raws ++ s.raw ∷ []) ++ absent_one absent) ((s.readys ++ made ∷ []) ++ absent_one absent) (chains s.call.macro))))
last-means f table is ss s made b true later = last-absent f table is ss s made b later
last-means f table is ss s made b false later =
    last-is f table is ss s made b later
    ∙ λ i. resume f ss (put_all s.call.put (laid f s.call.name s.call.hides s.call.rest b (substituted s.call.name.token.at (sym (append-nil (s.raws ++ s.raw ∷ [])) i) (sym (append-nil (s.readys ++ made ∷ [])) i) (chains s.call.macro))))

all-raws : (r : Reading) (w : Waiting) (made : List Item) → arguments_by r (raws_of (all_done w made)) ≡ (arguments_by r (raws_of w.done) ++ hidings_by r w.raw ∷ []) ++ absent_one w.absent
all-raws r w made = by w.absent
  where
    by : (absent : Bool) → arguments_by r (raws_of (with_absent absent (one_done w made)).done) ≡ (arguments_by r (raws_of w.done) ++ hidings_by r w.raw ∷ []) ++ absent_one absent
    by true = raws-read r (one_done w made) [] ∙ ap (λ lists. lists ++ [] ∷ []) (raws-read r w made)
    by false = raws-read r w made ∙ sym (append-nil (arguments_by r (raws_of w.done) ++ hidings_by r w.raw ∷ []))

all-puts : (r : Reading) (w : Waiting) (made : List Item) → arguments_by r (puts_of (all_done w made)) ≡ (arguments_by r (puts_of w.done) ++ hidings_by r made ∷ []) ++ absent_one w.absent
all-puts r w made = by w.absent
  where
    by : (absent : Bool) → arguments_by r (puts_of (with_absent absent (one_done w made)).done) ≡ (arguments_by r (puts_of w.done) ++ hidings_by r made ∷ []) ++ absent_one absent
    by true = puts-read r (one_done w made) [] ∙ ap (λ lists. lists ++ [] ∷ []) (puts-read r w made)
    by false = puts-read r w made ∙ sym (append-nil (arguments_by r (puts_of w.done) ++ hidings_by r made ∷ []))

-- what a call comes to of which all arguments are ready
pub call-comes : (f : Expander) (r : Reading) (run : Run) (table : Table) → IsExpansion (table_by r.spelled table) f → (call : Call) (waits : List Waiting) (made now : List Item) (m : Macro) (b : Budget)
    → (e : Ended run call waits made now) → e.w.todo ≡ [] → macro_at table call.name.token.name ≡ Some m
    → outcome f r table waits made now b
    ≡ resume f (all_suspended r table e.ws) (put_all (hidings_by r e.w.put) (laid f (hiding_by r call.name) (r.hidden call.hides) (hidings_by r e.w.rest) (budget_by b)
    (substituted (at_of call.name.token.place) (arguments_by r (raws_of (all_done e.w made))) (arguments_by r (puts_of (all_done e.w made))) (chains (macro_by r.spelled m)))))
call-comes f r run table is call waits made now m b e none found =
    (λ i. outcome f r table (e.are i) made (e.none i) b)
    ∙ last-means f (table_by r.spelled table) is ss (suspended_by r table e.w) (hidings_by r made) (budget_by b) e.w.absent (ap (λ todo. arguments_by r (later_items todo) ++ absent_one e.w.absent) none)
    ∙ λ i. resume f ss (put_all (hidings_by r e.w.put) (laid f (hiding_by r (call_now i).name) (r.hidden (call_now i).hides) (hidings_by r e.w.rest) (budget_by b)
    (substituted (at_of (call_now i).name.token.place) (sym (all-raws r e.w made) i) (sym (all-puts r e.w made) i) (chains (named i)))))
  where
    ss : List Suspended
    ss = all_suspended r table e.ws

    call_now : call_of e.w e.ws ≡ call
    call_now = sym e.call_is

    named : macro_named r.spelled table e.w.name.token.name ≡ macro_by r.spelled m
    named = ap (λ (c : Call). macro_named r.spelled table c.name.token.name) (sym e.call_is) ∙ named-is r.spelled table call.name.token.name m found

-- a run in which a call was replaced
pub closed-comes : (names : List (List ℕ)) (run mid next : Run) (table : Table) (call : Call) (waits : List Waiting) (made now : List Item) (m : Macro) (b c : Budget) (parts : List LaidItems)
    → (e : Ended run call waits made now) → e.w.todo ≡ [] → Holds mid e.ws e.w.put e.w.rest → next ≡ record mid { work = next.work; closings = next.closings; sets = next.sets; laid = next.laid }
    → macro_at table call.name.token.name ≡ Some m
    → ((r : Reading) → ReadsNames names r → IsWhole r b.tokens mid.laid (substituted (at_of call.name.token.place) (arguments_by r (raws_of (all_done e.w made))) (arguments_by r (puts_of (all_done e.w made))) (chains (macro_by r.spelled m))))
    → Lays mid.laid parts → ((ps : List LaidItems) → Lays mid.laid ps → SpacedOn next.sets call.hides call.name.token.space_before ps (work_of e.ws) e.w.rest next.work.items)
    → c.replacements ≡ b.replacements → c.tokens ≡ b.tokens - length mid.laid.items.items → c.counter ≡ b.counter
    → Comes names next table waits made now b c
closed-comes names run mid next table call waits made now m b c parts e none holds same found whole lays spaced replacements tokens counter = record {
  shape = record { waits = e.ws; made = e.w.put; now = items; holds = laid-holds mid next e.ws e.w.put e.w.rest items holds same on.stand };
  means = λ r reads f is.
      sym (call-comes f r run table is call waits made now m b e none found
      ∙ ap (λ (x : Expanded). resume f (all_suspended r table e.ws) (put_all (hidings_by r e.w.put) x))
      (whole-is f r names next.sets reads (hiding_by r call.name) call.hides call.name.token.space_before (work_of e.ws) e.w.rest next.work.items items mid.laid (budget_by b)
      (substituted (at_of call.name.token.place) (arguments_by r (raws_of (all_done e.w made))) (arguments_by r (puts_of (all_done e.w made))) (chains (macro_by r.spelled m))) refl (whole r reads.spells) spaced on.stand
      ∙ λ i. f (record { replacements = sym replacements i; tokens = sym tokens i; counter = sym counter i }) (hidings_by r items)));
}
  where
    on : SpacedOn next.sets call.hides call.name.token.space_before parts (work_of e.ws) e.w.rest next.work.items
    on = spaced parts lays

    items : List Item
    items = with_space call.name.token.space_before on.items

-- A run before the end of a call, with what isn't there noted, with the body laid out, and left

pub record Leaves (before noted_ laid_ after : Run) (call : Call) : Type 0 where
  pub noted_is : noted_ ≡ record before { put_ends = noted_.put_ends; raw_ends = noted_.raw_ends }
  pub laid_is : laid_ ≡ record noted_ { laid = laid_.laid }
  pub after_is : after ≡ record laid_ { put = after.put; put_ends = after.put_ends; raw = after.raw; raw_ends = after.raw_ends; stops = after.stops; floor = call.outer }
  pub put : after.put.items ≡ take call.first_put laid_.put.items
  pub put_ends : after.put_ends.items ≡ take call.first_put_end laid_.put_ends.items
  pub raw : after.raw.items ≡ take call.first_raw laid_.raw.items
  pub raw_ends : after.raw_ends.items ≡ take call.first_raw_end laid_.raw_ends.items
  pub stops : after.stops.items ≡ take call.first_stop laid_.stops.items

pub leaves-holds : (before noted_ laid_ after : Run) (call : Call) (waits : List Waiting) (made now : List Item) (e : Ended before call waits made now) → Leaves before noted_ laid_ after call → e.w.todo ≡ []
    → noted_.put_ends.items ≡ before.put_ends.items ++ end_if call.absent (length before.put.items) → noted_.raw_ends.items ≡ before.raw_ends.items ++ end_if call.absent (length before.raw.items)
    → Holds after e.ws e.w.put e.w.rest
leaves-holds before noted_ laid_ after call waits made now e leaves none ends raw_ends =
    left-holds before after call waits made now (end_if call.absent (length before.put.items)) (end_if call.absent (length before.raw.items)) e none
    (ap (λ (x : Run). x.work.items) leaves.after_is ∙ ap (λ (x : Run). x.work.items) leaves.laid_is ∙ ap (λ (x : Run). x.work.items) leaves.noted_is)
    (ap (λ (x : Run). x.floor) leaves.after_is)
    (leaves.put ∙ ap (take call.first_put) (ap (λ (x : Run). x.put.items) leaves.laid_is ∙ ap (λ (x : Run). x.put.items) leaves.noted_is))
    (leaves.put_ends ∙ ap (take call.first_put_end) (ap (λ (x : Run). x.put_ends.items) leaves.laid_is ∙ ends))
    (leaves.raw ∙ ap (take call.first_raw) (ap (λ (x : Run). x.raw.items) leaves.laid_is ∙ ap (λ (x : Run). x.raw.items) leaves.noted_is))
    (leaves.raw_ends ∙ ap (take call.first_raw_end) (ap (λ (x : Run). x.raw_ends.items) leaves.laid_is ∙ raw_ends))
    (leaves.stops ∙ ap (take call.first_stop) (ap (λ (x : Run). x.stops.items) leaves.laid_is ∙ ap (λ (x : Run). x.stops.items) leaves.noted_is))
    (ap (λ (x : Run). x.calls.items) leaves.after_is ∙ ap (λ (x : Run). x.calls.items) leaves.laid_is ∙ ap (λ (x : Run). x.calls.items) leaves.noted_is)
