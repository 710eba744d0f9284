-- The vectors of a run where a call begins, and where an argument of it ends.
use Rattle.std.proofs.Common.{◌≡◌, ◌+◌, ℕ, Bool, List, [], ◌∷◌, ◌++◌, length, refl, sym, ap, ◌∙◌, arith, length-append}
use Rattle.std.proofs.lemmas.List.{append_assoc, append-nil}
use Rattle.number_sets.specs.declared.sets.SetId.{SetId}
use Rattle.c_macros.specs.declared.item.Item.{Item}
use Rattle.c_macros.specs.declared.run.Call.{Call}
use Rattle.c_macros.specs.declared.run.Run.{Run}
use Rattle.c_macros.specs.Arguments.{in_a_row, ends_from}
use Rattle.c_macros.specs.Waiting.{Waiting, Later, Done, Holds, backwards, raws_of, puts_of, pending, floors, work_of, put_of, put_ends_of, raw_of, raw_ends_of, stops_of, call_of, calls_of, noted, one_done}
use Rattle.c_macros.proofs.VectorLemmas.{ends-same, backwards-append, length-backwards}

-- one more list in a row
pub in_a_row-one : (lists : List (List Item)) (one : List Item) → in_a_row (lists ++ one ∷ []) ≡ in_a_row lists ++ one
in_a_row-one [] one = append-nil one
in_a_row-one (list ∷ lists) one = ap (λ items. list ++ items) (in_a_row-one lists one) ∙ sym (append_assoc list (in_a_row lists) one)

-- and where it ends
pub ends_from-one : (first : ℕ) (lists : List (List Item)) (one : List Item) → ends_from first (lists ++ one ∷ []) ≡ ends_from first lists ++ (first + length (in_a_row lists) + length one) ∷ []
ends_from-one first [] one = ap (λ n. n ∷ []) (omega arith)
ends_from-one first (list ∷ lists) one =
    ap (λ ends. (first + length list) ∷ ends) (ends_from-one (first + length list) lists one ∙ ap (λ n. ends_from (first + length list) lists ++ n ∷ []) (omega (arith, length-append list (in_a_row lists))))

pub raws-one : (done : List Done) (d : Done) → raws_of (done ++ d ∷ []) ≡ raws_of done ++ d.raw ∷ []
raws-one [] d = refl
raws-one (e ∷ done) d = ap (λ lists. e.raw ∷ lists) (raws-one done d)

pub puts-one : (done : List Done) (d : Done) → puts_of (done ++ d ∷ []) ≡ puts_of done ++ d.put ∷ []
puts-one [] d = refl
puts-one (e ∷ done) d = ap (λ lists. e.put ∷ lists) (puts-one done d)

-- a call that begins: its first argument is read, and lies on top of the rest
abbrev pub begun : Item → SetId → (raw : List Item) → List Later → (absent : Bool) → Item → (rest made : List Item) → ℕ → Waiting
begun name hides raw more absent closing rest made stop = record {
  name = name;
  hides = hides;
  done = [];
  raw = raw;
  todo = more;
  absent = absent;
  closing = closing;
  rest = rest;
  put = made;
  passed = stop ∷ [];
}

noted-is : (run : Run) (ws : List Waiting) (made now : List Item) (name : Item) (hides : SetId) (raw : List Item) (more : List Later) (absent : Bool) (closing : Item) (rest : List Item) (stop first_stop : ℕ)
    → Holds run ws made now → first_stop ≡ length run.stops.items → noted run name hides absent first_stop ≡ call_of (begun name hides raw more absent closing rest made stop) ws
noted-is run ws made now name hides raw more absent closing rest stop first_stop holds first = λ i. record {
  name = name;
  hides = hides;
  absent = absent;
  outer = holds.floor i;
  next_stop = (ap (λ n. n + 1) (first ∙ ap length holds.stops) ∙ sym (length-append (stops_of ws) (stop ∷ []))) i;
  first_stop = (first ∙ ap length holds.stops) i;
  first_put = ap length holds.put i;
  first_put_end = ap length holds.put_ends i;
  first_raw = ap length holds.raw i;
  first_raw_end = ap length holds.raw_ends i;
}

-- the run in which the call has begun
pub begun-holds : (run next : Run) (ws : List Waiting) (made now : List Item) (name : Item) (hides : SetId) (raw first : List Item) (more : List Later) (absent : Bool) (closing : Item) (rest : List Item) (stop first_stop : ℕ)
    → Holds run ws made now → first_stop ≡ length run.stops.items
    → next.work.items ≡ (work_of ws ++ backwards (pending more closing rest)) ++ backwards first
    → next.floor ≡ length (work_of ws) + length (pending more closing rest)
    → next.put.items ≡ run.put.items → next.put_ends.items ≡ run.put_ends.items → next.raw.items ≡ run.raw.items ++ raw → next.raw_ends.items ≡ run.raw_ends.items
    → next.stops.items ≡ run.stops.items ++ (stop ∷ floors (length (work_of ws)) more closing rest)
    → next.calls.items ≡ run.calls.items ++ noted run name hides absent first_stop ∷ []
    → Holds next (begun name hides raw more absent closing rest made stop ∷ ws) [] first
begun-holds run next ws made now name hides raw first more absent closing rest stop first_stop holds first_is work floor put put_ends raw_is raw_ends stops calls = record {
  work = work;
  floor = floor ∙ ap (λ n. length (work_of ws) + n) (sym (length-backwards (pending more closing rest))) ∙ sym (length-append (work_of ws) (backwards (pending more closing rest)));
  put = put ∙ holds.put ∙ sym (append-nil (put_of ws ++ made)) ∙ sym (append-nil ((put_of ws ++ made) ++ []));
  put_ends = put_ends ∙ holds.put_ends ∙ sym (append-nil (put_ends_of ws));
  raw = raw_is ∙ ap (λ xs. xs ++ raw) (holds.raw ∙ sym (append-nil (raw_of ws)));
  raw_ends = raw_ends ∙ holds.raw_ends ∙ sym (append-nil (raw_ends_of ws));
  stops = stops ∙ ap (λ xs. xs ++ (stop ∷ floors (length (work_of ws)) more closing rest)) holds.stops ∙ sym (append_assoc (stops_of ws) (stop ∷ []) (floors (length (work_of ws)) more closing rest));
  calls = calls ∙ (λ i. holds.calls i ++ noted-is run ws made now name hides raw more absent closing rest stop first_stop holds first_is i ∷ []);
}

-- the innermost call is the last that is noted
pub record Innermost (waits : List Waiting) (others : List Call) (call : Call) : Type 0 where
  pub w : Waiting
  pub ws : List Waiting
  pub are : waits ≡ w ∷ ws
  pub others_are : others ≡ calls_of ws
  pub call_is : call ≡ call_of w ws

pub innermost : (waits : List Waiting) (others : List Call) (call : Call) → others ++ call ∷ [] ≡ calls_of waits → Innermost waits others call
innermost [] others call same = absurd (omega (arith, ap length same, length-append others (call ∷ [])))
innermost (w ∷ ws) others call same =
    let both = ends-same others (calls_of ws) call (call_of w ws) same in
    record { w = w; ws = ws; are = refl; others_are = both.0; call_is = both.1 }

-- what the vectors hold then: nothing moves
pub put-done : (w : Waiting) (ws : List Waiting) (made : List Item) → put_of (w ∷ ws) ++ made ≡ put_of (one_done w made ∷ ws)
put-done w ws made =
    append_assoc (put_of ws ++ w.put) (in_a_row (puts_of w.done)) made
    ∙ ap (λ items. (put_of ws ++ w.put) ++ items) (sym (in_a_row-one (puts_of w.done) made) ∙ ap in_a_row (sym (puts-one w.done (record { raw = w.raw; put = made }))))

pub raw-done : (w : Waiting) (ws : List Waiting) (made : List Item) → raw_of (w ∷ ws) ≡ raw_of (one_done w made ∷ ws)
raw-done w ws made =
    append_assoc (raw_of ws) (in_a_row (raws_of w.done)) w.raw
    ∙ ap (λ items. raw_of ws ++ items) (sym (in_a_row-one (raws_of w.done) w.raw) ∙ ap in_a_row (sym (raws-one w.done (record { raw = w.raw; put = made }))))
    ∙ sym (append-nil (raw_of ws ++ in_a_row (raws_of (w.done ++ record { raw = w.raw; put = made } ∷ []))))

pub put_ends-done : (w : Waiting) (ws : List Waiting) (made : List Item) → put_ends_of (w ∷ ws) ++ length (put_of (w ∷ ws) ++ made) ∷ [] ≡ put_ends_of (one_done w made ∷ ws)
put_ends-done w ws made =
    append_assoc (put_ends_of ws) (ends_from (length (put_of ws ++ w.put)) (puts_of w.done)) (length (put_of (w ∷ ws) ++ made) ∷ [])
    ∙ ap (λ ends. put_ends_of ws ++ ends)
    (ap (λ n. ends_from (length (put_of ws ++ w.put)) (puts_of w.done) ++ n ∷ []) (omega (arith, length-append (put_of (w ∷ ws)) made, length-append (put_of ws ++ w.put) (in_a_row (puts_of w.done))))
    ∙ sym (ends_from-one (length (put_of ws ++ w.put)) (puts_of w.done) made) ∙ ap (ends_from (length (put_of ws ++ w.put))) (sym (puts-one w.done (record { raw = w.raw; put = made }))))

pub raw_ends-done : (w : Waiting) (ws : List Waiting) (made : List Item) → raw_ends_of (w ∷ ws) ++ length (raw_of (w ∷ ws)) ∷ [] ≡ raw_ends_of (one_done w made ∷ ws)
raw_ends-done w ws made =
    append_assoc (raw_ends_of ws) (ends_from (length (raw_of ws)) (raws_of w.done)) (length (raw_of (w ∷ ws)) ∷ [])
    ∙ ap (λ ends. raw_ends_of ws ++ ends)
    (ap (λ n. ends_from (length (raw_of ws)) (raws_of w.done) ++ n ∷ []) (omega (arith, length-append (raw_of ws ++ in_a_row (raws_of w.done)) w.raw, length-append (raw_of ws) (in_a_row (raws_of w.done))))
    ∙ sym (ends_from-one (length (raw_of ws)) (raws_of w.done) w.raw) ∙ ap (ends_from (length (raw_of ws))) (sym (raws-one w.done (record { raw = w.raw; put = made }))))

-- what lies below an argument that has ended: the comma before the next one, or the `)`
pub work-next : (ws : List Waiting) (p : Later) (ps : List Later) (closing : Item) (rest : List Item)
    → work_of ws ++ backwards (pending (p ∷ ps) closing rest) ≡ ((work_of ws ++ backwards (pending ps closing rest)) ++ backwards p.items) ++ p.comma ∷ []
work-next ws p ps closing rest =
    sym (append_assoc (work_of ws) (backwards (p.items ++ pending ps closing rest)) (p.comma ∷ []))
    ∙ ap (λ items. items ++ p.comma ∷ []) (ap (λ items. work_of ws ++ items) (backwards-append p.items (pending ps closing rest)) ∙ sym (append_assoc (work_of ws) (backwards (pending ps closing rest)) (backwards p.items)))

pub work-last : (ws : List Waiting) (closing : Item) (rest : List Item) → work_of ws ++ backwards (pending [] closing rest) ≡ (work_of ws ++ backwards rest) ++ closing ∷ []
work-last ws closing rest = sym (append_assoc (work_of ws) (backwards rest) (closing ∷ []))
