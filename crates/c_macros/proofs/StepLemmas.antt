-- What comes of a run after each of its steps.
use Rattle.std.proofs.Common.{◌≡◌, ◌<◌, ℕ, suc, List, [], ◌∷◌, ◌++◌, length, Vec, Global, refl, sym, ap, subst, ◌∙◌, arith}
use Rattle.std.proofs.lemmas.List.{append_assoc, append-nil, length-map}
use Rattle.meaning_macros.specs.Expansion as expansion
use Rattle.meaning_macros.specs.Expansion.{Expanded, Expander, End, Passed, Failed, ends, put, in_place_of, predefined_token, counter_behind}
use Rattle.sparse_model.specs.declared.place.Place.{Place}
use Rattle.c_tokens.specs.Seen.{at_of}
use Rattle.c_macros.specs.declared.budget.Budget.{Budget}
use Rattle.c_macros.specs.declared.item.Item.{Item}
use Rattle.c_macros.specs.declared.run.Call.{Call}
use Rattle.c_macros.specs.declared.run.Run.{Run}
use Rattle.c_macros.specs.declared.purpose.Predefined.{Predefined}
use Rattle.c_macros.specs.Ends.{EndsBehind, budget_by}
use Rattle.c_macros.specs.declared.front.Front.{Front}
use Rattle.c_macros.specs.Front.{front_of}
use Rattle.c_macros.specs.Meaning.{put_all, resume, settled, outermost}
use Rattle.c_macros.specs.Purpose.{use_before, predefined_by}
use Rattle.c_macros.specs.Reading.{Reading, Reads, ReadsNames, hiding_by, hidings_by}
use Rattle.c_macros.specs.Run.{Comes, all_suspended, table_by}
use Rattle.c_macros.specs.Seen.{token_by}
use Rattle.c_macros.specs.Table.{Table}
use Rattle.c_macros.specs.Waiting.{Waiting, Holds, work_of, put_of, calls_of, call_of}
use Rattle.c_macros.proofs.ExpansionLemmas.{stays-is, predefined-is, passed-is, failed-is}
use Rattle.c_macros.proofs.VectorLemmas.{popped, map-append}

-- the front of calls, of which the last is the innermost
front-last : (calls : List Call) (call : Call) (place : Place) (before : ℕ) → front_of (calls ++ call ∷ []) place before ≡ front_of calls call.name.token.place call.first_put
front-last [] call place before = refl
front-last (c ∷ calls) call place before = refl

front-before : (r : Reading) (table : Table) (waits : List Waiting) (made : List Item) (place : Place)
    → (front_of (calls_of waits) place (length (put_of waits ++ made))).before ≡ length (settled (all_suspended r table waits) (hidings_by r made))
front-before r table [] made place = sym (length-map made (hiding_by r))
front-before r table (w ∷ ws) made place =
    ap (λ (front : Front). front.before) (front-last (calls_of ws) (call_of w ws) place (length (put_of (w ∷ ws) ++ made))) ∙ front-before r table ws w.put w.name.token.place

front-place : (r : Reading) (table : Table) (waits : List Waiting) (place : Place) (before : ℕ)
    → at_of (front_of (calls_of waits) place before).place ≡ outermost (all_suspended r table waits) (at_of place)
front-place r table [] place before = refl
front-place r table (w ∷ ws) place before =
    ap (λ (front : Front). at_of front.place) (front-last (calls_of ws) (call_of w ws) place before) ∙ front-place r table ws w.name.token.place (length (put_of ws ++ w.put))

-- a stop where this is put, which tells where all has ended
stop-ends : (f : Expander) (r : Reading) (table : Table) (waits : List Waiting) (made : List Item) (place : Place) (end told : End) (e : Expanded) (before : ℕ)
    → e ≡ ends end → before ≡ length (put_of waits ++ made)
    → resume f (all_suspended r table waits) (record { tokens = hidings_by r made; end = end }) ≡ record { tokens = settled (all_suspended r table waits) (hidings_by r made); end = told }
    → EndsBehind (front_of (calls_of waits) place before).before told (resume f (all_suspended r table waits) (put_all (hidings_by r made) e))
stop-ends f r table waits made place end told e before is count resumed =
    let whole = ap (λ (x : Expanded). resume f (all_suspended r table waits) (put_all (hidings_by r made) x)) is
    ∙ ap (λ tokens. resume f (all_suspended r table waits) (record { tokens = tokens; end = end })) (append-nil (hidings_by r made)) ∙ resumed in (
      ap (λ (x : Expanded). x.end) whole,
      ap (λ (x : Expanded). length x.tokens) whole ∙ sym (front-before r table waits made place) ∙ ap (λ n. (front_of (calls_of waits) place n).before) (sym count),
    )

pub passed-ends : (f : Expander) (r : Reading) (table : Table) (waits : List Waiting) (made : List Item) (place : Place) (counted : expansion.Counted) (e : Expanded) (before : ℕ)
    → e ≡ ends (Passed counted) → before ≡ length (put_of waits ++ made)
    → EndsBehind (front_of (calls_of waits) place before).before (Passed counted) (resume f (all_suspended r table waits) (put_all (hidings_by r made) e))
passed-ends f r table waits made place counted e before is count =
    stop-ends f r table waits made place (Passed counted) (Passed counted) e before is count (passed-is f (all_suspended r table waits) (hidings_by r made) counted)

pub failed-ends : (f : Expander) (r : Reading) (table : Table) (waits : List Waiting) (made : List Item) (place : Place) (fault : expansion.CallFault) (e : Expanded) (before : ℕ)
    → e ≡ ends (Failed fault (at_of place)) → before ≡ length (put_of waits ++ made)
    → EndsBehind (front_of (calls_of waits) place before).before (Failed fault (at_of (front_of (calls_of waits) place before).place)) (resume f (all_suspended r table waits) (put_all (hidings_by r made) e))
failed-ends f r table waits made place fault e before is count =
    subst (λ at. EndsBehind (front_of (calls_of waits) place before).before (Failed fault at) (resume f (all_suspended r table waits) (put_all (hidings_by r made) e)))
    (sym (front-place r table waits place before))
    (stop-ends f r table waits made place (Failed fault (at_of place)) (Failed fault (outermost (all_suspended r table waits) (at_of place))) e before is count
    (failed-is f (all_suspended r table waits) (hidings_by r made) fault (at_of place)))

-- one more item is put
put-one : (r : Reading) (made : List Item) (item : Item) (e : Expanded) → put_all (hidings_by r (made ++ item ∷ [])) e ≡ put_all (hidings_by r made) (put (hiding_by r item) e)
put-one r made item e =
    λ i. record { tokens = (ap (λ hs. hs ++ e.tokens) (map-append (hiding_by r) made (item ∷ [])) ∙ append_assoc (hidings_by r made) (hiding_by r item ∷ []) e.tokens) i; end = e.end }

-- a run from whose top an item was taken
pub record Taken (run : Run) (left : Vec Item Global) (waits : List Waiting) (made now : List Item) (item : Item) : Type 0 where
  pub under : List Item
  pub is : now ≡ item ∷ under
  pub holds : Holds (record run { work = left }) waits made under

pub taken : (run : Run) (left : Vec Item Global) (waits : List Waiting) (made now : List Item) (item : Item) → Holds run waits made now → run.work.items ≡ left.items ++ item ∷ [] → run.floor < length run.work.items
    → Taken run left waits made now item
taken run left waits made now item holds is above =
    let top = popped (work_of waits) now left.items item (sym holds.work ∙ is) (omega (arith, above, holds.floor, ap length holds.work)) in
    record {
      under = top.under;
      is = top.is;
      holds = record {
        work = top.left;
        floor = holds.floor;
        put = holds.put;
        put_ends = holds.put_ends;
        raw = holds.raw;
        raw_ends = holds.raw_ends;
        stops = holds.stops;
        calls = holds.calls;
      };
    }

-- a run that puts one more item
holds-put : (run : Run) (more : Vec Item Global) (waits : List Waiting) (made now : List Item) (item : Item) → Holds run waits made now → more.items ≡ run.put.items ++ item ∷ []
    → Holds (record run { put = more }) waits (made ++ item ∷ []) now
holds-put run more waits made now item holds is = record {
  work = holds.work;
  floor = holds.floor;
  put = is ∙ ap (λ ts. ts ++ item ∷ []) holds.put ∙ append_assoc (put_of waits) made (item ∷ []);
  put_ends = holds.put_ends;
  raw = holds.raw;
  raw_ends = holds.raw_ends;
  stops = holds.stops;
  calls = holds.calls;
}

pub stays-comes : (names : List (List ℕ)) (run : Run) (left more : Vec Item Global) (table : Table) (waits : List Waiting) (made now : List Item) (item : Item) (b : Budget)
    → (t : Taken run left waits made now item) → more.items ≡ run.put.items ++ item ∷ []
    → ((r : Reading) → Reads names run.sets r → use_before r table item t.under ≡ expansion.Stays)
    → Comes names (record run { work = left; put = more }) table waits made now b b
stays-comes names run left more table waits made now item b t is stays = record {
  shape = record { waits = waits; made = made ++ item ∷ []; now = t.under; holds = holds-put (record run { work = left }) more waits made t.under item t.holds is };
  means = λ r reads f isf. ap (resume f (all_suspended r table waits))
      (put-one r made item (f (budget_by b) (hidings_by r t.under))
      ∙ ap (put_all (hidings_by r made)) (sym (ap (λ ts. f (budget_by b) (hidings_by r ts)) t.is ∙ stays-is f (table_by r.spelled table) isf (budget_by b) (hiding_by r item) (hidings_by r t.under) (stays r reads))));
}

pub predefined-comes : (names later : List (List ℕ)) (run : Run) (more : Vec Item Global) (table : Table) (waits : List Waiting) (made now : List Item) (item new : Item) (name : Predefined) (b c : Budget)
    → Holds run waits made now → more.items ≡ run.put.items ++ new ∷ []
    → ((r : Reading) → Reads later run.sets r → Reads names run.sets r)
    → ((r : Reading) → Reads names run.sets r → use_before r table item now ≡ expansion.Predefines (predefined_by name))
    → ((r : Reading) → ReadsNames later r → hiding_by r new ≡ in_place_of (hiding_by r item) (predefined_token (table_by r.spelled table) b.counter (token_by r.spelled item.token) (predefined_by name)))
    → b.replacements ≡ suc c.replacements → c.tokens ≡ b.tokens → c.counter ≡ counter_behind (predefined_by name) b.counter
    → Comes later (record run { put = more }) table waits made (item ∷ now) b c
predefined-comes names later run more table waits made now item new name b c holds is earlier uses read some same_tokens count = record {
  shape = record { waits = waits; made = made ++ new ∷ []; now = now; holds = holds-put run more waits made now new holds is };
  means = λ r reads f isf. ap (resume f (all_suspended r table waits))
      (put-one r made new (f (budget_by c) (hidings_by r now))
      ∙ ap (put_all (hidings_by r made))
      ((λ i. put (read r reads.spells i) (f (record { replacements = c.replacements; tokens = same_tokens i; counter = count i }) (hidings_by r now)))
      ∙ sym (predefined-is f (table_by r.spelled table) isf (budget_by b) (hiding_by r item) (hidings_by r now) (predefined_by name) c.replacements (uses r (earlier r reads)) some)));
}
