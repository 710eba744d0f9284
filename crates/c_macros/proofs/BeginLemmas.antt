-- What comes of a run where a call begins.
use Rattle.std.proofs.Common.{◌≡◌, ◌<◌, ◌+◌, ◌&&◌, ℕ, zero, suc, Bool, true, false, nat_eq, List, [], ◌∷◌, ◌++◌, length, map, slice_get, unwrap_or, Option, Some, None, option_map, if◌then◌else◌, refl, sym, ap, subst, ◌∙◌, true≢false, arith}
use Rattle.std.proofs.lemmas.List.{append_assoc, append-nil}
use Rattle.std.proofs.lemmas.Option.{none-some, same_Some}
use Rattle.meaning_macros.specs.Bodies.{chains, stands_raw, stands_apart}
use Rattle.meaning_macros.specs.Calls.{split, most_cuts, matched, no_arguments}
use Rattle.meaning_macros.specs.Hiding.{Hiding, joined, common, only}
use Rattle.meaning_macros.specs.Macros as macros
use Rattle.meaning_macros.specs.Macros.{parameters_of}
use Rattle.meaning_macros.specs.Expansion as expansion
use Rattle.meaning_macros.specs.Expansion.{Expanded, Expander, called, expand_arguments, use_of_split, use_of_matched}
use Rattle.number_sets.specs.NumberSets as sets
use Rattle.number_sets.specs.declared.sets.SetId.{SetId}
use Rattle.sparse_model.specs.declared.ids.NameId.{NameId}
use Rattle.c_macros.specs.declared.budget.Budget.{Budget}
use Rattle.c_macros.specs.declared.definition.Macro.{Macro}
use Rattle.c_macros.specs.declared.item.Item.{Item}
use Rattle.c_macros.specs.declared.operand.ParameterUse.{ParameterUse}
use Rattle.c_macros.specs.declared.run.Run.{Run}
use Rattle.c_macros.specs.Argument.{if_asked}
use Rattle.c_macros.specs.Arguments.{arguments_by}
use Rattle.c_macros.specs.Calls.{Found, IsOpening, fitted, split_items}
use Rattle.c_macros.specs.Ends.{budget_by}
use Rattle.c_macros.specs.Meaning.{IsExpansion, Opened, Suspended, if_wanted, put_all, resume, meaning}
use Rattle.c_macros.specs.Parameters.{params_in}
use Rattle.c_macros.specs.Purpose.{IsCalled, use_before}
use Rattle.c_macros.specs.Reading.{Reading, Reads, hiding_by, hidings_by}
use Rattle.c_macros.specs.Run.{Comes, absent_one, all_suspended, macro_named, nothing, table_by}
use Rattle.c_macros.specs.Seen.{KeepsApart, Spelling, macro_by, own_text, params_by}
use Rattle.c_macros.specs.Table.{Table, macro_at}
use Rattle.c_macros.specs.Uses.{use_in}
use Rattle.c_macros.specs.Waiting.{Waiting, Holds, backwards, later_items, pending, work_of}
use Rattle.c_macros.proofs.CallReadLemmas.{first-stop}
use Rattle.c_macros.proofs.ExpansionLemmas.{replaces-is}
use Rattle.c_macros.proofs.HideLemmas.{Reads-earlier}
use Rattle.c_macros.proofs.HoldLemmas.{begun}
use Rattle.c_macros.proofs.OpenLemmas.{opens-is, opens-empty}
use Rattle.c_macros.proofs.StopLemmas.{found_read, split-all, split-reads}
use Rattle.c_macros.proofs.VectorLemmas.{backwards-append}

abbrev behind_first : {X : Type 0} → List X → List X
behind_first [] = []
behind_first (x ∷ xs) = xs

-- what the definition says of a call

call-used : (r : Reading) (table : Table) (item opening : Item) (now : List Item) (m : Macro) → IsCalled r table item (opening ∷ now) → macro_at table item.token.name ≡ Some m
    → use_before r table item (opening ∷ now) ≡ use_of_split (hiding_by r item) (macro_by r.spelled m) (split 0 (most_cuts (macro_by r.spelled m)) (hidings_by r now))
call-used r table item opening now m called found =
    called.used ∙ λ i. use_of_split (hiding_by r item) (macro_by r.spelled (same i)) (split 0 (most_cuts (macro_by r.spelled (same i))) (hidings_by r (rest i)))
  where
    same : called.macro_ ≡ m
    same = same_Some _ _ (sym called.found ∙ found)

    rest : called.rest ≡ now
    rest = sym (ap behind_first called.opens)

pub call-open : (r : Reading) (table : Table) (item opening : Item) (now : List Item) (m : Macro) → IsCalled r table item (opening ∷ now) → macro_at table item.token.name ≡ Some m
    → split_items 0 (most_cuts (macro_by r.spelled m)) now ≡ None → use_before r table item (opening ∷ now) ≡ expansion.Wrong expansion.OpenCall
call-open r table item opening now m called found none =
    call-used r table item opening now m called found
    ∙ ap (use_of_split (hiding_by r item) (macro_by r.spelled m)) (split-reads r 0 (most_cuts (macro_by r.spelled m)) now ∙ ap (option_map (found_read r)) none)

call-split : (r : Reading) (table : Table) (item opening : Item) (now : List Item) (m : Macro) (one : Found) → IsCalled r table item (opening ∷ now) → macro_at table item.token.name ≡ Some m
    → split_items 0 (most_cuts (macro_by r.spelled m)) now ≡ Some one
    → use_before r table item (opening ∷ now)
    ≡ use_of_matched (hiding_by r item) (hiding_by r one.closing) (hidings_by r one.rest) (macro_by r.spelled m) (matched (macro_by r.spelled m) (hidings_by r one.first ∷ arguments_by r (later_items one.more)))
call-split r table item opening now m one called found some =
    call-used r table item opening now m called found
    ∙ ap (use_of_split (hiding_by r item) (macro_by r.spelled m)) (split-reads r 0 (most_cuts (macro_by r.spelled m)) now ∙ ap (option_map (found_read r)) some)

pub call-wrong : (r : Reading) (table : Table) (item opening : Item) (now : List Item) (m : Macro) (one : Found) → IsCalled r table item (opening ∷ now) → macro_at table item.token.name ≡ Some m
    → split_items 0 (most_cuts (macro_by r.spelled m)) now ≡ Some one → matched (macro_by r.spelled m) (hidings_by r one.first ∷ arguments_by r (later_items one.more)) ≡ None
    → use_before r table item (opening ∷ now) ≡ expansion.Wrong expansion.WrongArguments
call-wrong r table item opening now m one called found some wrong =
    call-split r table item opening now m one called found some
    ∙ ap (use_of_matched (hiding_by r item) (hiding_by r one.closing) (hidings_by r one.rest) (macro_by r.spelled m)) wrong

-- the arguments of an opening, one for each parameter
abbrev pub given : Reading → Macro → Found → Bool → List (List Hiding)
given r m found absent = fitted (macro_by r.spelled m) (hidings_by r found.first) (arguments_by r (later_items found.more)) absent

pub call-fits : (names : List (List ℕ)) (before after : Run) (table : Table) (m : Macro) (waits : List Waiting) (made now : List Item) (name opening : Item) (absent : Bool) (closing : Item) (first_stop : ℕ)
    → (o : IsOpening names before after table m waits made now name opening absent closing first_stop) (r : Reading) → Reads names after.sets r
    → use_before r table name (opening ∷ now)
    ≡ expansion.Replaces (macro_by r.spelled m) (given r m o.fits.found absent) (joined (common (r.hidden name.hides) (r.hidden closing.hides)) (only (r.spelled name.token.name))) (hidings_by r o.fits.found.rest)
call-fits names before after table m waits made now name opening absent closing first_stop o r reads =
    call-split r table name opening now m o.fits.found (o.called r reads) o.found (o.fits.splits r.spelled)
    ∙ λ i. use_of_matched (hiding_by r name) (hiding_by r (o.fits.closes i)) (hidings_by r o.fits.found.rest) (macro_by r.spelled m) (o.fits.matches r i)

-- The arguments of a call that fits

-- without parameters there is one argument, and it has no token
none-fit : (first : List Hiding) (later : List (List Hiding)) (absent : Bool) → no_arguments (first ∷ later) ≡ Some (absent_one absent) → (first ≡ []) × ((later ≡ []) × (absent ≡ false))
none-fit [] [] true fits = absurd (omega (arith, ap length (same_Some _ _ fits)))
none-fit [] [] false fits = (refl, (refl, refl))
none-fit [] (l ∷ later) absent fits = absurd (none-some _ fits)
none-fit (t ∷ ts) [] absent fits = absurd (none-some _ fits)
none-fit (t ∷ ts) (l ∷ later) absent fits = absurd (none-some _ fits)

above-none : (n : ℕ) → nat_eq n 0 ≡ false → 0 < n
above-none zero is = absurd (true≢false is)
above-none (suc n) is = omega arith

abbrev Asks : Opened → List Hiding → (raw now : List Hiding) → Type 0
Asks c first raw now = (raw ≡ if_wanted (stands_raw 0 (chains c.macro)) first) × (now ≡ if_wanted (stands_apart 0 (chains c.macro)) first)

opened-means : (f : Expander) (table : macros.MacroTable) → IsExpansion table f → (ss : List Suspended) (c : Opened) (first : List Hiding) (later : List (List Hiding)) (absent : Bool) (raw now : List Hiding) (b : expansion.Budget)
    → matched c.macro (first ∷ later) ≡ Some (fitted c.macro first later absent)
    → (0 < length (parameters_of c.macro) → Asks c first raw now) → (first ≡ [] → (raw ≡ []) × (now ≡ []))
    → resume f ss (put_all c.put (called f c.name c.macro (fitted c.macro first later absent) c.hides c.rest (expand_arguments f (chains c.macro) b 0 (fitted c.macro first later absent))))
    ≡ meaning f (record { call = c; raws = []; readys = []; raw = raw; later = later ++ absent_one absent } ∷ ss) [] now b
opened-means f table is ss c first later absent raw now b fits asks empty = by (nat_eq (length (parameters_of c.macro)) 0) refl fits
  where
    count : ℕ
    count = length (parameters_of c.macro)

    by : (none : Bool) → nat_eq (length (parameters_of c.macro)) 0 ≡ none
        → (if none then no_arguments (first ∷ later) else (if nat_eq (length (first ∷ later)) count then Some (first ∷ later) else (if c.macro.variadic && nat_eq (length (first ∷ later) + 1) count then Some ((first ∷ later) ++ [] ∷ []) else None)))
        ≡ Some ((if none then [] else first ∷ later) ++ absent_one absent)
        → resume f ss (put_all c.put (called f c.name c.macro ((if none then [] else first ∷ later) ++ absent_one absent) c.hides c.rest (expand_arguments f (chains c.macro) b 0 ((if none then [] else first ∷ later) ++ absent_one absent))))
        ≡ meaning f (record { call = c; raws = []; readys = []; raw = raw; later = later ++ absent_one absent } ∷ ss) [] now b
    by true is_none fits_none =
        let none = none-fit first later absent fits_none in
        let nothing_there = empty none.0 in
        (λ i. resume f ss (put_all c.put (called f c.name c.macro (absent_one (none.1.1 i)) c.hides c.rest (expand_arguments f (chains c.macro) b 0 (absent_one (none.1.1 i))))))
        ∙ opens-empty f table is ss c b
        ∙ λ i. meaning f (record { call = c; raws = []; readys = []; raw = sym nothing_there.0 i; later = sym none.1.0 i ++ absent_one (sym none.1.1 i) } ∷ ss) [] (sym nothing_there.1 i) b
    by false is_some fits_some =
        let asked = asks (above-none (length (parameters_of c.macro)) is_some) in
        opens-is f table is ss c first (later ++ absent_one absent) b
        ∙ λ i. meaning f (record { call = c; raws = []; readys = []; raw = sym asked.0 i; later = later ++ absent_one absent } ∷ ss) [] (sym asked.1 i) b

pub asked-read : (r : Reading) (asked : Bool) (items : List Item) → hidings_by r (if_asked asked items) ≡ if_wanted asked (hidings_by r items)
asked-read r true items = refl
asked-read r false items = refl

asked-none : (r : Reading) (asked : Bool) (items : List Item) → hidings_by r items ≡ [] → hidings_by r (if_asked asked items) ≡ []
asked-none r true items none = none
asked-none r false items none = refl

params-count : (s : Spelling) (params : Option (List NameId)) → length (parameters_of (record { parameters = params_by s params; variadic = false; body = [] })) ≡ length (params_in params)
params-count s None = refl
params-count s (Some names) = map-count names
  where
    map-count : (ids : List NameId) → length (map s ids) ≡ length ids
    map-count [] = refl
    map-count (id ∷ ids) = ap suc (map-count ids)

-- the macro of a name that has one
pub named-is : (s : Spelling) (table : Table) (name : NameId) (m : Macro) → macro_at table name ≡ Some m → macro_named s table name ≡ macro_by s m
named-is s table name m found = ap (λ known. unwrap_or (option_map (macro_by s) known) nothing) found

-- a run in which a call has begun
pub opened-comes : (names : List (List ℕ)) (before after next : Run) (table : Table) (m : Macro) (waits : List Waiting) (made now : List Item) (name opening : Item) (absent : Bool) (closing : Item) (first_stop floor : ℕ) (hides : SetId) (taken : ParameterUse) (b c : Budget)
    → (o : IsOpening names before after table m waits made now name opening absent closing first_stop) → sets.Extends after.sets next.sets
    → ((r : Reading) → Reads names next.sets r → r.hidden hides ≡ joined (common (r.hidden name.hides) (r.hidden closing.hides)) (only (r.spelled name.token.name)))
    → ((s : Spelling) → KeepsApart s → 0 < length (params_in m.params) → taken ≡ use_in 0 (chains (macro_by s m)))
    → Holds next (begun name hides (if_asked taken.raw o.fits.found.first) o.fits.found.more absent o.fits.found.closing o.fits.found.rest made floor ∷ waits) [] (if_asked taken.apart o.fits.found.first)
    → b.replacements ≡ suc c.replacements → c.tokens ≡ b.tokens → c.counter ≡ b.counter
    → Comes names next table waits made (name ∷ opening ∷ now) b c
opened-comes names before after next table m waits made now name opening absent closing first_stop floor hides taken b c o more hidden uses holds some tokens counter = record {
  shape = record {
    waits = begun name hides (if_asked taken.raw found.first) found.more absent found.closing found.rest made floor ∷ waits;
    made = [];
    now = if_asked taken.apart found.first;
    holds = holds;
  };
  means = λ r reads f is.
      let earlier = Reads-earlier names names after.sets next.sets r ([], sym (append-nil names)) more reads in
      let ss = all_suspended r table waits in
      let macro_ = macro_by r.spelled m in
      let set = joined (common (r.hidden name.hides) (r.hidden closing.hides)) (only (r.spelled name.token.name)) in
      let call : Opened = record { name = hiding_by r name; macro = macro_; hides = set; put = hidings_by r made; rest = hidings_by r found.rest } in
      let left : expansion.Budget = record (budget_by b) { replacements = c.replacements } in
      let use_is = λ (lt : 0 < length (parameters_of macro_)). uses r.spelled reads.spells.apart (subst (λ n. 0 < n) (params-count r.spelled m.params) lt) in
      sym (ap (λ (e : Expanded). resume f ss (put_all (hidings_by r made) e))
      (replaces-is f (table_by r.spelled table) is (budget_by b) (hiding_by r name) (hidings_by r (opening ∷ now)) macro_ (given r m found absent) set (hidings_by r found.rest) c.replacements
      (call-fits names before after table m waits made now name opening absent closing first_stop o r earlier) some)
      ∙ opened-means f (table_by r.spelled table) is ss call (hidings_by r found.first) (arguments_by r (later_items found.more)) absent (hidings_by r (if_asked taken.raw found.first)) (hidings_by r (if_asked taken.apart found.first)) left
      (o.fits.matches r)
      (λ lt. (
        ap (λ (u : ParameterUse). hidings_by r (if_asked u.raw found.first)) (use_is lt) ∙ asked-read r (stands_raw 0 (chains macro_)) found.first,
        ap (λ (u : ParameterUse). hidings_by r (if_asked u.apart found.first)) (use_is lt) ∙ asked-read r (stands_apart 0 (chains macro_)) found.first,
      ))
      (λ none. (asked-none r taken.raw found.first none, asked-none r taken.apart found.first none))
      ∙ λ i. meaning f (record {
        call = record { name = hiding_by r name; macro = sym (named-is r.spelled table name.token.name m o.found) i; hides = sym (hidden r reads) i; put = hidings_by r made; rest = hidings_by r found.rest };
        raws = [];
        readys = [];
        raw = hidings_by r (if_asked taken.raw found.first);
        later = arguments_by r (later_items found.more) ++ absent_one absent;
      } ∷ ss) [] (hidings_by r (if_asked taken.apart found.first)) (record { replacements = c.replacements; tokens = sym tokens i; counter = sym counter i }));
}
  where
    found : Found
    found = o.fits.found

-- The vectors of an opening

pub opened-work : (names : List (List ℕ)) (before after : Run) (table : Table) (m : Macro) (waits : List Waiting) (made now : List Item) (name opening : Item) (absent : Bool) (closing : Item) (first_stop : ℕ)
    → (o : IsOpening names before after table m waits made now name opening absent closing first_stop)
    → after.work.items ≡ (work_of waits ++ backwards (pending o.fits.found.more o.fits.found.closing o.fits.found.rest)) ++ backwards o.fits.found.first
opened-work names before after table m waits made now name opening absent closing first_stop o =
    ap (λ (x : Run). x.work.items) o.same ∙ o.holds.work
    ∙ ap (λ items. work_of waits ++ backwards items) (split-all 0 (most_cuts (macro_by own_text m)) now o.fits.found (o.fits.splits own_text))
    ∙ ap (λ items. work_of waits ++ items) (backwards-append o.fits.found.first (pending o.fits.found.more o.fits.found.closing o.fits.found.rest))
    ∙ sym (append_assoc (work_of waits) (backwards (pending o.fits.found.more o.fits.found.closing o.fits.found.rest)) (backwards o.fits.found.first))

pub opened-floor : (names : List (List ℕ)) (before after : Run) (table : Table) (m : Macro) (waits : List Waiting) (made now : List Item) (name opening : Item) (absent : Bool) (closing : Item) (first_stop floor : ℕ)
    → (o : IsOpening names before after table m waits made now name opening absent closing first_stop) → slice_get after.stops.items first_stop ≡ Some floor
    → floor ≡ length (work_of waits) + length (pending o.fits.found.more o.fits.found.closing o.fits.found.rest)
opened-floor names before after table m waits made now name opening absent closing first_stop floor o at =
    same_Some _ _ (sym at ∙ (λ i. slice_get (o.fits.stops i) (o.first i)) ∙ first-stop before.stops.items (length (work_of waits)) o.fits.found)
