-- What comes of a run after a body was substituted.
use Rattle.std.proofs.Common.{◌≡◌, ◌+◌, ◌-◌, ℕ, suc, Bool, List, [], ◌∷◌, ◌++◌, length, map, Some, refl, sym, ap, ◌∙◌, arith, length-append}
use Rattle.std.proofs.lemmas.List.{length-map}
use Rattle.std.proofs.lemmas.Bool.{lt-ltb, le-ltb}
use Rattle.std.proofs.lemmas.Option.{same_Some}
use Rattle.meaning_macros.specs.Bodies.{chains}
use Rattle.meaning_macros.specs.Hiding.{NameSet, Hiding, joined, only, no_names, space_first}
use Rattle.meaning_macros.specs.Substitution.{Substituted, LaidPart, substituted, count_of, laid_before}
use Rattle.meaning_macros.specs.Expansion as expansion
use Rattle.meaning_macros.specs.Expansion.{Expanded, Expander, laid}
use Rattle.sparse_model.specs.declared.place.Place.{Place}
use Rattle.number_sets.specs.declared.sets.SetId.{SetId}
use Rattle.number_sets.specs.NumberSets as sets
use Rattle.c_tokens.specs.Seen.{at_of}
use Rattle.c_tokens.specs.Spellings.{AreApart}
use Rattle.c_macros.specs.declared.arguments.Arguments.{Arguments}
use Rattle.c_macros.specs.Arguments.{HasArguments}
use Rattle.c_macros.specs.declared.budget.Budget.{Budget}
use Rattle.c_macros.specs.declared.definition.Macro.{Macro}
use Rattle.c_macros.specs.declared.item.Item.{Item}
use Rattle.c_macros.specs.declared.laid.Laid.{Laid}
use Rattle.c_macros.specs.declared.operand.Part.{Part}
use Rattle.c_macros.specs.declared.run.Run.{Run}
use Rattle.c_macros.specs.declared.substitution.SubstitutionFault.{SubstitutionFault}
use Rattle.c_macros.specs.declared.substitution.SubstitutionFault.TheVariants.{BadPaste, TooMany, Memory}
use Rattle.c_macros.specs.Ends.{Ends, budget_by}
use Rattle.c_macros.specs.Front.{front_of, told_by}
use Rattle.c_macros.specs.Laid.{LaidItems, Lays, items_of, part_read, parts_before}
use Rattle.c_macros.specs.Lay.{SpacedOn, with_space}
use Rattle.c_macros.specs.Meaning.{IsExpansion, put_all, resume}
use Rattle.c_macros.specs.Operands.{grouped, part_by}
use Rattle.c_macros.specs.Purpose.{IsReplaced}
use Rattle.c_macros.specs.Reading.{Reading, Reads, ReadsNames, hiding_by, hidings_by}
use Rattle.c_macros.specs.Run.{Comes, all_suspended, table_by}
use Rattle.c_macros.specs.Seen.{KeepsApart, Spelling, macro_by}
use Rattle.c_macros.specs.Substitution.{IsWhole, Refuses, made_in}
use Rattle.c_macros.specs.Table.{Table, macro_at}
use Rattle.c_macros.specs.Waiting.{Waiting, Holds, backwards, work_of, put_of, calls_of}
use Rattle.c_macros.proofs.ExpansionLemmas.{replaces-is, laid-whole, laid-over, laid-broken}
use Rattle.c_macros.proofs.LayLemmas.{laid-is, spaced-read}
use Rattle.c_macros.proofs.ReadingLemmas.{spelled_by, spelled_by-known, spelled_by-KeepsApart}
use Rattle.c_macros.proofs.StepLemmas.{passed-ends, failed-ends}
use Rattle.c_macros.proofs.VectorLemmas.{fronts-same, backwards-backwards}

-- a reading of the names, of whatever sets
abbrev pub any_reading : List (List ℕ) → Reading
any_reading names = record { spelled = spelled_by names; hidden = λ set. no_names }

pub any_reads : (names : List (List ℕ)) → AreApart names → ReadsNames names (any_reading names)
any_reads names apart = record { texts = spelled_by-known names; apart = spelled_by-KeepsApart names apart; empty = λ set none. refl }

count-before : (r : Reading) (parts : List LaidItems) (later : List LaidPart) → count_of (parts_before r parts later) ≡ length (items_of parts) + count_of later
count-before r [] later = omega arith
count-before r (p ∷ ps) later = count-before r ps (part_read r p ∷ later) ∙ omega (arith, length-map p.items (hiding_by r), length-append (items_of ps) p.items)

-- how many tokens the parts have
pub count-is : (r : Reading) (parts : List LaidItems) → count_of (parts_before r parts []) ≡ length (items_of parts)
count-is r parts = count-before r parts [] ∙ omega arith

-- a substitution fails, and so does what comes
pub substitution-fails : (f : Expander) (r : Reading) (table : Table) (waits : List Waiting) (made : List Item) (place : Place) (t : Hiding) (hides : NameSet) (rest : List Hiding) (b : expansion.Budget) (found : Substituted) (e : Expanded) (fault : SubstitutionFault) (before : ℕ)
    → t.token.at ≡ at_of place → e ≡ laid f t hides rest b found → Refuses b.tokens fault found → before ≡ length (put_of waits ++ made)
    → Ends (told_by fault (front_of (calls_of waits) place before)) (resume f (all_suspended r table waits) (put_all (hidings_by r made) e))
substitution-fails f r table waits made place t hides rest b found e BadPaste before at is refuses count =
    failed-ends f r table waits made place expansion.BadPaste e before
    (is ∙ ap (laid f t hides rest b) refuses.1 ∙ laid-broken f t hides rest b refuses.0 (le-ltb b.tokens refuses.0 refuses.2) ∙ ap (λ a. expansion.ends (expansion.Failed expansion.BadPaste a)) at) count
substitution-fails f r table waits made place t hides rest b found e TooMany before at is refuses count =
    passed-ends f r table waits made place expansion.MadeTokens e before (is ∙ laid-over f t hides rest b found (lt-ltb b.tokens (made_in found) refuses)) count
substitution-fails f r table waits made place t hides rest b found e Memory before at is refuses count = tt

-- an object-like macro's name with what follows
pub object-is : (f : Expander) (r : Reading) (table : Table) → IsExpansion (table_by r.spelled table) f → (item : Item) (now : List Item) (m : Macro) (ops : List Part) (b : Budget) (left : ℕ) (hides : NameSet)
    → KeepsApart r.spelled → IsReplaced r table item now → macro_at table item.token.name ≡ Some m → grouped (map (part_by r.spelled) ops) ≡ chains (macro_by r.spelled m) → b.replacements ≡ suc left
    → hides ≡ joined (r.hidden item.hides) (only (r.spelled item.token.name))
    → f (budget_by b) (hiding_by r item ∷ hidings_by r now) ≡ laid f (hiding_by r item) hides (hidings_by r now) (record (budget_by b) { replacements = left }) (substituted (at_of item.token.place) [] [] (grouped (map (part_by r.spelled) ops)))
object-is f r table is item now m ops b left hides apart replaced found operands some hidden =
    replaces-is f (table_by r.spelled table) is (budget_by b) (hiding_by r item) (hidings_by r now) (macro_by r.spelled m) [] (joined (r.hidden item.hides) (only (r.spelled item.token.name))) (hidings_by r now) left
    (replaced.used ∙ ap (λ known. expansion.Replaces (macro_by r.spelled known) [] (joined (r.hidden item.hides) (only (r.spelled item.token.name))) (hidings_by r now)) (same_Some _ _ (sym replaced.found ∙ found))) some
    ∙ λ i. laid f (hiding_by r item) (sym hidden i) (hidings_by r now) (record (budget_by b) { replacements = left }) (substituted (at_of item.token.place) [] [] (sym operands i))

-- a whole body before what follows
pub whole-is : (f : Expander) (r : Reading) (names : List (List ℕ)) (table : sets.Table) → Reads names table r → (t : Hiding) (hides : SetId) (space : Bool) (below now work items : List Item) (laid_now : Laid) (b : expansion.Budget) (found : Substituted)
    → t.token.space_before ≡ space → IsWhole r b.tokens laid_now found → ((parts : List LaidItems) → Lays laid_now parts → SpacedOn table hides space parts below now work) → work ≡ below ++ backwards items
    → laid f t (r.hidden hides) (hidings_by r now) b found ≡ f (record b { tokens = b.tokens - length laid_now.items.items }) (hidings_by r items)
whole-is f r names table reads t hides space below now work items laid_now b found spaces whole spaced stand =
    ap (laid f t (r.hidden hides) (hidings_by r now) b) whole.whole
    ∙ laid-whole f t (r.hidden hides) (hidings_by r now) b (parts_before r whole.parts []) (le-ltb b.tokens (count_of (parts_before r whole.parts [])) whole.count)
    ∙ (λ i. f (record b { tokens = b.tokens - (count-is r whole.parts ∙ ap length (sym whole.lays.items)) i }) (space_first (spaces i) (laid_before (r.hidden hides) (parts_before r whole.parts []) (hidings_by r now))))
    ∙ ap (λ ts. f (record b { tokens = b.tokens - length laid_now.items.items }) (space_first space ts)) (laid-is (r.hidden hides) r whole.parts (hidings_by r now) ∙ sym (on.read names r reads))
    ∙ ap (f (record b { tokens = b.tokens - length laid_now.items.items })) (sym (spaced-read r space on.items) ∙ ap (hidings_by r) same)
  where
    on : SpacedOn table hides space whole.parts below now work
    on = spaced whole.parts whole.lays

    same : with_space space on.items ≡ items
    same = sym (backwards-backwards (with_space space on.items)) ∙ ap backwards (fronts-same below below (backwards (with_space space on.items)) (backwards items) (sym on.stand ∙ stand) refl).1 ∙ backwards-backwards items

-- a run that has a body on top
pub laid-holds : (run next : Run) (waits : List Waiting) (made now items : List Item) → Holds run waits made now → next ≡ record run { work = next.work; closings = next.closings; sets = next.sets; laid = next.laid } → next.work.items ≡ work_of waits ++ backwards items
    → Holds next waits made items
laid-holds run next waits made now items holds same stand = record {
  work = stand;
  floor = ap (λ (x : Run). x.floor) same ∙ holds.floor;
  put = ap (λ (x : Run). x.put.items) same ∙ holds.put;
  put_ends = ap (λ (x : Run). x.put_ends.items) same ∙ holds.put_ends;
  raw = ap (λ (x : Run). x.raw.items) same ∙ holds.raw;
  raw_ends = ap (λ (x : Run). x.raw_ends.items) same ∙ holds.raw_ends;
  stops = ap (λ (x : Run). x.stops.items) same ∙ holds.stops;
  calls = ap (λ (x : Run). x.calls.items) same ∙ holds.calls;
}

-- a run in which an object-like macro was replaced
pub replaced-comes : (names later : List (List ℕ)) (run mid next : Run) (table : Table) (waits : List Waiting) (made now : List Item) (item : Item) (m : Macro) (ops : List Part) (hides : SetId) (b c : Budget) (parts : List LaidItems)
    → Holds mid waits made now → next ≡ record mid { work = next.work; closings = next.closings; sets = next.sets; laid = next.laid }
    → ((r : Reading) → Reads later next.sets r → Reads names run.sets r)
    → ((r : Reading) → Reads later next.sets r → r.hidden hides ≡ joined (r.hidden item.hides) (only (r.spelled item.token.name)))
    → ((r : Reading) → Reads names run.sets r → IsReplaced r table item now)
    → macro_at table item.token.name ≡ Some m → ((s : Spelling) → KeepsApart s → grouped (map (part_by s) ops) ≡ chains (macro_by s m))
    → ((r : Reading) → ReadsNames later r → IsWhole r b.tokens mid.laid (substituted (at_of item.token.place) [] [] (grouped (map (part_by r.spelled) ops))))
    → Lays mid.laid parts → ((ps : List LaidItems) → Lays mid.laid ps → SpacedOn next.sets hides item.token.space_before ps (work_of waits) now next.work.items)
    → b.replacements ≡ suc c.replacements → c.tokens ≡ b.tokens - length mid.laid.items.items → c.counter ≡ b.counter
    → Comes later next table waits made (item ∷ now) b c
replaced-comes names later run mid next table waits made now item m ops hides b c parts holds same earlier hidden uses found operands whole lays spaced some made_tokens counter = record {
  shape = record { waits = waits; made = made; now = items; holds = laid-holds mid next waits made now items holds same on.stand };
  means = λ r reads f is. ap (λ (e : Expanded). resume f (all_suspended r table waits) (put_all (hidings_by r made) e))
      (sym (object-is f r table is item now m ops b c.replacements (r.hidden hides) reads.spells.apart (uses r (earlier r reads)) found (operands r.spelled reads.spells.apart) some (hidden r reads)
      ∙ whole-is f r later next.sets reads (hiding_by r item) hides item.token.space_before (work_of waits) now next.work.items items mid.laid (record (budget_by b) { replacements = c.replacements })
      (substituted (at_of item.token.place) [] [] (grouped (map (part_by r.spelled) ops))) refl (whole r reads.spells) spaced on.stand
      ∙ λ i. f (record { replacements = c.replacements; tokens = sym made_tokens i; counter = sym counter i }) (hidings_by r items)));
}
  where
    on : SpacedOn next.sets hides item.token.space_before parts (work_of waits) now next.work.items
    on = spaced parts lays

    items : List Item
    items = with_space item.token.space_before on.items

pub no_arguments : (arguments : Arguments) → arguments.items.now ≡ [] → arguments.first ≡ 0 → arguments.ends.now ≡ [] → HasArguments arguments []
no_arguments arguments none first ends = record { before = []; items = none; first = first; ends = ends }
