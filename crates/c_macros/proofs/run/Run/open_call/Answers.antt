use Rattle.std.proofs.Common.{◌∙◌, sym, ap, subst, ◌∷◌, [], length, All, refl, OnOk, IfErr, option_copied}
use Rattle.meaning_macros.specs.Expansion as expansion
use Rattle.c_macros.specs.declared.expand_fault.ExpandFault.TheVariants.{Arguments, OpenCall}
use Rattle.c_macros.specs.declared.run.Run.{Run}
use Rattle.c_macros.specs.Calls.{HasClosing, ReadsCall}
use Rattle.c_macros.specs.Ends.{Ends, budget_by}
use Rattle.c_macros.specs.Front.{front_of}
use Rattle.c_macros.specs.Purpose.{IsCalled, use_before}
use Rattle.c_macros.specs.Reading.{HasSet, hiding_by, hidings_by}
use Rattle.c_macros.specs.Run.{Comes, Fails, IsKnownItem, outcome, table_by}
use Rattle.c_macros.specs.Stops.{AreClosings}
use Rattle.c_macros.specs.Waiting.{work_of}
use Rattle.c_macros.proofs.BeginLemmas.{call-open, call-wrong}
use Rattle.c_macros.proofs.ClosingLemmas.{noted-front}
use Rattle.c_macros.proofs.ExpansionLemmas.{wrong-is}
use Rattle.c_macros.proofs.KnownLemmas.{All-front}
use Rattle.c_macros.proofs.StepLemmas.{failed-ends, taken}
use Rattle.c_macros.proofs.run.Run.open_call.Goals as goal

pub begin_call-requires-clause-closing : goal.begin_call-requires-clause-closing
begin_call-requires-clause-closing c =
    let P = HasSet c.args.self.now.sets in
    subst (HasClosing c.args.self.now.sets) c.in-Fits.is
    (c.in_ok-read.ensures.closing c.args.self.now.sets
    (subst (All P) (sym c.as_slice.ensures.value) (All-front P c.pop.new.self.items (c.in-Some-pop._opening ∷ []) (subst (All P) c.in-Some-pop.ensures.items c.requires.sets))))

pub returns-in-Open-clause-fails : goal.returns-in-Open-clause-fails
returns-in-Open-clause-fails c = λ names waits made now holds called r reads f is.
    let name = c.args.name in
    let place = name.token.place in
    let table = c.args.table.now in
    let m = c.in-Some.entry.now in
    let t = taken c.args.self.now c.pop.new.self waits made now c.in-Some-pop._opening holds c.in-Some-pop.ensures.items c.requires.above in
    let read = subst (ReadsCall m (work_of waits) t.under c.args.self.now.stops.items c.read_call.new.stops.items) c.in-Open.is
    (subst (λ definition. ReadsCall definition (work_of waits) t.under c.args.self.now.stops.items c.read_call.new.stops.items c.in_ok-read.read) c.definition.ensures
    (c.in_ok-read.ensures.read (work_of waits) t.under (c.as_slice.ensures.value ∙ t.holds.work) t.holds.floor)) in
    subst (λ fault. Ends fault (outcome f r table waits made (name ∷ now) c.args.budget.now))
    (sym (c.unclosed.ensures ∙ ap (λ calls. OpenCall (front_of calls place c.len-before.result).place (front_of calls place c.len-before.result).before) holds.calls))
    (failed-ends f r table waits made place expansion.OpenCall _ c.len-before.result
    (wrong-is f (table_by r.spelled table) is (budget_by c.args.budget.now) (hiding_by r name) (hidings_by r now) expansion.OpenCall
    (ap (use_before r table name) t.is
    ∙ call-open r table name c.in-Some-pop._opening t.under m (subst (IsCalled r table name) t.is (called r reads)) (sym c.entry.ensures ∙ ap option_copied c.in-Some.is) (read r.spelled)))
    (c.len-before.ensures ∙ c.args.self.now.put.ok.0 ∙ ap length holds.put))

pub returns-in-Wrong-clause-fails : goal.returns-in-Wrong-clause-fails
returns-in-Wrong-clause-fails c = λ names waits made now holds called r reads f is.
    let name = c.args.name in
    let place = name.token.place in
    let table = c.args.table.now in
    let m = c.in-Some.entry.now in
    let t = taken c.args.self.now c.pop.new.self waits made now c.in-Some-pop._opening holds c.in-Some-pop.ensures.items c.requires.above in
    let read = subst (ReadsCall m (work_of waits) t.under c.args.self.now.stops.items c.read_call.new.stops.items) c.in-Wrong.is
    (subst (λ definition. ReadsCall definition (work_of waits) t.under c.args.self.now.stops.items c.read_call.new.stops.items c.in_ok-read.read) c.definition.ensures
    (c.in_ok-read.ensures.read (work_of waits) t.under (c.as_slice.ensures.value ∙ t.holds.work) t.holds.floor)) in
    subst (λ fault. Ends fault (outcome f r table waits made (name ∷ now) c.args.budget.now))
    (sym (c.mismatched.ensures ∙ ap (λ calls. Arguments (front_of calls place c.len-before.result).place (front_of calls place c.len-before.result).before) holds.calls))
    (failed-ends f r table waits made place expansion.WrongArguments _ c.len-before.result
    (wrong-is f (table_by r.spelled table) is (budget_by c.args.budget.now) (hiding_by r name) (hidings_by r now) expansion.WrongArguments
    (ap (use_before r table name) t.is
    ∙ call-wrong r table name c.in-Some-pop._opening t.under m read.found (subst (IsCalled r table name) t.is (called r reads)) (sym c.entry.ensures ∙ ap option_copied c.in-Some.is) (read.splits r.spelled) (read.matches r)))
    (c.len-before.ensures ∙ c.args.self.now.put.ok.0 ∙ ap length holds.put))

pub returns-in-Fits-clause-comes : goal.returns-in-Fits-clause-comes
returns-in-Fits-clause-comes c = λ names waits made now holds called.
    let name = c.args.name in
    let table = c.args.table.now in
    let m = c.in-Some.entry.now in
    let t = taken c.args.self.now c.pop.new.self waits made now c.in-Some-pop._opening holds c.in-Some-pop.ensures.items c.requires.above in
    let before : Run = record c.args.self.now { work = c.pop.new.self } in
    let read = subst (ReadsCall m (work_of waits) t.under c.args.self.now.stops.items c.read_call.new.stops.items) c.in-Fits.is
    (subst (λ definition. ReadsCall definition (work_of waits) t.under c.args.self.now.stops.items c.read_call.new.stops.items c.in_ok-read.read) c.definition.ensures
    (c.in_ok-read.ensures.read (work_of waits) t.under (c.as_slice.ensures.value ∙ t.holds.work) t.holds.floor)) in
    subst (λ ts. OnOk c.begin_call.result (Comes names c.begin_call.new.self table waits made (name ∷ ts) c.args.budget.now c.begin_call.new.budget)) (sym t.is)
    (c.begin_call.ensures.comes names before table waits made t.under c.in-Some-pop._opening (record {
      holds = t.holds;
      same = refl;
      first = c.len-first_stop.ensures ∙ c.args.self.now.stops.ok.0;
      fits = read;
      found = sym c.entry.ensures ∙ ap option_copied c.in-Some.is;
      called = λ r reads. subst (IsCalled r table name) t.is (called r reads);
    }))

pub returns-in-Fits-clause-fails : goal.returns-in-Fits-clause-fails
returns-in-Fits-clause-fails c = λ names waits made now holds called.
    let name = c.args.name in
    let table = c.args.table.now in
    let m = c.in-Some.entry.now in
    let t = taken c.args.self.now c.pop.new.self waits made now c.in-Some-pop._opening holds c.in-Some-pop.ensures.items c.requires.above in
    let before : Run = record c.args.self.now { work = c.pop.new.self } in
    let read = subst (ReadsCall m (work_of waits) t.under c.args.self.now.stops.items c.read_call.new.stops.items) c.in-Fits.is
    (subst (λ definition. ReadsCall definition (work_of waits) t.under c.args.self.now.stops.items c.read_call.new.stops.items c.in_ok-read.read) c.definition.ensures
    (c.in_ok-read.ensures.read (work_of waits) t.under (c.as_slice.ensures.value ∙ t.holds.work) t.holds.floor)) in
    subst (λ ts. IfErr c.begin_call.result (Fails names c.begin_call.new.self table waits made (name ∷ ts) c.args.budget.now)) (sym t.is)
    (c.begin_call.ensures.fails names before table waits made t.under c.in-Some-pop._opening (record {
      holds = t.holds;
      same = refl;
      first = c.len-first_stop.ensures ∙ c.args.self.now.stops.ok.0;
      fits = read;
      found = sym c.entry.ensures ∙ ap option_copied c.in-Some.is;
      called = λ r reads. subst (IsCalled r table name) t.is (called r reads);
    }))

pub returns-in-Fits-clause-known : goal.returns-in-Fits-clause-known
returns-in-Fits-clause-known c = λ names known name.
    let P = IsKnownItem names c.args.self.now.sets in
    c.begin_call.ensures.known names (record {
      work = All-front P c.pop.new.self.items (c.in-Some-pop._opening ∷ []) (subst (All P) c.in-Some-pop.ensures.items known.work);
      put = known.put;
      raw = known.raw;
      calls = known.calls;
      some_set = known.some_set;
      closings = subst (λ items. AreClosings items c.read_call.new.closings.items) c.as_slice.ensures.value c.in_ok-read.ensures.closings;
    }) name

pub read_call-requires-clause-closings : goal.read_call-requires-clause-closings
read_call-requires-clause-closings c =
    subst (λ items. AreClosings items c.args.self.now.closings.items) (sym c.as_slice.ensures.value)
    (noted-front c.args.self.now.work.items c.pop.new.self.items (c.in-Some-pop._opening ∷ []) c.args.self.now.closings.items c.in-Some-pop.ensures.items c.requires.closings)
