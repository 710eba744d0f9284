use Rattle.std.proofs.Common.{◌∙◌, ◌≡◌, ◌+◌, ◌-◌, sym, ap, subst, ◌∷◌, ◌++◌, [], length, slice_get, Some, All, refl, arith, length-append}
use Rattle.std.proofs.lemmas.List.{append-nil}
use Rattle.std.proofs.lemmas.List.Elements.{All-push}
use Rattle.std.proofs.lemmas.Option.{slice_get_within}
use Rattle.meaning_macros.specs.Expansion as expansion
use Rattle.vocabulary.specs.declared.limit.LimitKind.TheVariants.{MacroReplacements}
use Rattle.c_tokens.specs.Seen.{Extends}
use Rattle.c_macros.specs.declared.budget.Budget.{Budget}
use Rattle.c_macros.specs.declared.expand_fault.ExpandFault.TheVariants.{Limit}
use Rattle.c_macros.specs.declared.run.Run.{Run}
use Rattle.c_macros.specs.Argument.{if_asked}
use Rattle.c_macros.specs.Ends.{Ends, budget_by}
use Rattle.c_macros.specs.Front.{front_of}
use Rattle.c_macros.specs.Reading.{hiding_by, hidings_by}
use Rattle.c_macros.specs.Run.{IsKnownCall, outcome, table_by}
use Rattle.c_macros.specs.Seen.{macro_by}
use Rattle.c_macros.specs.Waiting.{backwards, noted, pending, work_of}
use Rattle.c_macros.proofs.BeginLemmas.{call-fits, given, opened-comes, opened-floor, opened-work}
use Rattle.c_macros.proofs.ExpansionLemmas.{replaces-none}
use Rattle.c_macros.proofs.HoldLemmas.{begun-holds}
use Rattle.c_macros.proofs.KnownLemmas.{calls-later, items-later, known-later}
use Rattle.c_macros.proofs.StepLemmas.{passed-ends}
use Rattle.c_macros.proofs.VectorLemmas.{length-backwards}
use Rattle.c_macros.proofs.run.Run.begin_call.Goals as goal

pub returns-then-budget-eq0-clause-fails : goal.returns-then-budget-eq0-clause-fails
returns-then-budget-eq0-clause-fails c = λ names before table waits made now opening o r reads f is.
    let place = c.args.name.token.place in
    subst (λ fault. Ends fault (outcome f r table waits made (c.args.name ∷ opening ∷ now) c.args.budget.now))
    (sym (c.passed.ensures ∙ ap (λ calls. Limit MacroReplacements (front_of calls place c.len.result).before) (ap (λ (x : Run). x.calls.items) o.same ∙ o.holds.calls)))
    (passed-ends f r table waits made place expansion.Replacements _ c.len.result
    (replaces-none f (table_by r.spelled table) is (budget_by c.args.budget.now) (hiding_by r c.args.name) (hidings_by r (opening ∷ now)) (macro_by r.spelled c.args.entry.now) (given r c.args.entry.now o.fits.found c.args.absent) _ (hidings_by r o.fits.found.rest)
    (call-fits names before c.args.self.now table c.args.entry.now waits made now c.args.name opening c.args.absent c.args.closing c.args.first_stop o r reads) c.if-budget-eq0.true)
    (c.len.ensures ∙ c.args.self.now.put.ok.0 ∙ ap length (ap (λ (x : Run). x.put.items) o.same ∙ o.holds.put)))

pub noted_call-call-requires : goal.noted_call-call-requires
noted_call-call-requires c =
    slice_get_within c.args.self.now.stops.items c.args.first_stop c.in-Some-number_at.floor
    (ap (λ stops. slice_get stops c.args.first_stop) (sym c.as_slice.ensures.value) ∙ sym c.number_at.ensures ∙ c.in-Some-number_at.is)

pub returns-clause-comes : goal.returns-clause-comes
returns-clause-comes c = λ names before table waits made now opening o.
    let after = c.args.self.now in
    let name = c.args.name in
    let m = c.args.entry.now in
    let absent = c.args.absent in
    let first_stop = c.args.first_stop in
    let hides = c.in_ok-hides.hides in
    let taken = c.in-Some.taken in
    let found = o.fits.found in
    let floor = c.in-Some-number_at.floor in
    let stop = length (work_of waits) + length (pending found.more found.closing found.rest) in
    let at : slice_get after.stops.items first_stop ≡ Some floor = ap (λ stops. slice_get stops first_stop) (sym c.as_slice.ensures.value) ∙ sym c.number_at.ensures ∙ c.in-Some-number_at.is in
    let floor_is : floor ≡ stop = opened-floor names before after table m waits made now name opening absent c.args.closing first_stop floor o at in
    let below = work_of waits ++ backwards (pending found.more found.closing found.rest) in
    let at_below : floor ≡ length below = omega (arith, floor_is, length-append (work_of waits) (backwards (pending found.more found.closing found.rest)), length-backwards (pending found.more found.closing found.rest)) in
    let work = opened-work names before after table m waits made now name opening absent c.args.closing first_stop o in
    let next : Run = record after { sets = c.hidden_in_call.new.sets; calls = c.push.new.self; floor = floor; work = c.begin_argument.new.work; raw = c.begin_argument.new.raw } in
    let left : Budget = record c.args.budget.now { replacements = c.args.budget.now.replacements - 1 } in
    opened-comes names before after next table m waits made now name opening absent c.args.closing first_stop stop hides taken c.args.budget.now left o c.in_ok-hides.ensures.keeps
    (λ r reads. c.in_ok-hides.ensures.read names r reads) c.in-Some.ensures
    (begun-holds before next waits made now name hides (if_asked taken.raw found.first) (if_asked taken.apart found.first) found.more absent found.closing found.rest stop first_stop o.holds o.first
    (c.in_ok-begin_argument.ensures.work below found.first work at_below) floor_is (ap (λ (x : Run). x.put.items) o.same) (ap (λ (x : Run). x.put_ends.items) o.same)
    (c.in_ok-begin_argument.ensures.raw below found.first work at_below ∙ ap (λ (x : Run). x.raw.items ++ if_asked taken.raw found.first) o.same)
    (ap (λ (x : Run). x.raw_ends.items) o.same) o.fits.stops
    (c.in_ok-push.ensures.items ∙ ap (λ call. after.calls.items ++ call ∷ []) c.noted_call-call.ensures ∙ ap (λ (x : Run). x.calls.items ++ noted x name hides absent first_stop ∷ []) o.same))
    (omega (arith, c.if-budget-eq0.false)) refl refl

pub returns-clause-known : goal.returns-clause-known
returns-clause-known c = λ names known name.
    let before = c.args.self.now in
    let grown = c.hidden_in_call.new.sets in
    let more = c.in_ok-hides.ensures.keeps in
    let same : Extends names names = ([], sym (append-nil names)) in
    let work = items-later names names before.sets grown same more before.work.items known.work in
    record {
      work = c.in_ok-begin_argument.ensures.known_work names grown work;
      put = items-later names names before.sets grown same more before.put.items known.put;
      raw = c.in_ok-begin_argument.ensures.known_raw names grown work (items-later names names before.sets grown same more before.raw.items known.raw);
      calls = subst (All (IsKnownCall names grown)) (sym c.in_ok-push.ensures.items)
          (All-push (IsKnownCall names grown) before.calls.items c.noted_call-call.result (calls-later names names before.sets grown same more before.calls.items known.calls)
          (subst (IsKnownCall names grown) (sym c.noted_call-call.ensures) (record { name = known-later names names before.sets grown same more c.args.name name; hides = c.in_ok-hides.ensures.set })));
      closings = c.in_ok-begin_argument.ensures.closings before.closings.items known.closings;
      some_set = omega (arith, known.some_set, ap length more.1, length-append before.sets more.0);
    }
