use Rattle.std.proofs.Common.{sym, ap, subst, ◌∷◌, length, [], arith, All, length-append, OnOk, IfErr}
use Rattle.std.proofs.lemmas.List.Elements.{All-push}
use Rattle.std.proofs.lemmas.Result.{on_ok_weaker}
use Rattle.c_macros.specs.Purpose.{Purposed}
use Rattle.c_macros.specs.Run.{IsKnownItem, Comes, Fails}
use Rattle.c_macros.specs.Waiting.{work_of}
use Rattle.c_macros.proofs.ClosingLemmas.{noted-front}
use Rattle.c_macros.proofs.KnownLemmas.{All-front, All-last, sets-known}
use Rattle.c_macros.proofs.StepLemmas.{taken, stays-comes}
use Rattle.c_macros.proofs.run.Run.take.Goals as goal

pub returns-in_ok-push-in-Stays-clause-comes : goal.returns-in_ok-push-in-Stays-clause-comes
returns-in_ok-push-in-Stays-clause-comes c = λ waits made now holds.
    let t = taken c.args.self.now c.pop.new.self waits made now c.in-Some.item holds c.in-Some.ensures.items c.requires.above in
    stays-comes c.args.names.now c.args.self.now c.pop.new.self c.push.new.self c.args.table.now waits made now c.in-Some.item c.args.budget.now t c.in_ok-push-in-Stays.ensures.items
    (λ r reads. subst (Purposed r c.args.table.now c.in-Some.item t.under) c.in-Stays.is (c.purpose.ensures.purpose r reads (work_of waits) t.under t.holds.work t.holds.floor))

pub returns-in_ok-push-in-Stays-clause-known : goal.returns-in_ok-push-in-Stays-clause-known
returns-in_ok-push-in-Stays-clause-known c =
    let P = IsKnownItem c.args.names.now c.args.self.now.sets in
    let had = subst (All P) c.in-Some.ensures.items c.requires.known.work in
    record {
      work = All-front P c.pop.new.self.items (c.in-Some.item ∷ []) had;
      put = subst (All P) (sym c.in_ok-push-in-Stays.ensures.items) (All-push P c.args.self.now.put.items c.in-Some.item c.requires.known.put (All-last P c.pop.new.self.items c.in-Some.item had));
      raw = c.requires.known.raw;
      calls = c.requires.known.calls;
      some_set = c.requires.known.some_set;
      closings = noted-front c.args.self.now.work.items c.pop.new.self.items (c.in-Some.item ∷ []) c.args.self.now.closings.items c.in-Some.ensures.items c.requires.known.closings;
    }

pub returns-in-Predefines-clause-comes : goal.returns-in-Predefines-clause-comes
returns-in-Predefines-clause-comes c = λ waits made now holds.
    let t = taken c.args.self.now c.pop.new.self waits made now c.in-Some.item holds c.in-Some.ensures.items c.requires.above in
    subst (λ ts. OnOk c.put_predefined.result (Comes c.put_predefined.new.names c.put_predefined.new.self c.args.table.now waits made ts c.args.budget.now c.put_predefined.new.budget)) (sym t.is)
    (c.put_predefined.ensures.comes waits made t.under t.holds
    (λ r reads. subst (Purposed r c.args.table.now c.in-Some.item t.under) c.in-Predefines.is (c.purpose.ensures.purpose r reads (work_of waits) t.under t.holds.work t.holds.floor)))

pub returns-in-Predefines-clause-fails : goal.returns-in-Predefines-clause-fails
returns-in-Predefines-clause-fails c = λ waits made now holds.
    let t = taken c.args.self.now c.pop.new.self waits made now c.in-Some.item holds c.in-Some.ensures.items c.requires.above in
    subst (λ ts. IfErr c.put_predefined.result (Fails c.put_predefined.new.names c.put_predefined.new.self c.args.table.now waits made ts c.args.budget.now)) (sym t.is)
    (c.put_predefined.ensures.fails waits made t.under t.holds
    (λ r reads. subst (Purposed r c.args.table.now c.in-Some.item t.under) c.in-Predefines.is (c.purpose.ensures.purpose r reads (work_of waits) t.under t.holds.work t.holds.floor)))

pub returns-in-Replaced-clause-comes : goal.returns-in-Replaced-clause-comes
returns-in-Replaced-clause-comes c = λ waits made now holds.
    let t = taken c.args.self.now c.pop.new.self waits made now c.in-Some.item holds c.in-Some.ensures.items c.requires.above in
    subst (λ ts. OnOk c.replace.result (Comes c.replace.new.names c.replace.new.self c.args.table.now waits made ts c.args.budget.now c.replace.new.budget)) (sym t.is)
    (c.replace.ensures.comes waits made t.under t.holds
    (λ r reads. subst (Purposed r c.args.table.now c.in-Some.item t.under) c.in-Replaced.is (c.purpose.ensures.purpose r reads (work_of waits) t.under t.holds.work t.holds.floor)))

pub returns-in-Replaced-clause-fails : goal.returns-in-Replaced-clause-fails
returns-in-Replaced-clause-fails c = λ waits made now holds.
    let t = taken c.args.self.now c.pop.new.self waits made now c.in-Some.item holds c.in-Some.ensures.items c.requires.above in
    subst (λ ts. IfErr c.replace.result (Fails c.replace.new.names c.replace.new.self c.args.table.now waits made ts c.args.budget.now)) (sym t.is)
    (c.replace.ensures.fails waits made t.under t.holds
    (λ r reads. subst (Purposed r c.args.table.now c.in-Some.item t.under) c.in-Replaced.is (c.purpose.ensures.purpose r reads (work_of waits) t.under t.holds.work t.holds.floor)))

pub returns-in-Replaced-clause-smaller : goal.returns-in-Replaced-clause-smaller
returns-in-Replaced-clause-smaller c = λ waits made now holds.
    let t = taken c.args.self.now c.pop.new.self waits made now c.in-Some.item holds c.in-Some.ensures.items c.requires.above in
    on_ok_weaker c.replace.result (λ less. omega (arith, less, ap length c.in-Some.ensures.items, length-append c.pop.new.self.items (c.in-Some.item ∷ []))) (c.replace.ensures.smaller waits made t.under t.holds)

pub open_call-requires-clause-above : goal.open_call-requires-clause-above
open_call-requires-clause-above c = c.purpose.ensures.above c.in-Called.is

pub open_call-requires-clause-sets : goal.open_call-requires-clause-sets
open_call-requires-clause-sets c =
    let P = IsKnownItem c.args.names.now c.args.self.now.sets in
    sets-known c.args.names.now c.args.self.now.sets c.pop.new.self.items (All-front P c.pop.new.self.items (c.in-Some.item ∷ []) (subst (All P) c.in-Some.ensures.items c.requires.known.work))

pub returns-in-Called-clause-comes : goal.returns-in-Called-clause-comes
returns-in-Called-clause-comes c = λ waits made now holds.
    let t = taken c.args.self.now c.pop.new.self waits made now c.in-Some.item holds c.in-Some.ensures.items c.requires.above in
    subst (λ ts. OnOk c.open_call.result (Comes c.args.names.now c.open_call.new.self c.args.table.now waits made ts c.args.budget.now c.open_call.new.budget)) (sym t.is)
    (c.open_call.ensures.comes c.args.names.now waits made t.under t.holds
    (λ r reads. subst (Purposed r c.args.table.now c.in-Some.item t.under) c.in-Called.is (c.purpose.ensures.purpose r reads (work_of waits) t.under t.holds.work t.holds.floor)))

pub returns-in-Called-clause-fails : goal.returns-in-Called-clause-fails
returns-in-Called-clause-fails c = λ waits made now holds.
    let t = taken c.args.self.now c.pop.new.self waits made now c.in-Some.item holds c.in-Some.ensures.items c.requires.above in
    subst (λ ts. IfErr c.open_call.result (Fails c.args.names.now c.open_call.new.self c.args.table.now waits made ts c.args.budget.now)) (sym t.is)
    (c.open_call.ensures.fails c.args.names.now waits made t.under t.holds
    (λ r reads. subst (Purposed r c.args.table.now c.in-Some.item t.under) c.in-Called.is (c.purpose.ensures.purpose r reads (work_of waits) t.under t.holds.work t.holds.floor)))

pub returns-in-Called-clause-known : goal.returns-in-Called-clause-known
returns-in-Called-clause-known c =
    let P = IsKnownItem c.args.names.now c.args.self.now.sets in
    let had = subst (All P) c.in-Some.ensures.items c.requires.known.work in
    c.open_call.ensures.known c.args.names.now (record {
      work = All-front P c.pop.new.self.items (c.in-Some.item ∷ []) had;
      put = c.requires.known.put;
      raw = c.requires.known.raw;
      calls = c.requires.known.calls;
      some_set = c.requires.known.some_set;
      closings = noted-front c.args.self.now.work.items c.pop.new.self.items (c.in-Some.item ∷ []) c.args.self.now.closings.items c.in-Some.ensures.items c.requires.known.closings;
    }) (All-last P c.pop.new.self.items c.in-Some.item had)

pub returns-in-Called-clause-smaller : goal.returns-in-Called-clause-smaller
returns-in-Called-clause-smaller c = λ waits made now holds.
    on_ok_weaker c.open_call.result (λ less. omega (arith, less, ap length c.in-Some.ensures.items, length-append c.pop.new.self.items (c.in-Some.item ∷ []))) c.open_call.ensures.smaller

pub put_predefined-requires-clause-known : goal.put_predefined-requires-clause-known
put_predefined-requires-clause-known c =
    (let P = IsKnownItem c.args.names.now c.args.self.now.sets in record {
      work = All-front P c.pop.new.self.items (c.in-Some.item ∷ []) (subst (All P) c.in-Some.ensures.items c.requires.known.work);
      put = c.requires.known.put;
      raw = c.requires.known.raw;
      calls = c.requires.known.calls;
      some_set = c.requires.known.some_set;
      closings = noted-front c.args.self.now.work.items c.pop.new.self.items (c.in-Some.item ∷ []) c.args.self.now.closings.items c.in-Some.ensures.items c.requires.known.closings;
    })

pub replace-requires-clause-known : goal.replace-requires-clause-known
replace-requires-clause-known c =
    (let P = IsKnownItem c.args.names.now c.args.self.now.sets in record {
      work = All-front P c.pop.new.self.items (c.in-Some.item ∷ []) (subst (All P) c.in-Some.ensures.items c.requires.known.work);
      put = c.requires.known.put;
      raw = c.requires.known.raw;
      calls = c.requires.known.calls;
      some_set = c.requires.known.some_set;
      closings = noted-front c.args.self.now.work.items c.pop.new.self.items (c.in-Some.item ∷ []) c.args.self.now.closings.items c.in-Some.ensures.items c.requires.known.closings;
    })

pub open_call-requires-clause-closings : goal.open_call-requires-clause-closings
open_call-requires-clause-closings c = noted-front c.args.self.now.work.items c.pop.new.self.items (c.in-Some.item ∷ []) c.args.self.now.closings.items c.in-Some.ensures.items c.requires.known.closings
