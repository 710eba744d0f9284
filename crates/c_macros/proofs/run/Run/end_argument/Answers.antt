use Rattle.std.proofs.Common.{◌∙◌, sym, ap, subst, ◌∷◌, ◌++◌, [], length, slice_get, All, arith, length-append}
use Rattle.std.proofs.lemmas.Result.{on_ok_weaker}
use Rattle.c_macros.specs.declared.run.Run.{Run}
use Rattle.c_macros.specs.Run.{IsKnownCall, IsKnownItem, IsKnownRun}
use Rattle.c_macros.proofs.ClosingLemmas.{noted-front}
use Rattle.c_macros.proofs.EndLemmas.{ended}
use Rattle.c_macros.proofs.KnownLemmas.{All-front, All-last, memory-fails}
use Rattle.c_macros.proofs.run.Run.end_argument.Goals as goal

pub begin_next-requires : goal.begin_next-requires
begin_next-requires c = ap (λ stops. slice_get stops c.in-Some.call.next_stop) (sym c.as_slice.ensures.value) ∙ sym c.number_at.ensures ∙ c.in-Some-number_at.is

pub end_call-requires-clause-last : goal.end_call-requires-clause-last
end_call-requires-clause-last c = ap (λ stops. slice_get stops c.in-Some.call.next_stop) (sym c.as_slice.ensures.value) ∙ sym c.number_at.ensures ∙ c.in-None.is

pub end_call-requires-clause-known : goal.end_call-requires-clause-known
end_call-requires-clause-known c =
    let run = c.args.self.now in
    let known = c.requires.known in
    let P = IsKnownItem c.args.names.now run.sets in
    let Q = IsKnownCall c.args.names.now run.sets in
    subst (IsKnownRun c.args.names.now) (sym c.in_ok-note_end.ensures.others) (record {
      work = All-front P c.pop-2.new.self.items (c.in-Some-pop._mark ∷ []) (subst (All P) c.in-Some-pop.ensures.items known.work);
      put = known.put;
      raw = known.raw;
      calls = All-front Q c.pop.new.self.items (c.in-Some.call ∷ []) (subst (All Q) c.in-Some.ensures.items known.calls);
      some_set = known.some_set;
      closings = noted-front run.work.items c.pop-2.new.self.items (c.in-Some-pop._mark ∷ []) run.closings.items c.in-Some-pop.ensures.items known.closings;
    })

pub end_call-requires-clause-call : goal.end_call-requires-clause-call
end_call-requires-clause-call c =
    let Q = IsKnownCall c.args.names.now c.args.self.now.sets in
    subst (λ table. IsKnownCall c.args.names.now table c.in-Some.call) (sym c.note_end.ensures.sets)
    (All-last Q c.pop.new.self.items c.in-Some.call (subst (All Q) c.in-Some.ensures.items c.requires.known.calls))

pub returns-in-Some-number_at-clause-comes : goal.returns-in-Some-number_at-clause-comes
returns-in-Some-number_at-clause-comes c = λ waits made now holds.
    let run = c.args.self.now in
    let others = c.in_ok-note_end.ensures.others in
    c.begin_next.ensures.comes c.args.names.now waits made now c.args.budget.now
    (ended run c.note_end.new.self c.in-Some.call c.in-Some-pop._mark waits made now holds c.requires.ended
    (c.in-Some.ensures.items ∙ ap (λ (x : Run). x.calls.items ++ c.in-Some.call ∷ []) (sym others)) (c.in-Some-pop.ensures.items ∙ ap (λ (x : Run). x.work.items ++ c.in-Some-pop._mark ∷ []) (sym others))
    (ap (λ (x : Run). x.put.items) others) c.in_ok-note_end.ensures.put (ap (λ (x : Run). x.raw.items) others) c.in_ok-note_end.ensures.raw (ap (λ (x : Run). x.stops.items) others))

pub returns-in-Some-number_at-clause-fails : goal.returns-in-Some-number_at-clause-fails
returns-in-Some-number_at-clause-fails c = λ waits made now holds.
    memory-fails c.args.names.now c.begin_next.new.self c.args.table.now waits made now c.args.budget.now c.begin_next.result c.begin_next.ensures.only

pub returns-in-Some-number_at-clause-known : goal.returns-in-Some-number_at-clause-known
returns-in-Some-number_at-clause-known c =
    let run = c.args.self.now in
    let known = c.requires.known in
    let P = IsKnownItem c.args.names.now run.sets in
    let Q = IsKnownCall c.args.names.now run.sets in
    c.begin_next.ensures.known c.args.names.now
    (subst (IsKnownRun c.args.names.now) (sym c.in_ok-note_end.ensures.others) (record {
      work = All-front P c.pop-2.new.self.items (c.in-Some-pop._mark ∷ []) (subst (All P) c.in-Some-pop.ensures.items known.work);
      put = known.put;
      raw = known.raw;
      calls = All-front Q c.pop.new.self.items (c.in-Some.call ∷ []) (subst (All Q) c.in-Some.ensures.items known.calls);
      some_set = known.some_set;
      closings = noted-front run.work.items c.pop-2.new.self.items (c.in-Some-pop._mark ∷ []) run.closings.items c.in-Some-pop.ensures.items known.closings;
    }))
    (subst (λ table. IsKnownCall c.args.names.now table c.in-Some.call) (sym c.note_end.ensures.sets)
    (All-last Q c.pop.new.self.items c.in-Some.call (subst (All Q) c.in-Some.ensures.items known.calls)))

pub returns-in-Some-number_at-clause-smaller : goal.returns-in-Some-number_at-clause-smaller
returns-in-Some-number_at-clause-smaller c = λ waits made now holds.
    let others = c.in_ok-note_end.ensures.others in
    on_ok_weaker c.begin_next.result
    (λ less. omega (
      arith,
      less,
      ap (λ (x : Run). length x.work.items) others,
      ap (λ (x : Run). length x.calls.items) others,
      ap length c.in-Some.ensures.items,
      ap length c.in-Some-pop.ensures.items,
      length-append c.pop.new.self.items (c.in-Some.call ∷ []),
      length-append c.pop-2.new.self.items (c.in-Some-pop._mark ∷ []),
    ))
    (c.begin_next.ensures.smaller c.args.budget.now)

pub returns-in-None-clause-comes : goal.returns-in-None-clause-comes
returns-in-None-clause-comes c = λ waits made now holds.
    let run = c.args.self.now in
    let others = c.in_ok-note_end.ensures.others in
    c.end_call.ensures.comes waits made now
    (ended run c.note_end.new.self c.in-Some.call c.in-Some-pop._mark waits made now holds c.requires.ended
    (c.in-Some.ensures.items ∙ ap (λ (x : Run). x.calls.items ++ c.in-Some.call ∷ []) (sym others)) (c.in-Some-pop.ensures.items ∙ ap (λ (x : Run). x.work.items ++ c.in-Some-pop._mark ∷ []) (sym others))
    (ap (λ (x : Run). x.put.items) others) c.in_ok-note_end.ensures.put (ap (λ (x : Run). x.raw.items) others) c.in_ok-note_end.ensures.raw (ap (λ (x : Run). x.stops.items) others))

pub returns-in-None-clause-fails : goal.returns-in-None-clause-fails
returns-in-None-clause-fails c = λ waits made now holds.
    let run = c.args.self.now in
    let others = c.in_ok-note_end.ensures.others in
    c.end_call.ensures.fails waits made now
    (ended run c.note_end.new.self c.in-Some.call c.in-Some-pop._mark waits made now holds c.requires.ended
    (c.in-Some.ensures.items ∙ ap (λ (x : Run). x.calls.items ++ c.in-Some.call ∷ []) (sym others)) (c.in-Some-pop.ensures.items ∙ ap (λ (x : Run). x.work.items ++ c.in-Some-pop._mark ∷ []) (sym others))
    (ap (λ (x : Run). x.put.items) others) c.in_ok-note_end.ensures.put (ap (λ (x : Run). x.raw.items) others) c.in_ok-note_end.ensures.raw (ap (λ (x : Run). x.stops.items) others))

pub returns-in-None-clause-smaller : goal.returns-in-None-clause-smaller
returns-in-None-clause-smaller c = λ waits made now holds.
    let run = c.args.self.now in
    let others = c.in_ok-note_end.ensures.others in
    on_ok_weaker c.end_call.result
    (λ less. omega (
      arith,
      less,
      ap (λ (x : Run). length x.work.items) others,
      ap (λ (x : Run). length x.calls.items) others,
      ap length c.in-Some.ensures.items,
      ap length c.in-Some-pop.ensures.items,
      length-append c.pop.new.self.items (c.in-Some.call ∷ []),
      length-append c.pop-2.new.self.items (c.in-Some-pop._mark ∷ []),
    ))
    (c.end_call.ensures.smaller waits made now
    (ended run c.note_end.new.self c.in-Some.call c.in-Some-pop._mark waits made now holds c.requires.ended
    (c.in-Some.ensures.items ∙ ap (λ (x : Run). x.calls.items ++ c.in-Some.call ∷ []) (sym others)) (c.in-Some-pop.ensures.items ∙ ap (λ (x : Run). x.work.items ++ c.in-Some-pop._mark ∷ []) (sym others))
    (ap (λ (x : Run). x.put.items) others) c.in_ok-note_end.ensures.put (ap (λ (x : Run). x.raw.items) others) c.in_ok-note_end.ensures.raw (ap (λ (x : Run). x.stops.items) others)))
