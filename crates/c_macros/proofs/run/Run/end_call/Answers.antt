use Rattle.std.proofs.Common.{◌∙◌, ◌≡◌, ◌+◌, ◌≤◌, sym, ap, subst, List, [], length, take, All, refl, arith, option_copied}
use Rattle.std.proofs.lemmas.List.{append-nil}
use Rattle.number_sets.specs.NumberSets.{IsSet}
use Rattle.number_sets.specs.NumberSets as sets
use Rattle.meaning_macros.specs.Bodies.{chains}
use Rattle.meaning_macros.specs.Substitution.{substituted}
use Rattle.c_tokens.specs.Seen.{Extends, at_of}
use Rattle.c_macros.specs.declared.budget.Budget.{Budget}
use Rattle.c_macros.specs.declared.laid.Laid.{Laid}
use Rattle.c_macros.specs.declared.run.Run.{Run}
use Rattle.c_macros.specs.Arguments.{arguments_by}
use Rattle.c_macros.specs.Ends.{Ends, budget_by}
use Rattle.c_macros.specs.Front.{front_of, told_by}
use Rattle.c_macros.specs.Laid.{LaidItems, Lays}
use Rattle.c_macros.specs.Lay.{SpacedOn}
use Rattle.c_macros.specs.Reading.{HasName, HasSet, hiding_by, hidings_by}
use Rattle.c_macros.specs.Run.{Comes, IsKnownItem, IsKnownRun, left_to_do, outcome}
use Rattle.c_macros.specs.Seen.{macro_by}
use Rattle.c_macros.specs.Substitution.{IsWhole}
use Rattle.c_macros.specs.Stops.{AreClosings}
use Rattle.c_macros.specs.Waiting.{puts_of, raws_of, work_of}
use Rattle.c_macros.proofs.EndLemmas.{Leaves, all_done, call-comes, closed-comes, leaves-holds, no-later, put-row, raw-row}
use Rattle.c_macros.proofs.KnownLemmas.{items-later, known-both, laid-known, left-known, names-known, on_ok_both, on_ok_from, sets-known}
use Rattle.c_macros.proofs.ReplaceLemmas.{any_reading, any_reads, substitution-fails}
use Rattle.c_macros.proofs.run.Run.end_call.Goals as goal

pub substitute_call-requires-clause-body : goal.substitute_call-requires-clause-body
substitute_call-requires-clause-body c = c.requires.table.macros c.args.call.name.token.name c.in-Some.entry.now (sym c.entry.ensures ∙ ap option_copied c.in-Some.is)

pub substitute_call-requires-clause-raw : goal.substitute_call-requires-clause-raw
substitute_call-requires-clause-raw c =
    subst (λ (x : Run). All (HasName c.args.names.now) x.raw.items) (sym c.in_ok-note_absent.ensures.others) (names-known c.args.names.now c.args.self.now.sets c.args.self.now.raw.items c.requires.known.raw)

pub substitute_call-requires-clause-put : goal.substitute_call-requires-clause-put
substitute_call-requires-clause-put c =
    subst (λ (x : Run). All (HasName c.args.names.now) x.put.items) (sym c.in_ok-note_absent.ensures.others) (names-known c.args.names.now c.args.self.now.sets c.args.self.now.put.items c.requires.known.put)

pub lay_body-requires-clause-count : goal.lay_body-requires-clause-count
lay_body-requires-clause-count c =
    subst (λ (laid : Laid). length laid.items.items ≤ c.args.budget.now.tokens) (sym (ap (λ (x : Run). x.laid) c.leave.ensures.others)) c.in-Ok.ensures.count

pub lay_body-requires-clause-hides : goal.lay_body-requires-clause-hides
lay_body-requires-clause-hides c =
    let same = ap (λ (x : Run). x.sets) c.leave.ensures.others ∙ ap (λ (x : Run). x.sets) c.substitute_call.ensures.others ∙ ap (λ (x : Run). x.sets) c.in_ok-note_absent.ensures.others in
    subst (λ table. IsSet table c.args.call.hides) (sym same) c.requires.call.hides

pub lay_body-requires-clause-items : goal.lay_body-requires-clause-items
lay_body-requires-clause-items c =
    let before = c.args.self.now in
    let others = c.in_ok-note_absent.ensures.others in
    let same = ap (λ (x : Run). x.sets) c.leave.ensures.others ∙ ap (λ (x : Run). x.sets) c.substitute_call.ensures.others ∙ ap (λ (x : Run). x.sets) others in
    let raw = sets-known c.args.names.now before.sets before.raw.items c.requires.known.raw in
    let put = sets-known c.args.names.now before.sets before.put.items c.requires.known.put in
    subst (λ table. All (HasSet table) c.leave.new.self.laid.items.items) (sym same)
    (subst (λ (laid : Laid). All (HasSet before.sets) laid.items.items) (sym (ap (λ (x : Run). x.laid) c.leave.ensures.others))
    (c.in-Ok.ensures.sets before.sets c.requires.known.some_set (subst (λ (x : Run). All (HasSet before.sets) x.raw.items) (sym others) raw) (subst (λ (x : Run). All (HasSet before.sets) x.put.items) (sym others) put)))

pub returns-in-Ok-clause-comes : goal.returns-in-Ok-clause-comes
returns-in-Ok-clause-comes c = λ waits made now e.
    let before = c.args.self.now in
    let noted = c.note_absent.new.self in
    let laid = c.substitute_call.new.self in
    let mid = c.leave.new.self in
    let next = c.lay_body.new.self in
    let later = c.substitute_call.new.names in
    let call = c.args.call in
    let m = c.in-Some.entry.now in
    let put = c.in_ok-note_absent.ensures.put in
    let raw = c.in_ok-note_absent.ensures.raw in
    let others = c.in_ok-note_absent.ensures.others in
    let leaves : Leaves before noted laid mid call = record { noted_is = others; laid_is = c.substitute_call.ensures.others; after_is = c.leave.ensures.others; put = c.leave.ensures.put; put_ends = c.leave.ensures.put_ends; raw = c.leave.ensures.raw; raw_ends = c.leave.ensures.raw_ends; stops = c.leave.ensures.stops } in
    let none = no-later before call waits made now e c.requires.last in
    let holds = leaves-holds before noted laid mid call waits made now e leaves none put raw in
    let raws = raws_of (all_done e.w made) in
    let puts = puts_of (all_done e.w made) in
    let raw_row = raw-row before call waits made now e noted.raw.items noted.raw_ends.items (ap (λ (x : Run). x.raw.items) others) raw in
    let put_row = put-row before call waits made now e noted.put.items noted.put_ends.items (ap (λ (x : Run). x.put.items) others) put in
    let same_laid : mid.laid ≡ laid.laid = ap (λ (x : Run). x.laid) c.leave.ensures.others in
    let r0 = any_reading later in
    let whole0 = subst (λ l. IsWhole r0 c.args.budget.now.tokens l (substituted (at_of call.name.token.place) (arguments_by r0 raws) (arguments_by r0 puts) (chains (macro_by r0.spelled m)))) (sym same_laid)
    (c.in-Ok.ensures.answer r0 (any_reads later c.apart.ensures.apart) raws puts raw_row put_row) in
    on_ok_from {X = (ps : List LaidItems) × Lays mid.laid ps} (λ p. SpacedOn next.sets call.hides call.name.token.space_before p.0 (work_of e.ws) e.w.rest next.work.items)
    (next ≡ record mid { work = next.work; closings = next.closings; sets = next.sets; laid = next.laid })
    (Comes later next c.args.table.now waits made now c.args.budget.now c.lay_body.new.budget)
    c.lay_body.result
    (λ p. c.lay_body.ensures.lays p.0 p.1 (work_of e.ws) e.w.rest holds.work holds.floor)
    c.lay_body.ensures.others
    (λ spaced same. closed-comes later before mid next c.args.table.now call waits made now m c.args.budget.now c.lay_body.new.budget whole0.parts e none holds same
    (sym c.entry.ensures ∙ ap option_copied c.in-Some.is)
    (λ r reads. subst (λ l. IsWhole r c.args.budget.now.tokens l (substituted (at_of call.name.token.place) (arguments_by r raws) (arguments_by r puts) (chains (macro_by r.spelled m)))) (sym same_laid) (c.in-Ok.ensures.answer r reads raws puts raw_row put_row))
    whole0.lays (λ ps lays. spaced (ps, lays))
    (ap (λ (b : Budget). b.replacements) c.lay_body.ensures.budget) (ap (λ (b : Budget). b.tokens) c.lay_body.ensures.budget) (ap (λ (b : Budget). b.counter) c.lay_body.ensures.budget))

pub returns-in-Ok-clause-known : goal.returns-in-Ok-clause-known
returns-in-Ok-clause-known c =
    let before = c.args.self.now in
    let laid = c.substitute_call.new.self in
    let mid = c.leave.new.self in
    let next = c.lay_body.new.self in
    let names = c.args.names.now in
    let later = c.substitute_call.new.names in
    let call = c.args.call in
    let others = c.in_ok-note_absent.ensures.others in
    let same : Extends later later = ([], sym (append-nil later)) in
    let same_sets : sets.Extends mid.sets mid.sets = ([], sym (append-nil mid.sets)) in
    let sets_are = ap (λ (x : Run). x.sets) c.leave.ensures.others ∙ ap (λ (x : Run). x.sets) c.substitute_call.ensures.others ∙ ap (λ (x : Run). x.sets) others in
    let known = left-known names before mid call.first_put call.first_raw c.requires.known sets_are
    (ap (λ (x : Run). x.work) c.leave.ensures.others ∙ ap (λ (x : Run). x.work) c.substitute_call.ensures.others ∙ ap (λ (x : Run). x.work) others)
    (ap (λ (x : Run). x.calls) c.leave.ensures.others ∙ ap (λ (x : Run). x.calls) c.substitute_call.ensures.others ∙ ap (λ (x : Run). x.calls) others)
    (ap (λ (x : Run). x.closings) c.leave.ensures.others ∙ ap (λ (x : Run). x.closings) c.substitute_call.ensures.others ∙ ap (λ (x : Run). x.closings) others)
    (c.leave.ensures.put ∙ ap (take call.first_put) (ap (λ (x : Run). x.put.items) c.substitute_call.ensures.others ∙ ap (λ (x : Run). x.put.items) others))
    (c.leave.ensures.raw ∙ ap (take call.first_raw) (ap (λ (x : Run). x.raw.items) c.substitute_call.ensures.others ∙ ap (λ (x : Run). x.raw.items) others)) in
    let raw = sets-known names before.sets before.raw.items c.requires.known.raw in
    let put = sets-known names before.sets before.put.items c.requires.known.put in
    let laid_sets = subst (λ table. All (HasSet table) mid.laid.items.items) (sym sets_are)
    (subst (λ (l : Laid). All (HasSet before.sets) l.items.items) (sym (ap (λ (x : Run). x.laid) c.leave.ensures.others))
    (c.in-Ok.ensures.sets before.sets c.requires.known.some_set (subst (λ (x : Run). All (HasSet before.sets) x.raw.items) (sym others) raw) (subst (λ (x : Run). All (HasSet before.sets) x.put.items) (sym others) put))) in
    let laid_names = subst (λ (l : Laid). All (HasName later) l.items.items) (sym (ap (λ (x : Run). x.laid) c.leave.ensures.others)) c.in-Ok.ensures.known in
    on_ok_from {X = Unit {0}} (λ _. AreClosings next.work.items next.closings.items × All (IsKnownItem later next.sets) next.work.items)
    (next ≡ record mid { work = next.work; closings = next.closings; sets = next.sets; laid = next.laid })
    (IsKnownRun later next) c.lay_body.result
    (λ _. on_ok_both (AreClosings next.work.items next.closings.items) (All (IsKnownItem later next.sets) next.work.items) c.lay_body.result (c.lay_body.ensures.closings known.closings) (c.lay_body.ensures.known later (known-both later mid.sets mid.laid.items.items laid_names laid_sets)
    (items-later names later mid.sets mid.sets c.substitute_call.ensures.keeps same_sets mid.work.items known.work)))
    c.lay_body.ensures.others
    (λ work rest. laid-known names later mid next mid.sets c.substitute_call.ensures.keeps c.lay_body.ensures.sets known refl
    (ap (λ (x : Run). x.put) rest) (ap (λ (x : Run). x.raw) rest) (ap (λ (x : Run). x.calls) rest) (work tt).0 (work tt).1)

pub returns-in-Ok-clause-smaller : goal.returns-in-Ok-clause-smaller
returns-in-Ok-clause-smaller c = λ waits made now e.
    let before = c.args.self.now in
    let noted = c.note_absent.new.self in
    let laid = c.substitute_call.new.self in
    let mid = c.leave.new.self in
    let next = c.lay_body.new.self in
    let later = c.substitute_call.new.names in
    let call = c.args.call in
    let m = c.in-Some.entry.now in
    let put = c.in_ok-note_absent.ensures.put in
    let raw = c.in_ok-note_absent.ensures.raw in
    let others = c.in_ok-note_absent.ensures.others in
    let leaves : Leaves before noted laid mid call = record { noted_is = others; laid_is = c.substitute_call.ensures.others; after_is = c.leave.ensures.others; put = c.leave.ensures.put; put_ends = c.leave.ensures.put_ends; raw = c.leave.ensures.raw; raw_ends = c.leave.ensures.raw_ends; stops = c.leave.ensures.stops } in
    let none = no-later before call waits made now e c.requires.last in
    let holds = leaves-holds before noted laid mid call waits made now e leaves none put raw in
    let raw_row = raw-row before call waits made now e noted.raw.items noted.raw_ends.items (ap (λ (x : Run). x.raw.items) others) raw in
    let put_row = put-row before call waits made now e noted.put.items noted.put_ends.items (ap (λ (x : Run). x.put.items) others) put in
    let same_laid : mid.laid ≡ laid.laid = ap (λ (x : Run). x.laid) c.leave.ensures.others in
    let whole = c.in-Ok.ensures.answer (any_reading later) (any_reads later c.apart.ensures.apart) (raws_of (all_done e.w made)) (puts_of (all_done e.w made)) raw_row put_row in
    on_ok_from {X = Unit {0}} (λ _. length next.work.items ≡ length mid.work.items + length mid.laid.items.items)
    (next ≡ record mid { work = next.work; closings = next.closings; sets = next.sets; laid = next.laid })
    (left_to_do next c.lay_body.new.budget ≤ left_to_do before c.args.budget.now) c.lay_body.result
    (λ _. c.lay_body.ensures.count whole.parts (subst (λ l. Lays l whole.parts) (sym same_laid) whole.lays) (work_of e.ws) e.w.rest holds.work holds.floor)
    c.lay_body.ensures.others
    (λ count rest. omega (
      arith,
      c.in-Ok.ensures.count,
      count tt,
      ap (λ (l : Laid). length l.items.items) same_laid,
      ap (λ (x : Run). length x.calls.items) rest,
      ap (λ (b : Budget). b.tokens) c.lay_body.ensures.budget,
      ap (λ (x : Run). length x.work.items) c.leave.ensures.others,
      ap (λ (x : Run). length x.work.items) c.substitute_call.ensures.others,
      ap (λ (x : Run). length x.work.items) others,
      ap (λ (x : Run). length x.calls.items) c.leave.ensures.others,
      ap (λ (x : Run). length x.calls.items) c.substitute_call.ensures.others,
      ap (λ (x : Run). length x.calls.items) others,
    ))

pub returns-in-Err-clause-fails : goal.returns-in-Err-clause-fails
returns-in-Err-clause-fails c = λ waits made now e r reads f is.
    let before = c.args.self.now in
    let noted = c.note_absent.new.self in
    let call = c.args.call in
    let place = call.name.token.place in
    let m = c.in-Some.entry.now in
    let others = c.in_ok-note_absent.ensures.others in
    let none = no-later before call waits made now e c.requires.last in
    let raws = raws_of (all_done e.w made) in
    let puts = puts_of (all_done e.w made) in
    let raw_row = raw-row before call waits made now e noted.raw.items noted.raw_ends.items (ap (λ (x : Run). x.raw.items) others) c.in_ok-note_absent.ensures.raw in
    let put_row = put-row before call waits made now e noted.put.items noted.put_ends.items (ap (λ (x : Run). x.put.items) others) c.in_ok-note_absent.ensures.put in
    let calls = ap (λ (x : Run). x.calls.items) c.substitute_call.ensures.others ∙ ap (λ (x : Run). x.calls.items) others ∙ e.calls in
    let table = c.args.table.now in
    subst (λ fault. Ends fault (outcome f r table waits made now c.args.budget.now))
    (sym (c.told.ensures ∙ ap (λ cs. told_by c.in-Err.fault (front_of cs place call.first_put)) calls))
    (subst (Ends (told_by c.in-Err.fault _)) (sym (call-comes f r before table is call waits made now m c.args.budget.now e none (sym c.entry.ensures ∙ ap option_copied c.in-Some.is)))
    (substitution-fails f r table e.ws e.w.put place (hiding_by r call.name) (r.hidden call.hides) (hidings_by r e.w.rest) (budget_by c.args.budget.now)
    (substituted (at_of place) (arguments_by r raws) (arguments_by r puts) (chains (macro_by r.spelled m))) _ c.in-Err.fault call.first_put refl refl
    (c.in-Err.ensures.answer r reads.spells raws puts raw_row put_row) (ap (λ x. x.first_put) e.call_is)))
