use Rattle.std.proofs.Common.{◌≡◌, ◌∙◌, ◌+◌, ◌-◌, ◌<◌, ◌≤◌, sym, ap, subst, List, ◌∷◌, length, [], arith, All, refl, length-append, option_copied, map}
use Rattle.std.proofs.lemmas.List.{append-nil}
use Rattle.number_sets.specs.NumberSets.{Extends}
use Rattle.vocabulary.specs.declared.limit.LimitKind.TheVariants.{MacroReplacements}
use Rattle.meaning_macros.specs.Substitution.{substituted}
use Rattle.meaning_macros.specs.Expansion as expansion
use Rattle.c_tokens.specs.Seen.{at_of}
use Rattle.c_tokens.proofs.SeenLemmas.{Extends-Extends}
use Rattle.c_macros.specs.declared.budget.Budget.{Budget}
use Rattle.c_macros.specs.declared.expand_fault.ExpandFault.TheVariants.{Limit}
use Rattle.c_macros.specs.declared.run.Run.{Run}
use Rattle.c_macros.specs.Ends.{Ends, budget_by}
use Rattle.c_macros.specs.Front.{front_of, told_by}
use Rattle.c_macros.specs.Laid.{LaidItems, Lays}
use Rattle.c_macros.specs.Lay.{SpacedOn}
use Rattle.c_macros.specs.Operands.{grouped, part_by}
use Rattle.c_macros.specs.Reading.{hiding_by, hidings_by, HasSet}
use Rattle.c_macros.specs.Run.{IsKnownItem, IsKnownRun, table_by, outcome, Comes, left_to_do}
use Rattle.c_macros.specs.Seen.{macro_by}
use Rattle.c_macros.specs.Stops.{AreClosings}
use Rattle.c_macros.specs.Waiting.{work_of}
use Rattle.c_macros.proofs.ExpansionLemmas.{replaces-none}
use Rattle.c_macros.proofs.HideLemmas.{Reads-earlier, hidden-with}
use Rattle.c_macros.proofs.KnownLemmas.{items-later, known-both, laid-known, on_ok_both, on_ok_from}
use Rattle.c_macros.proofs.PartLemmas.{parts-known}
use Rattle.c_macros.proofs.ReplaceLemmas.{any_reading, any_reads, count-is, substitution-fails, object-is, replaced-comes}
use Rattle.c_macros.proofs.StepLemmas.{passed-ends}
use Rattle.c_macros.proofs.run.Run.replace.Goals as goal

pub returns-then-budget-eq0-clause-fails : goal.returns-then-budget-eq0-clause-fails
returns-then-budget-eq0-clause-fails c = λ waits made now holds uses r reads f is.
    let use_ = uses r reads in
    subst (λ fault. Ends fault (outcome f r c.args.table.now waits made (c.args.item ∷ now) c.args.budget.now))
    (sym (c.passed.ensures ∙ ap (λ calls. Limit MacroReplacements (front_of calls c.args.item.token.place c.len.result).before) holds.calls))
    (passed-ends f r c.args.table.now waits made c.args.item.token.place expansion.Replacements _ c.len.result
    (replaces-none f (table_by r.spelled c.args.table.now) is (budget_by c.args.budget.now) (hiding_by r c.args.item) (hidings_by r now) (macro_by r.spelled use_.macro_) [] _ (hidings_by r now) use_.used c.if-budget-eq0.true)
    (c.len.ensures ∙ c.args.self.now.put.ok.0 ∙ ap length holds.put))

pub substitute-requires-clause-parts : goal.substitute-requires-clause-parts
substitute-requires-clause-parts c =
    parts-known c.args.names.now c.in-Some.entry.now c.operands.result.now c.operands.ensures
    (c.requires.table.macros c.args.item.token.name c.in-Some.entry.now (sym c.entry.ensures ∙ ap option_copied c.in-Some.is))

pub lay_body-requires-clause-count : goal.lay_body-requires-clause-count
lay_body-requires-clause-count c =
    let whole = c.in-Ok.ensures.answer (any_reading c.substitute.new.names) (any_reads c.substitute.new.names c.apart.ensures.apart) [] [] (record { before = []; items = refl; first = refl; ends = refl }) (record { before = []; items = refl; first = refl; ends = refl }) in
    omega (arith, whole.count, count-is (any_reading c.substitute.new.names) whole.parts, ap length whole.lays.items)

pub returns-in-Ok-clause-comes : goal.returns-in-Ok-clause-comes
returns-in-Ok-clause-comes c = λ waits made now holds uses.
    let names = c.args.names.now in
    let later = c.substitute.new.names in
    let before = c.args.self.now.sets in
    let mid : Run = record c.args.self.now { sets = c.hidden_too.new.sets; laid = c.substitute.new.laid } in
    let next = c.lay_body.new.self in
    let item = c.args.item in
    let more : Extends before next.sets = Extends-Extends before c.hidden_too.new.sets next.sets c.in_ok-hides.ensures.keeps c.lay_body.ensures.sets in
    let whole = c.in-Ok.ensures.answer (any_reading c.substitute.new.names) (any_reads c.substitute.new.names c.apart.ensures.apart) [] [] (record { before = []; items = refl; first = refl; ends = refl }) (record { before = []; items = refl; first = refl; ends = refl }) in
    let found = sym c.entry.ensures ∙ ap option_copied c.in-Some.is in
    on_ok_from {X = (ps : List LaidItems) × Lays mid.laid ps} (λ p. SpacedOn next.sets c.in_ok-hides.hides item.token.space_before p.0 (work_of waits) now next.work.items)
    (next ≡ record mid { work = next.work; closings = next.closings; sets = next.sets; laid = next.laid })
    (Comes later next c.args.table.now waits made (item ∷ now) c.args.budget.now c.lay_body.new.budget)
    c.lay_body.result
    (λ p. c.lay_body.ensures.lays p.0 p.1 (work_of waits) now holds.work holds.floor)
    c.lay_body.ensures.others
    (λ spaced same. replaced-comes names later c.args.self.now mid next c.args.table.now waits made now item c.in-Some.entry.now c.operands.result.now c.in_ok-hides.hides c.args.budget.now c.lay_body.new.budget whole.parts
    (record { work = holds.work; floor = holds.floor; put = holds.put; put_ends = holds.put_ends; raw = holds.raw; raw_ends = holds.raw_ends; stops = holds.stops; calls = holds.calls })
    same
    (λ r reads. Reads-earlier names later before next.sets r c.substitute.ensures.keeps more reads)
    (λ r reads. hidden-with later before c.hidden_too.new.sets r c.in_ok-hides.ensures.keeps (Reads-earlier later later c.hidden_too.new.sets next.sets r ([], sym (append-nil later)) c.lay_body.ensures.sets reads)
    item.hides c.in_ok-hides.hides item.token.name c.requires.item.set c.in_ok-hides.ensures.set c.in_ok-hides.ensures.numbers)
    uses found c.operands.ensures
    (λ r reads. c.in-Ok.ensures.answer r reads [] [] (record { before = []; items = refl; first = refl; ends = refl }) (record { before = []; items = refl; first = refl; ends = refl }))
    whole.lays (λ ps lays. spaced (ps, lays))
    (omega (arith, c.if-budget-eq0.false, ap (λ (b : Budget). b.replacements) c.lay_body.ensures.budget))
    (ap (λ (b : Budget). b.tokens) c.lay_body.ensures.budget) (ap (λ (b : Budget). b.counter) c.lay_body.ensures.budget))

pub returns-in-Ok-clause-known : goal.returns-in-Ok-clause-known
returns-in-Ok-clause-known c =
    let names = c.args.names.now in
    let later = c.substitute.new.names in
    let before = c.args.self.now.sets in
    let hidden = c.hidden_too.new.sets in
    let next = c.lay_body.new.self in
    let same : Extends later later = ([], sym (append-nil later)) in
    let some : 0 < length hidden = omega (arith, c.requires.known.some_set, ap length c.in_ok-hides.ensures.keeps.1, length-append before c.in_ok-hides.ensures.keeps.0) in
    on_ok_from {X = Unit {0}} (λ _. AreClosings next.work.items next.closings.items × All (IsKnownItem later next.sets) next.work.items)
    (next ≡ record c.args.self.now { work = next.work; closings = next.closings; sets = next.sets; laid = next.laid })
    (IsKnownRun later next) c.lay_body.result
    (λ _. on_ok_both (AreClosings next.work.items next.closings.items) (All (IsKnownItem later next.sets) next.work.items) c.lay_body.result (c.lay_body.ensures.closings c.requires.known.closings) (c.lay_body.ensures.known later
    (known-both later hidden c.substitute.new.laid.items.items c.in-Ok.ensures.known (c.in-Ok.ensures.sets hidden some none_known none_known))
    (items-later names later before hidden c.substitute.ensures.keeps c.in_ok-hides.ensures.keeps c.args.self.now.work.items c.requires.known.work)))
    c.lay_body.ensures.others
    (λ work others. laid-known names later c.args.self.now next before c.substitute.ensures.keeps (Extends-Extends before hidden next.sets c.in_ok-hides.ensures.keeps c.lay_body.ensures.sets) c.requires.known refl
    (ap (λ (x : Run). x.put) others) (ap (λ (x : Run). x.raw) others) (ap (λ (x : Run). x.calls) others) (work tt).0 (work tt).1)
  where
    none_known : All (HasSet c.hidden_too.new.sets) []
    none_known = λ k d below. absurd (omega (arith, below))

pub returns-in-Ok-clause-smaller : goal.returns-in-Ok-clause-smaller
returns-in-Ok-clause-smaller c = λ waits made now holds.
    let mid : Run = record c.args.self.now { sets = c.hidden_too.new.sets; laid = c.substitute.new.laid } in
    let next = c.lay_body.new.self in
    let whole = c.in-Ok.ensures.answer (any_reading c.substitute.new.names) (any_reads c.substitute.new.names c.apart.ensures.apart) [] [] (record { before = []; items = refl; first = refl; ends = refl }) (record { before = []; items = refl; first = refl; ends = refl }) in
    let fits : length c.substitute.new.laid.items.items ≤ c.args.budget.now.tokens = omega (arith, whole.count, count-is (any_reading c.substitute.new.names) whole.parts, ap length whole.lays.items) in
    on_ok_from {X = Unit {0}} (λ _. length next.work.items ≡ length c.args.self.now.work.items + length c.substitute.new.laid.items.items)
    (next ≡ record mid { work = next.work; closings = next.closings; sets = next.sets; laid = next.laid })
    (left_to_do next c.lay_body.new.budget < left_to_do c.args.self.now c.args.budget.now + 2) c.lay_body.result
    (λ _. c.lay_body.ensures.count whole.parts whole.lays (work_of waits) now holds.work holds.floor)
    c.lay_body.ensures.others
    (λ count others. omega (arith, fits, count tt, ap (λ (x : Run). length x.calls.items) others, ap (λ (b : Budget). b.tokens) c.lay_body.ensures.budget))

pub returns-in-Err-clause-fails : goal.returns-in-Err-clause-fails
returns-in-Err-clause-fails c = λ waits made now holds uses r reads f is.
    let earlier = Reads-earlier c.args.names.now c.substitute.new.names c.args.self.now.sets c.hidden_too.new.sets r c.substitute.ensures.keeps c.in_ok-hides.ensures.keeps reads in
    let found = sym c.entry.ensures ∙ ap option_copied c.in-Some.is in
    subst (λ fault. Ends fault (outcome f r c.args.table.now waits made (c.args.item ∷ now) c.args.budget.now))
    (sym (c.told.ensures ∙ ap (λ calls. told_by c.in-Err.fault (front_of calls c.args.item.token.place c.len-in-Err.result)) holds.calls))
    (substitution-fails f r c.args.table.now waits made c.args.item.token.place (hiding_by r c.args.item) (r.hidden c.in_ok-hides.hides) (hidings_by r now) (record (budget_by c.args.budget.now) { replacements = c.args.budget.now.replacements - 1 })
    (substituted (at_of c.args.item.token.place) [] [] (grouped (map (part_by r.spelled) c.operands.result.now))) _ c.in-Err.fault c.len-in-Err.result refl
    (object-is f r c.args.table.now is c.args.item now c.in-Some.entry.now c.operands.result.now c.args.budget.now (c.args.budget.now.replacements - 1) (r.hidden c.in_ok-hides.hides) reads.spells.apart (uses r earlier) found (c.operands.ensures r.spelled reads.spells.apart)
    (omega (arith, c.if-budget-eq0.false))
    (hidden-with c.substitute.new.names c.args.self.now.sets c.hidden_too.new.sets r c.in_ok-hides.ensures.keeps reads c.args.item.hides c.in_ok-hides.hides c.args.item.token.name c.requires.item.set c.in_ok-hides.ensures.set c.in_ok-hides.ensures.numbers))
    (c.in-Err.ensures.answer r reads.spells [] [] (record { before = []; items = refl; first = refl; ends = refl }) (record { before = []; items = refl; first = refl; ends = refl }))
    (c.len-in-Err.ensures ∙ c.args.self.now.put.ok.0 ∙ ap length holds.put))
