use Rattle.std.proofs.Common.{◌∙◌, ◌+◌, ◌-◌, sym, ap, subst, ◌∷◌, length, [], arith, refl, All}
use Rattle.std.proofs.lemmas.List.{append-nil}
use Rattle.std.proofs.lemmas.List.Elements.{All-push}
use Rattle.meaning_macros.specs.Expansion as expansion
use Rattle.meaning_macros.specs.Expansion.{counter_behind}
use Rattle.number_sets.specs.NumberSets.{Extends, IsSet}
use Rattle.vocabulary.specs.declared.limit.LimitKind.TheVariants.{MacroReplacements}
use Rattle.c_macros.specs.declared.expand_fault.ExpandFault.TheVariants.{Limit}
use Rattle.c_macros.specs.Front.{front_of}
use Rattle.c_macros.specs.Ends.{Ends, budget_by}
use Rattle.c_macros.specs.Purpose.{predefined_by}
use Rattle.c_macros.specs.Reading.{hiding_by, hidings_by}
use Rattle.c_macros.specs.Run.{IsKnownItem, table_by, outcome}
use Rattle.c_macros.proofs.ExpansionLemmas.{predefined-none}
use Rattle.c_macros.proofs.HideLemmas.{Reads-earlier}
use Rattle.c_macros.proofs.KnownLemmas.{items-later, calls-later}
use Rattle.c_macros.proofs.StepLemmas.{passed-ends, predefined-comes}
use Rattle.c_macros.proofs.run.Run.put_predefined.Goals as goal

pub returns-then-budget-eq0-clause-fails : goal.returns-then-budget-eq0-clause-fails
returns-then-budget-eq0-clause-fails c = λ waits made now holds uses r reads f is.
    subst (λ fault. Ends fault (outcome f r c.args.table.now waits made (c.args.item ∷ now) c.args.budget.now))
    (sym (c.passed.ensures ∙ ap (λ calls. Limit MacroReplacements (front_of calls c.args.item.token.place c.len.result).before) holds.calls))
    (passed-ends f r c.args.table.now waits made c.args.item.token.place expansion.Replacements _ c.len.result
    (predefined-none f (table_by r.spelled c.args.table.now) is (budget_by c.args.budget.now) (hiding_by r c.args.item) (hidings_by r now) (predefined_by c.args.name) (uses r reads) c.if-budget-eq0.true)
    (c.len.ensures ∙ c.args.self.now.put.ok.0 ∙ ap length holds.put))

pub overflow_add-budget : goal.overflow_add-budget
overflow_add-budget c = omega (arith, c.requires.sum, c.counted.ensures.most, c.if-budget-eq0.false)

pub returns-clause-comes : goal.returns-clause-comes
returns-clause-comes c = λ waits made now holds uses.
    predefined-comes c.args.names.now c.predefined_item.new.names c.args.self.now c.push.new.self c.args.table.now waits made now c.args.item c.in_ok-made.made c.args.name c.args.budget.now
    (record { replacements = c.args.budget.now.replacements - 1; tokens = c.args.budget.now.tokens; counter = c.args.budget.now.counter + c.counted.result })
    holds c.in_ok-push.ensures.items
    (λ r reads. Reads-earlier c.args.names.now c.predefined_item.new.names c.args.self.now.sets c.args.self.now.sets r c.in_ok-made.ensures.keeps ([], sym (append-nil c.args.self.now.sets)) reads)
    uses c.in_ok-made.ensures.read (omega (arith, c.if-budget-eq0.false)) refl (sym (c.counted.ensures.behind c.args.budget.now.counter))

pub returns-clause-known : goal.returns-clause-known
returns-clause-known c =
    let names = c.args.names.now in
    let later = c.predefined_item.new.names in
    let sets = c.args.self.now.sets in
    let same : Extends sets sets = ([], sym (append-nil sets)) in
    record {
      work = items-later names later sets sets c.in_ok-made.ensures.keeps same c.args.self.now.work.items c.requires.known.work;
      put = subst (All (IsKnownItem later sets)) (sym c.in_ok-push.ensures.items) (All-push (IsKnownItem later sets) c.args.self.now.put.items c.in_ok-made.made
          (items-later names later sets sets c.in_ok-made.ensures.keeps same c.args.self.now.put.items c.requires.known.put)
          (record { name = c.in_ok-made.ensures.known; set = subst (IsSet sets) (sym c.in_ok-made.ensures.set) c.requires.item.set }));
      raw = items-later names later sets sets c.in_ok-made.ensures.keeps same c.args.self.now.raw.items c.requires.known.raw;
      calls = calls-later names later sets sets c.in_ok-made.ensures.keeps same c.args.self.now.calls.items c.requires.known.calls;
      some_set = c.requires.known.some_set;
      closings = c.requires.known.closings;
    }

pub returns-clause-sum : goal.returns-clause-sum
returns-clause-sum c = omega (arith, c.requires.sum, c.counted.ensures.most, c.if-budget-eq0.false)
