use Rattle.std.proofs.Common.{◌∙◌, ◌-◌, sym, ap, subst, refl, All, option_copied}
use Rattle.std.proofs.lemmas.List.Elements.{All-push}
use Rattle.c_macros.specs.declared.run.Run.{Run}
use Rattle.c_macros.specs.Run.{IsKnownCall}
use Rattle.c_macros.proofs.EndLemmas.{begun-next}
use Rattle.c_macros.proofs.run.Run.begin_next.Goals as goal

pub returns-clause-comes : goal.returns-clause-comes
returns-clause-comes c = λ names waits made now b e.
    let run = c.args.self.now in
    let next : Run = record run { calls = c.push.new.self; floor = c.args.floor; work = c.begin_argument.new.work; raw = c.begin_argument.new.raw } in
    begun-next names run next c.args.table.now c.args.call waits made now c.in-Some.entry.now c.in-Some-use_of.taken c.saturating_sub.result c.args.floor b e c.requires
    (sym c.entry.ensures ∙ ap option_copied c.in-Some.is)
    (c.saturating_sub.ensures ∙ ap (λ n. n - c.args.call.first_put_end) (c.len.ensures ∙ run.put_ends.ok.0))
    c.in-Some-use_of.ensures c.in_ok-begin_argument.ensures.work c.in_ok-begin_argument.ensures.raw refl refl refl refl refl c.in_ok-push.ensures.items

pub returns-clause-known : goal.returns-clause-known
returns-clause-known c = λ names known call.
    let run = c.args.self.now in record {
      work = c.in_ok-begin_argument.ensures.known_work names run.sets known.work;
      put = known.put;
      raw = c.in_ok-begin_argument.ensures.known_raw names run.sets known.work known.raw;
      calls = subst (All (IsKnownCall names run.sets)) (sym c.in_ok-push.ensures.items) (All-push (IsKnownCall names run.sets) run.calls.items _ known.calls (record { name = call.name; hides = call.hides }));
      some_set = known.some_set;
      closings = c.in_ok-begin_argument.ensures.closings run.closings.items known.closings;
    }
