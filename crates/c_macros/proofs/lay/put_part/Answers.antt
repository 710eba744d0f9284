use Rattle.std.proofs.Common.{sym, ap, length, ◌++◌, ◌∷◌, [], All, arith, length-append, subst}
use Rattle.std.proofs.lemmas.List.{append-nil}
use Rattle.std.proofs.lemmas.List.Elements.{All-push}
use Rattle.number_sets.specs.NumberSets.{Extends}
use Rattle.c_tokens.proofs.SeenLemmas.{Extends-Extends}
use Rattle.c_macros.specs.declared.item.Item.{Item}
use Rattle.c_macros.specs.Reading.{HasSet}
use Rattle.c_macros.specs.Run.{IsKnownItem}
use Rattle.c_macros.proofs.ClosingLemmas.{keeps-push}
use Rattle.c_macros.proofs.KnownLemmas.{IsSet-later, sets-later, items-later, All-front, All-last}
use Rattle.c_macros.proofs.LayLemmas.{Putting, one_put}
use Rattle.c_macros.proofs.lay.put_part.Goals as goal

pub loop-hides-preserved : goal.loop-hides-preserved
loop-hides-preserved c =
    let before = c.loop-hides.sets in
    let grown = c.union.new.self in
    let more : Extends before grown = c.in_ok-hidden.ensures.keeps in
    let item = c.in-Some.item in
    let fewer = c.pop.new.self.items in
    let had : All (HasSet before) (fewer ++ item ∷ []) = subst (All (HasSet before)) c.in-Some.ensures.items c.loop-hides.invariant.rest in
    let new : Item = record { token = item.token; hides = c.in_ok-hidden.hidden } in
    record {
      grows = Extends-Extends c.args.sets.now before grown c.loop-hides.invariant.grows more;
      below = keeps-push c.args.work.now.items c.loop-hides.work.items c.push.new.self.items new c.loop-hides.invariant.below c.in_ok-push.ensures.items;
      rest = sets-later before grown more fewer (All-front (HasSet before) fewer (item ∷ []) had);
      put = λ front part is first.
          subst (λ work. Putting grown c.args.hides front part c.args.work.now.items fewer work) (sym c.in_ok-push.ensures.items)
          (one_put before grown c.args.hides front part c.args.work.now.items c.loop-hides.items.items c.loop-hides.work.items fewer item c.in_ok-hidden.hidden
          more (c.loop-hides.invariant.put front part is first) c.in-Some.ensures.items (omega (arith, c.loop-hides-test.true, c.len.ensures, c.loop-hides.items.ok.0, first))
          (All-last (HasSet before) fewer item had) (IsSet-later c.args.sets.now before c.loop-hides.invariant.grows c.args.hides c.requires.hides)
          c.in_ok-hidden.ensures.set c.in_ok-hidden.ensures.numbers);
      count = omega (arith, c.loop-hides.invariant.count, ap length c.in_ok-push.ensures.items, length-append c.loop-hides.work.items (new ∷ []), ap length c.in-Some.ensures.items, length-append fewer (item ∷ []));
      known = λ names items work.
          let now = c.loop-hides.invariant.known names items work in
          let popped : All (IsKnownItem names before) (fewer ++ item ∷ []) = subst (All (IsKnownItem names before)) c.in-Some.ensures.items now.1 in (
            subst (All (IsKnownItem names grown)) (sym c.in_ok-push.ensures.items)
                (All-push (IsKnownItem names grown) c.loop-hides.work.items new
                (items-later names names before grown ([], sym (append-nil names)) more c.loop-hides.work.items now.0)
                (record { name = (All-last (IsKnownItem names before) fewer item popped).name; set = c.in_ok-hidden.ensures.set })),
            items-later names names before grown ([], sym (append-nil names)) more fewer (All-front (IsKnownItem names before) fewer (item ∷ []) popped),
          );
    }
