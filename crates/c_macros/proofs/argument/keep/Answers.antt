use Rattle.std.proofs.Common.{sym, subst, ◌∷◌, [], All, arith}
use Rattle.std.proofs.lemmas.List.Elements.{All-push}
use Rattle.c_macros.specs.Run.{IsKnownItem}
use Rattle.c_macros.proofs.ArgumentLemmas.{one_kept, all_kept}
use Rattle.c_macros.proofs.KnownLemmas.{All-front, All-last}
use Rattle.c_macros.proofs.argument.keep.Goals as goal

pub loop-rest-preserved : goal.loop-rest-preserved
loop-rest-preserved c = record {
  kept = λ below now is floor.
      one_kept below now c.loop-rest.rest.now c.in-Some.below.now c.args.raw.now.items c.loop-rest.raw.items c.push.new.self.items c.in-Some.item.now
      (c.loop-rest.invariant.kept below now is floor) c.in-Some.ensures.cases.0 (omega (arith, c.loop-rest-test.true, floor)) c.in_ok-push.ensures.items;
  rest_known = λ names table known.
      All-front (IsKnownItem names table) c.in-Some.below.now (c.in-Some.item.now ∷ []) (subst (All (IsKnownItem names table)) c.in-Some.ensures.cases.0 (c.loop-rest.invariant.rest_known names table known));
  known = λ names table known raw.
      subst (All (IsKnownItem names table)) (sym c.in_ok-push.ensures.items)
      (All-push (IsKnownItem names table) c.loop-rest.raw.items c.in-Some.item.now (c.loop-rest.invariant.known names table known raw)
      (All-last (IsKnownItem names table) c.in-Some.below.now c.in-Some.item.now (subst (All (IsKnownItem names table)) c.in-Some.ensures.cases.0 (c.loop-rest.invariant.rest_known names table known))));
}

pub returns-clause-raw : goal.returns-clause-raw
returns-clause-raw c = λ below now is floor.
    all_kept below now c.loop-rest.rest.now c.args.raw.now.items c.loop-rest.raw.items (c.loop-rest.invariant.kept below now is floor) (omega (arith, c.loop-rest-test.false, floor))
