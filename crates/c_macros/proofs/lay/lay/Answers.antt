use Rattle.std.proofs.Common.{◌≡◌, ◌∙◌, sym, ap, length, arith}
use Rattle.c_tokens.proofs.SeenLemmas.{Extends-Extends}
use Rattle.c_macros.specs.Laid.{items_of}
use Rattle.c_macros.proofs.ClosingLemmas.{keeps-both}
use Rattle.c_macros.proofs.LayLemmas.{last_part, one_laid, all_laid, no_parts}
use Rattle.c_macros.proofs.lay.lay.Goals as goal

pub loop-part-preserved : goal.loop-part-preserved
loop-part-preserved c = record {
  grows = Extends-Extends c.args.sets.now c.loop-part.sets c.put_part.new.sets c.loop-part.invariant.grows c.put_part.ensures.sets;
  below = keeps-both c.args.work.now.items c.put_part.new.work.items c.put_space.new.work.items (keeps-both c.args.work.now.items c.loop-part.work.items c.put_part.new.work.items c.loop-part.invariant.below c.in_ok-put_part.ensures.below) c.put_space.ensures.below;
  rest = c.in_ok-put_part.ensures.rest;
  lays = λ parts lays below now work floor.
      let l = c.loop-part.invariant.lays parts lays below now work floor in
      let p = last_part c.loop-part.laid c.pop.new.self.items c.in-Some.part l.left l.lays c.in-Some.ensures.items in
      let done = c.in_ok-put_part.ensures.put (items_of p.before) p.part.items p.items (c.end_of-first.ensures p.before p.ends_are) in
      one_laid c.loop-part.sets c.put_part.new.sets c.args.hides parts below now c.loop-part.laid (record { items = c.put_part.new.items; ends = c.pop.new.self })
      c.loop-part.work.items c.put_part.new.work.items c.put_space.new.work.items c.in-Some.part c.put_part.ensures.sets l p done.0 done.1
      (λ under up is same. c.put_space.ensures.stand under up is (floor ∙ same));
  count = omega (arith, c.loop-part.invariant.count, c.in_ok-put_part.ensures.count, c.put_space.ensures.count);
  known = λ names items work.
      let now = c.loop-part.invariant.known names items work in
      let next = c.in_ok-put_part.ensures.known names now.1 now.0 in
      (c.put_space.ensures.known names c.put_part.new.sets next.0, next.1);
}

none_left : (c : goal.In_default) → length c.loop-part.laid.ends.items ≡ 0
none_left c = omega (arith, c.in_default.ensures.cases.0, c.loop-part.laid.ends.ok.0)

pub returns-clause-lays : goal.returns-clause-lays
returns-clause-lays c = λ parts lays below now work floor.
    all_laid c.loop-part.sets c.args.hides parts below now c.loop-part.laid c.loop-part.work.items (c.loop-part.invariant.lays parts lays below now work floor) (none_left c)

pub returns-clause-count : goal.returns-clause-count
returns-clause-count c = λ parts lays below now work floor.
    let l = c.loop-part.invariant.lays parts lays below now work floor in
    let left = no_parts l.left (sym (none_left c) ∙ ap length l.lays.ends) in
    omega (arith, c.loop-part.invariant.count, ap length (l.lays.items ∙ ap items_of left))
