-- One node more has its run, and at the end the last run is that of all.
use Rattle.std.proofs.Common.{◌≡◌, ℕ, ◌-◌, List, length, slice_get, sym, ap, subst, ◌∙◌, arith}
use Rattle.written_units.specs.Filling.{IsFilled}
use Rattle.written_units.proofs.FillingLemmas.{all_named, last_kept, one-filled, one-named, none-filled, stand_before}
use Rattle.written_units.proofs.WrittenLemmas.{filled_are_written}
use Rattle.written_units.proofs.order.is_written.Goals as goal

pub loop-handle-init : goal.loop-handle-init
loop-handle-init c = record {
  filled = none-filled c.args.unit.now.nodes c.in_ok-starts.starts.items c.in_ok-starts.ensures.items;
  named = λ handle within. absurd (omega (arith, within));
}

pub loop-handle-preserved : goal.loop-handle-preserved
loop-handle-preserved c =
    let unit = c.args.unit.now in
    record {
      filled =
          one-filled unit.nodes c.loop-handle.starts.items c.push.new.self.items c.loop-handle.handle c.in-Some.start c.in_ok-push.ensures.items
          (stand_before unit c.requires c.each_node_stands_for_one_tree.ensures.order) c.loop-handle.invariant.filled
          (subst (λ (kept : List ℕ). IsFilled unit.nodes kept c.in-Some.start c.loop-handle.handle) c.as_slice.ensures.value c.in-Some.ensures);
      named =
          one-named unit c.loop-handle.handle c.args.names _ c.requires c.node.ensures (omega (arith, c.if-node-names.false)) c.loop-handle.invariant.named;
    }

pub returns-clause-written : goal.returns-clause-written
returns-clause-written c = λ yes.
    let unit = c.args.unit.now in
    let kept = c.loop-handle.invariant.filled in
    let all : length unit.nodes ≡ c.loop-handle.handle = omega (arith, c.loop-handle-test.false, c.loop-handle.auto.handle-end, c.len-handle-end.ensures.value, c.requires) in
    filled_are_written unit c.loop-handle.starts.items c.loop-handle.handle c.requires all kept
    (λ last is. last_kept c.loop-handle.starts.items c.copied.result (sym c.eq.ensures ∙ yes)
    (c.copied.ensures ∙ c.last.ensures.value ∙ ap (λ (starts : List ℕ). slice_get starts (length starts - 1)) c.deref.ensures.value) last (kept.all ∙ is))

pub returns-clause-named : goal.returns-clause-named
returns-clause-named c = λ yes.
    let unit = c.args.unit.now in
    let all : length unit.nodes ≡ c.loop-handle.handle = omega (arith, c.loop-handle-test.false, c.loop-handle.auto.handle-end, c.len-handle-end.ensures.value, c.requires) in
    all_named unit.nodes c.loop-handle.handle c.args.names all c.loop-handle.invariant.named
