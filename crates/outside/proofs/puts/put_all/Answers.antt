use Rattle.std.proofs.Common.{List, ℕ, ◌-◌, ◌++◌, length, take, drop, append_assoc, take-add, sym, ap, ◌∙◌, arith}
use Rattle.std.proofs.lemmas.List.{take_rest}
use Rattle.outside.proofs.puts.put_all.Goals as goal

pub loop-done-preserved : goal.loop-done-preserved
loop-done-preserved g c =
    let text = c.args.bytes.now in
    let done = c.loop-done.done in
    let count = c.in-Took.count in
    let before = g.S.Sink.taken c.args.sink.now in
    let piece = take count (take (length text - done) (drop done text)) in
    record {
      within = grind (arith, c.in-Took.ensures.bytes.1, take_rest text done);
      taken =
          c.in-Took.ensures.takes
          ∙ ap (λ (taken : List ℕ). taken ++ piece) c.loop-done.invariant.taken
          ∙ append_assoc before (take done text) piece
          ∙ ap (λ (taken : List ℕ). before ++ taken)
          (ap (λ (rest : List ℕ). take done text ++ take count rest) (take_rest text done) ∙ sym (take-add done count text));
    }
