-- Node by node, from the first of the body to its last.
use Rattle.std.proofs.Common.{ℕ, inl, inr, ap, sym, ◌∙◌, arith}
use Rattle.std.proofs.lemmas.Bool.{cases_lt}
use Rattle.meaning_tree.specs.Laid.{itself}
use Rattle.meaning_typing.specs.Units.{kind_at}
use Rattle.decl_judge.specs.Units.{nodes_of}
use Rattle.linear_code.specs.Changes.{changes}
use Rattle.linear_code.specs.Known.{judged_unit}
use Rattle.linear_code.proofs.ChangeLemmas.{last-decides}
use Rattle.linear_code.proofs.changes.has_changes.Goals as goal

pub loop-handle-preserved : goal.loop-handle-preserved
loop-handle-preserved g c =
    let judged = judged_unit c.args.unit.now (g.J.ControlFacts.known c.args.facts.now) in
    λ k from below.
    elim (cases_lt k c.loop-handle.handle) [
      | inl less ↦ c.loop-handle.invariant k from less
      | inr past ↦
          ap (λ (k : ℕ). changes judged k (kind_at (nodes_of c.args.unit.now) k)) (omega (arith, below, past)) ∙ sym c.changes.ensures
          ∙ c.if-changes.false
    ]

pub returns : goal.returns
returns g c =
    let known = g.J.ControlFacts.known c.args.facts.now in
    let run = c.first_within-first.ensures in
    last-decides c.args.unit.now (judged_unit c.args.unit.now known) c.args.function c.first_within-first.result c.body_of-body.result
    (c.body_of-body.ensures known) run (λ k from below. c.loop-handle.invariant k from (omega (arith, below, c.loop-handle-test.false)))
    ((run c.body_of-body.result).0 itself).0 c.changes-2.result c.changes-2.ensures
