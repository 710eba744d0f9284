-- Node by node.
use Rattle.std.proofs.Common.{ℕ, inl, inr, refl, sym, ap, ◌∙◌, arith}
use Rattle.std.proofs.lemmas.Bool.{cases_lt}
use Rattle.std.proofs.lemmas.List.{length-map}
use Rattle.meaning_typing.specs.Units.{kind_at}
use Rattle.decl_judge.specs.Units.{named_node, nodes_of}
use Rattle.context_judge.specs.Kinds.{is_context}
use Rattle.context_judge.proofs.NodeLemmas.{with-context, without-contexts}
use Rattle.context_judge.proofs.unit.has_contexts.Goals as goal

pub loop-handle-preserved : goal.loop-handle-preserved
loop-handle-preserved c = λ k below.
    elim (cases_lt k c.loop-handle.handle) [
      | inl less ↦ c.loop-handle.invariant k less
      | inr past ↦
          ap (λ (k : ℕ). is_context (kind_at (nodes_of c.args.unit.now) k)) (omega (arith, below, past)) ∙ ap is_context (sym c.kind_at.ensures)
          ∙ sym c.is_context.ensures ∙ c.if-is_context.false
    ]

pub returns-then-is_context : goal.returns-then-is_context
returns-then-is_context c =
    let is = ap is_context (sym c.kind_at.ensures) ∙ sym c.is_context.ensures ∙ c.if-is_context.true in
    (λ none. absurd (cc none), λ without. absurd (with-context (nodes_of c.args.unit.now) c.loop-handle.handle is without))

pub returns : goal.returns
returns c =
    let nodes = c.args.unit.now.nodes in (
      λ none.
          without-contexts (nodes_of c.args.unit.now) (λ k within.
          c.loop-handle.invariant k
          (omega (arith, within, length-map nodes named_node, c.loop-handle-test.false, c.loop-handle.auto.handle-end, c.len-handle-end.ensures.value, c.requires))),
      λ without. refl,
    )
