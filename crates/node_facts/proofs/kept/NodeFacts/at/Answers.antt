-- The mark and the entry at a place are those of the fact there.
use Rattle.std.proofs.Common.{get_or, sym, ap, ◌∙◌}
use Rattle.node_facts.specs.declared.fact.NodeFact.TheVariants as facts
use Rattle.node_facts.proofs.KeptLemmas.{kept_read}
use Rattle.node_facts.proofs.kept.NodeFacts.at.Goals as goal

pub returns-then-index-len : goal.returns-then-index-len
returns-then-index-len c =
    c.fact_of.ensures
    ∙ sym (kept_read c.self.inside.types c.self.inside.marks c.args.handle c.get.result c.get-then-index-len.result c.self.invariant.all c.get.ensures c.get-then-index-len.ensures)
    ∙ ap (λ l. get_or l c.args.handle facts.Unknown) c.self.view_is
