use Rattle.std.proofs.Common.{sym, ap, ◌∙◌}
use Rattle.meaning_tree.specs.Nodes.{end_of}
use Rattle.c_tree.proofs.Units.{IsUnitList-absorbs}
use Rattle.c_tree.proofs.unit.Unit.absorb.Goals as goal

pub invariant_of-self : goal.invariant_of-self
invariant_of-self c =
    IsUnitList-absorbs c.self.inside.first c.part.inside.first c.self.inside.nodes c.part.inside.nodes _
    (ap (λ list. list.first) c.part.view_is ∙ c.requires ∙ ap end_of (sym c.self.view_is)) c.self.invariant c.part.invariant c.absorb.ensures.after
