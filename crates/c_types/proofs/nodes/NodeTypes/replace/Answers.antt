-- The values that join leave the nodes as they are, and one of them is another one.
use Rattle.std.proofs.Common.{◌∙◌, length}
use Rattle.std.specs.Prelude.{slice_set}
use Rattle.c_types.proofs.NodeLemmas.{kept, kept-refused, nodes_in-set, AreWithin-longer, AreWithin-set}
use Rattle.c_types.proofs.nodes.NodeTypes.replace.Goals as goal

pub returns-in_err-entry-clause-err : goal.returns-in_err-entry-clause-err
returns-in_err-entry-clause-err c =
    kept-refused c.self.inside.values.set.keys c.entry.new.self.set.keys c.self.inside.entries.items c.entry.ensures.grows c.self.invariant c.args.self.now c.self.view_is c.from_residual.result

pub invariant_of-self-2 : goal.invariant_of-self-2
invariant_of-self-2 c =
    AreWithin-set (length c.entry.new.self.set.keys) c.self.inside.entries.items c.args.index c.in_ok-entry.entry
    (AreWithin-longer c.self.inside.values.set.keys c.entry.new.self.set.keys c.self.inside.entries.items c.entry.ensures.grows c.self.invariant)
    c.in_ok-entry.ensures.within

pub returns-clause-ok : goal.returns-clause-ok
returns-clause-ok c =
    let same =
    kept c.self.inside.values.set.keys c.entry.new.self.set.keys c.self.inside.entries.items c.entry.ensures.grows c.self.invariant c.args.self.now c.self.view_is
    in
    nodes_in-set c.entry.new.self.set.keys c.self.inside.entries.items c.args.index c.in_ok-entry.entry
    ∙ (λ i. slice_set (same i) c.args.index (c.in_ok-entry.ensures.stands i))
