-- The values that join leave the nodes as they are, and one node more stands at the end.
use Rattle.std.proofs.Common.{◌∷◌, [], ◌++◌, sym, ap, ◌∙◌, subst, length}
use Rattle.std.proofs.lemmas.Result.{on_ok_weaker, on_err_weaker}
use Rattle.c_types.specs.Nodes.{AreWithin, nodes_in}
use Rattle.c_types.proofs.MarkingLemmas.{from_either}
use Rattle.c_types.proofs.NodeLemmas.{kept, kept-refused, nodes_in-push, AreWithin-longer, AreWithin-push}
use Rattle.c_types.proofs.nodes.NodeTypes.append.Goals as goal

pub returns-in_err-entry-clause-err : goal.returns-in_err-entry-clause-err
returns-in_err-entry-clause-err c =
    kept-refused c.self.inside.values.set.keys c.entry.new.self.set.keys c.self.inside.entries.items c.entry.ensures.grows c.self.invariant c.args.self.now c.self.view_is c.from_residual.result

pub invariant_of-self-2 : goal.invariant_of-self-2
invariant_of-self-2 c =
    let within =
    AreWithin-longer c.self.inside.values.set.keys c.entry.new.self.set.keys c.self.inside.entries.items c.entry.ensures.grows c.self.invariant
    in
    from_either (AreWithin (length c.entry.new.self.set.keys) c.append_entry.new.entries.items) c.append_entry.result c.append_entry.ensures.ok c.append_entry.ensures.err
    (λ is.
    subst (AreWithin (length c.entry.new.self.set.keys)) (sym is)
    (AreWithin-push (length c.entry.new.self.set.keys) c.self.inside.entries.items c.in_ok-entry.entry within c.in_ok-entry.ensures.within))
    (λ is. subst (AreWithin (length c.entry.new.self.set.keys)) (sym is) within)

pub returns-clause-ok : goal.returns-clause-ok
returns-clause-ok c =
    let same =
    kept c.self.inside.values.set.keys c.entry.new.self.set.keys c.self.inside.entries.items c.entry.ensures.grows c.self.invariant c.args.self.now c.self.view_is
    in
    on_ok_weaker c.append_entry.result
    (λ is.
    ap (nodes_in c.entry.new.self.set.keys) is ∙ nodes_in-push c.entry.new.self.set.keys c.self.inside.entries.items c.in_ok-entry.entry
    ∙ (λ i. same i ++ c.in_ok-entry.ensures.stands i ∷ []))
    c.append_entry.ensures.ok

pub returns-clause-err : goal.returns-clause-err
returns-clause-err c =
    on_err_weaker c.append_entry.result
    (λ is.
    ap (nodes_in c.entry.new.self.set.keys) is
    ∙ kept c.self.inside.values.set.keys c.entry.new.self.set.keys c.self.inside.entries.items c.entry.ensures.grows c.self.invariant c.args.self.now c.self.view_is)
    c.append_entry.ensures.err
