-- The marks that join leave the nodes as they are, and one node more stands at the end.
use Rattle.std.proofs.Common.{◌≡◌, Some, ◌∷◌, [], ◌++◌, slice_get, sym, ap, ◌∙◌, subst, length}
use Rattle.std.specs.Prelude.{unwrap_or}
use Rattle.std.proofs.lemmas.Option.{slice_get_within}
use Rattle.std.proofs.lemmas.Result.{on_ok_weaker, on_err_weaker}
use Rattle.node_facts.specs.declared.marks.NodeMark.TheVariants as marks
use Rattle.node_facts.specs.Marks.{AreWithin, marks_in}
use Rattle.node_facts.proofs.MarkLemmas.{AreWithin-either, AreWithin-longer, AreWithin-push, marks_in-push, stays, stays-refused}
use Rattle.node_facts.proofs.marks.NodeMarks.push.Goals as goal

pub returns-in_err-number-clause-err : goal.returns-in_err-number-clause-err
returns-in_err-number-clause-err c =
    stays-refused c.self.inside.set.keys c.number_of.new.set.keys c.self.inside.numbers.items c.number_of.ensures.grows c.self.invariant c.args.self.now c.self.view_is c.from_residual.result

pub invariant_of-self-2 : goal.invariant_of-self-2
invariant_of-self-2 c =
    AreWithin-either (length c.number_of.new.set.keys) c.self.inside.numbers.items c.append.new.numbers.items c.in_ok-number.number c.append.result
    (AreWithin-longer c.self.inside.set.keys c.number_of.new.set.keys c.self.inside.numbers.items c.number_of.ensures.grows c.self.invariant)
    (slice_get_within c.number_of.new.set.keys c.in_ok-number.number c.args.mark c.in_ok-number.ensures.stands)
    c.append.ensures.ok c.append.ensures.err

pub returns-clause-ok : goal.returns-clause-ok
returns-clause-ok c =
    let same =
    stays c.self.inside.set.keys c.number_of.new.set.keys c.self.inside.numbers.items c.number_of.ensures.grows c.self.invariant c.args.self.now c.self.view_is
    in
    on_ok_weaker c.append.result
    (λ is.
    ap (marks_in c.number_of.new.set.keys) is ∙ marks_in-push c.number_of.new.set.keys c.self.inside.numbers.items c.in_ok-number.number
    ∙ (λ i. same i ++ unwrap_or (c.in_ok-number.ensures.stands i) marks.Unknown ∷ []))
    c.append.ensures.ok

pub returns-clause-err : goal.returns-clause-err
returns-clause-err c =
    on_err_weaker c.append.result
    (λ is.
    ap (marks_in c.number_of.new.set.keys) is
    ∙ stays c.self.inside.set.keys c.number_of.new.set.keys c.self.inside.numbers.items c.number_of.ensures.grows c.self.invariant c.args.self.now c.self.view_is)
    c.append.ensures.err
