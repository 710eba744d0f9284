-- What is kept of one fact more.
use Rattle.std.proofs.Common.{◌++◌, ◌∷◌, [], sym, ap, ◌∙◌, subst}
use Rattle.node_facts.specs.Kept.{AreKept, node_kept}
use Rattle.node_facts.proofs.KeptLemmas.{pushed}
use Rattle.node_facts.proofs.kept.NodeFacts.push.Goals as goal

pub invariant_of-self-in-Ok : goal.invariant_of-self-in-Ok
invariant_of-self-in-Ok c =
    let entries = c.self.inside.types in
    let kept = c.self.inside.marks in
    let typed = c.in-Ok.ensures.ok ∙ ap (λ entry. entries ++ entry ∷ []) c.node_of.ensures in
    let marked = c.in_ok-push.ensures.ok ∙ ap (λ mark. kept ++ mark ∷ []) c.mark_of.ensures in
    subst (λ l. AreKept l c.push.new.self) (sym typed)
    (subst (λ l. AreKept (entries ++ node_kept c.args.fact ∷ []) l) (sym marked) (pushed entries kept c.args.fact c.self.invariant))
