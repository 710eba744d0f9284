use Rattle.std.proofs.Common.{length, ap, sym, ◌∙◌, subst, ◌<◌}
use Rattle.number_sets.proofs.BranchLemmas.{length-sets_of}
use Rattle.number_sets.proofs.sets.NumberSets.is_set.Goals as goal

pub returns : goal.returns
returns c =
    let same = sym (length-sets_of c.self.inside.trie.branches.keys) ∙ ap length c.self.view_is in
    (λ yes. subst (λ count. c.args.set.0 < count) same (c.stands.ensures.0 yes), λ known. c.stands.ensures.1 (subst (λ count. c.args.set.0 < count) (sym same) known))
