-- The look-up finds an entry of the pair.
use Rattle.std.proofs.Common.{sym, ◌∙◌}
use Rattle.number_sets.specs.Branches.{IsMade}
use Rattle.number_sets.proofs.MadeLemmas.{IfSome_from, found_holds}
use Rattle.number_sets.proofs.PairLemmas.{pair_eq, same_pair}
use Rattle.number_sets.proofs.trie.Trie.remembered.Goals as goal

pub returns : goal.returns
returns c =
    let bs = c.args.self.now.branches.keys in
    IfSome_from (IsMade bs c.args.pair) c.copied.result
    (λ set found. found_holds (IsMade bs) (pair_eq c.args.pair) c.args.pair set (λ other h. sym (same_pair c.args.pair other h)) c.args.self.now.done.entries c.requires (sym c.get.ensures.value ∙ sym c.copied.ensures ∙ found))
