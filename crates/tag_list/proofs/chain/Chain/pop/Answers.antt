-- There is a last tagged handle exactly where there is a last vector.
use Rattle.std.proofs.Common.{◌-◌, ◌<◌, length, refl, arith}
use Rattle.chunk_list.proofs.ChunkLemmas.{length-le-contents}
use Rattle.tag_list.specs.Chain.{few_items}
use Rattle.tag_list.proofs.ChainLemmas.{AllFilled-at}
use Rattle.tag_list.proofs.chain.Chain.pop.Goals as goal

pub returns-clause-found : goal.returns-clause-found
returns-clause-found c =
    let vectors = c.args.self.now.list in
    let last = c.in_ok-last-2.last.now in
    let some : 0 < length vectors = c.in_ok-last-2.ensures.variant.0 refl in
    let filled : 0 < length last.items = AllFilled-at vectors (length vectors - 1) last c.requires (omega arith) c.in_ok-last-2.ensures.value in
    (λ _. omega (arith, length-le-contents few_items vectors c.requires), λ _. c.pop-2.ensures.variant.1 filled)
