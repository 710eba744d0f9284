use Rattle.std.proofs.Common.{◌∙◌, ap, map, reverse}
use Rattle.std.proofs.lemmas.List.{take_all}
use Rattle.c_macros.specs.Expanded.{fresh_item}
use Rattle.c_macros.proofs.BorderLemmas.{reverse-is}
use Rattle.c_macros.proofs.expansion.fresh_items.Goals as goal

pub returns : goal.returns
returns c =
    c.reverse.ensures.items ∙ ap reverse (c.loop-token.invariant ∙ ap (map fresh_item) (take_all c.loop-token.token-index c.args.toks.now c.loop-token-test.false))
    ∙ reverse-is (map fresh_item c.args.toks.now)
