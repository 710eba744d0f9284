-- The counts add up, and each pair of either list is a tagged handle.
use Rattle.std.proofs.Common.{◌≡◌, ◌++◌, length, ap, ◌∙◌, subst, sym, arith, length-append}
use Rattle.std.proofs.lemmas.List.Elements.{All-append, All-same}
use Rattle.chunk_list.proofs.ChunkLemmas.{AllFilled-append, contents-append}
use Rattle.tag_list.specs.Chain.{AllFilled, entries, few_items}
use Rattle.tag_list.specs.Tagged.{IsTagged}
use Rattle.tag_list.proofs.list.TagList.join.Goals as goal

pub invariant_of-self : goal.invariant_of-self
invariant_of-self c =
    let mine = c.self.inside.chain.list in
    let others = c.other.inside.chain.list in
    let all : entries c.append.new.self.list ≡ entries mine ++ entries others = ap entries c.append.ensures.after ∙ contents-append few_items mine others in
    let total = length-append (entries mine) (entries others) in
    record {
      counted = omega (arith, c.self.invariant.counted, c.other.invariant.counted, ap length all, total);
      small = omega (arith, c.self.invariant.counted, c.other.invariant.counted, c.requires, ap length c.self.view_is, ap length c.other.view_is);
      filled = subst AllFilled (sym c.append.ensures.after) (AllFilled-append few_items mine others c.self.invariant.filled c.other.invariant.filled);
      tagged = All-same IsTagged _ _ all (All-append IsTagged _ _ c.self.invariant.tagged c.other.invariant.tagged);
    }
