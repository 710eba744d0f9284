-- A vector that hasn't the place is passed.
use Rattle.std.proofs.Common.{◌≤◌, length, rules, subst}
use Rattle.tag_list.proofs.ChainLemmas.{one_on}
use Rattle.tag_list.proofs.chain.Chain.locate.Goals as goal

pub loop-index-preserved : goal.loop-index-preserved
loop-index-preserved c =
    let shown = c.as_slice-few.ensures in
    let invariant = c.loop-index.invariant in
    let few = c.in-Some.few.now in
    let behind : length few.items ≤ c.loop-index.within = subst (λ l. length l ≤ c.loop-index.within) shown c.if-within-few.false in
    let on = one_on c.args.self.now.list c.loop-index.few-iterator c.next.new.self few c.args.place c.loop-index.index c.loop-index.within c.in-Some.ensures.steps behind invariant.4 invariant.5 invariant.6 invariant.7 in
    (tt, tt, search rules, search rules, on.0, rw shown on.1, rw shown on.2, rw shown on.3)
