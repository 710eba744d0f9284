-- The first byte that is this one ends what stands before it, or the text does.
use Rattle.std.proofs.Common.{ℕ, ◌+◌, add-one, drop, sym, ap, ◌∙◌}
use Rattle.flows.proofs.LineLemmas.{split-at, to-end, unsplit}
use Rattle.flows.proofs.front.split_at_byte.Goals as goal

pub returns-in-Some-clause-before : goal.returns-in-Some-clause-before
returns-in-Some-clause-before c = sym (split-at c.args.mark c.args.text.now c.in-Some.end c.in-Some.ensures.0.high c.in-Some.ensures.1 c.in-Some.ensures.0.before).0

pub returns-in-Some-clause-behind : goal.returns-in-Some-clause-behind
returns-in-Some-clause-behind c =
    to-end c.args.text.now (c.in-Some.end + 1)
    ∙ ap (λ (count : ℕ). drop count c.args.text.now) (add-one c.in-Some.end)
    ∙ sym (split-at c.args.mark c.args.text.now c.in-Some.end c.in-Some.ensures.0.high c.in-Some.ensures.1 c.in-Some.ensures.0.before).1

pub returns-in-None-clause-before : goal.returns-in-None-clause-before
returns-in-None-clause-before c = sym (unsplit c.args.mark c.args.text.now c.in-None.ensures).0

pub returns-in-None-clause-behind : goal.returns-in-None-clause-behind
returns-in-None-clause-behind c = sym (unsplit c.args.mark c.args.text.now c.in-None.ensures).1
