use Rattle.std.proofs.Common.{take, drop, Some, sym, ap, ◌∙◌}
use Rattle.c_literals.specs.Seen.{base_seen}
use Rattle.c_literals.proofs.IntegerLemmas.{numeral_constant-parts}
use Rattle.c_literals.proofs.integer.read_numeral.Goals as goal

pub returns-clause-answer : goal.returns-clause-answer
returns-clause-answer c =
    let numeral = c.args.numeral.now in
    let parts = c.split_at.ensures in
    let count = c.digits_len.ensures.count in
    let parted = numeral_constant-parts (base_seen c.args.base) numeral _ _ (parts.front ∙ ap (λ n. take n numeral) count) (parts.back ∙ ap (λ n. drop n numeral) count) (sym c.if-is_empty.ensures) (sym c.if-begins_with_digit.ensures) in
    c.read_parts.ensures.answer ∙ ap (λ answer. Some answer) (sym parted)
