-- The count of an array is that of its element so often, and the most counts it too.
use Rattle.std.proofs.Common.{◌*◌, ◌/◌, ◌%◌, nat_eq, refl, ap, arith}
use Rattle.c_types.proofs.ElementLemmas.{times-repeats}
use Rattle.c_types.proofs.elements.Elements.times.Goals as goal

pub returns-clause-repeats : goal.returns-clause-repeats
returns-clause-repeats c =
    times-repeats c.args.self (record { token = c.args.self.token; most_low = c.max-most.result % 4294967296; most_high = c.max-most.result / 4294967296; is_empty = nat_eq c.min-count.result 0; of = c.args.self.of })
    c.args.length c.min-count.result c.max-most.result c.requires
    (omega (arith, c.min-count.ensures, c.saturating_mul.ensures, ap (λ n. c.args.length * n) c.count.ensures.count))
    (omega (arith, c.max-most.ensures, c.most.ensures)) (omega arith) refl
