use Rattle.std.proofs.Common.{map, of_z, to_z, arith}
use Rattle.std.specs.Int.{w64}
use Rattle.std.proofs.lemmas.Int.{ints}
use Rattle.meaning_paths.specs.Graphs.{size_of_steps}
use Rattle.control_flow.specs.Seen.{step_of, the_key}
use Rattle.step_counts.proofs.CountLemmas.{total_of_size, within-room}
use Rattle.step_counts.proofs.steps.behind.Goals as goal

pub shifted-requires : goal.shifted-requires
shifted-requires c =
    within-room (size_of_steps (map step_of c.args.steps.now)) c.args.comes (to_z w64 (of_z w64 c.total.result))
    (let size = total_of_size the_key (map step_of c.args.steps.now) in record {
      high = omega (arith, ints, size.high, size.low, c.total.ensures, c.requires.small);
      low = omega (arith, ints, size.high, size.low, c.total.ensures, c.requires.small);
    })
    c.requires.within
