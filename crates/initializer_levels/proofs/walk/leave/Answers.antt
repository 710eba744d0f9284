-- The level around is the last one.
use Rattle.initializer_levels.proofs.WalkLemmas.{left_last, others_known, outer_known}
use Rattle.initializer_levels.proofs.walk.leave.Goals as goal

pub returns-in_ok-level-in-Some-clause-turned : goal.returns-in_ok-level-in-Some-clause-turned
returns-in_ok-level-in-Some-clause-turned c = λ table paths read found known.
    let is = c.in-Some.ensures.items in
    let outer = outer_known table paths c.args.levels.items c.pop.new.self.items c.in-Some.outer is known in
    left_last table paths read found c.args.length c.args.is_filled c.args.levels.items c.pop.new.self.items c.in-Some.outer c.in_ok-level-in-Some.level
    (read c.args.items) is (c.in_ok-level-in-Some.ensures.level table paths read outer)

pub returns-in_ok-level-in-Some-clause-known : goal.returns-in_ok-level-in-Some-clause-known
returns-in_ok-level-in-Some-clause-known c = λ table paths known.
    let is = c.in-Some.ensures.items in
    let outer = outer_known table paths c.args.levels.items c.pop.new.self.items c.in-Some.outer is known in
    record {
      level = c.in_ok-level-in-Some.ensures.known table paths outer;
      levels = others_known table paths c.args.levels.items c.pop.new.self.items c.in-Some.outer is known;
    }
