use Rattle.std.proofs.Common.{◌+◌, ◌<◌, ◌^◌, [], map}
use Rattle.number_sets.specs.NumberSets as number_sets
use Rattle.c_tokens.specs.Seen.{Extends}
use Rattle.c_macros.specs.Expanded.{fresh_item, no_sets}
use Rattle.c_macros.specs.Run.{Comes, IsKnownRun, left_to_do}
use Rattle.c_macros.proofs.expansion.expand.Given as goal

abbrev pub invariant-steps : goal.invariant-steps
invariant-steps l =
    record {
      grows : Extends l.fn.names l.names;
      known : IsKnownRun l.names l.run;
      sum : l.left.counter + l.left.replacements < 2 ^ 32;
      sets : number_sets.Extends no_sets l.run.sets;
      comes : Comes l.names l.run l.table [] [] (map fresh_item l.toks) l.budget l.left;
    }

abbrev pub decreases-steps : goal.decreases-steps
decreases-steps l = left_to_do l.run l.left
