-- The maps stand for the nodes so far.
use Rattle.decl_judge.specs.Units.{nodes_of}
use Rattle.tag_rows.specs.Kept.{StandsForFirst}
use Rattle.tag_rows.proofs.seen.TagsSeen.of.Given as goal

abbrev pub invariant-loop-handle : goal.invariant-loop-handle
invariant-loop-handle l = StandsForFirst (nodes_of l.unit) l.handle l.tags
