use Rattle.std.proofs.Common.{◌≡◌, ◌++◌, reverse}
use Rattle.unit_commands.specs.Trees.{source_seen}
use Rattle.unit_commands.specs.Walk.{steps_text, tree_text}
use Rattle.unit_commands.proofs.walk.tree_text.Given as goal

abbrev pub invariant-steps : goal.invariant-steps
invariant-steps l = l.text.items ++ steps_text (source_seen l.source) l.left (reverse l.frames.items) ≡ tree_text (source_seen l.source)

abbrev pub decreases-steps : goal.decreases-steps
decreases-steps l = l.left
