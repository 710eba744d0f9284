use Rattle.std.proofs.Common.{◌≡◌, length, reverse}
use Rattle.c_directives.specs.PartEnds.{AreOpen, ArePartEnds, last_tokens}
use Rattle.c_directives.proofs.skipped_parts.part_ends.Given as goal

abbrev pub invariant-directives : goal.invariant-directives
invariant-directives l =
    record {
      left : l.left ≡ last_tokens l.tokens.items (length l.left);
      parts : AreOpen l.names l.tokens.items l.left (reverse l.parts.items);
      ends : ArePartEnds l.names l.tokens.items l.ends.entries;
    }

abbrev pub decreases-directives : goal.decreases-directives
decreases-directives l = length l.left
