-- The words so far, and those of the children that are left in front of them, come to those of all.
use Rattle.std.proofs.Common.{◌≡◌, ◌+◌, ◌^◌, ◌≤◌, length}
use Rattle.meaning_typing.specs.Specifiers as meaning
use Rattle.decl_judge.specs.Seen.{words_before, words_seen}
use Rattle.decl_judge.specs.Units.{handles_of, nodes_of}
use Rattle.decl_judge.proofs.words.words_of.Given as goal

abbrev pub invariant-children : goal.invariant-children
invariant-children l =
    record {
      words : words_before (nodes_of l.unit) (handles_of l.rest) (words_seen l.words) ≡ meaning.words_of (nodes_of l.unit) (handles_of l.children);
      few : l.words.longs + length l.rest ≤ 2 ^ 30;
    }

abbrev pub decreases-children : goal.decreases-children
decreases-children l = length l.rest
