use Rattle.std.proofs.Common.{◌≡◌, ◌++◌, ◌≤◌, length, map, take}
use Rattle.meaning_attributes.specs.Pieces.{comma_pieces}
use Rattle.c_tokens.specs.Seen.{toks_of}
use Rattle.c_attrs.specs.Seen.{context_seen}
use Rattle.c_attrs.specs.Cuts.{pieces_in, size_left}
use Rattle.c_attrs.specs.Parts.{contexts_among}
use Rattle.c_attrs.proofs.list.push_contexts.Given as goal

-- those so far and those to come are all, and what stood there before stands there still
abbrev pub invariant-items : goal.invariant-items
invariant-items l =
    record {
      same : map context_seen l.contexts ++ contexts_among (pieces_in l.names l.left) ≡ map context_seen l.fn.contexts ++ contexts_among (comma_pieces (toks_of l.names l.toks));
      kept : take (length l.fn.contexts) l.contexts ≡ l.fn.contexts;
      longer : length l.fn.contexts ≤ length l.contexts;
    }

abbrev pub decreases-items : goal.decreases-items
decreases-items l = size_left l.left
