use Rattle.std.proofs.Common.{◌≡◌, ◌+◌, Option, option_map, length}
use Rattle.std.specs.List.{list_any}
use Rattle.meaning_attributes.specs.Pieces.{comma_pieces}
use Rattle.meaning_attributes.specs.Items.{meaning_of}
use Rattle.meaning_attributes.specs.Reading.{Refusal, first_bad, passes_limit}
use Rattle.c_tokens.specs.Seen.{toks_of}
use Rattle.c_attrs.specs.Seen.{fault_telling}
use Rattle.c_attrs.specs.Cuts.{pieces_in, size_left}
use Rattle.c_attrs.specs.Parts.{first_of}
use Rattle.c_attrs.proofs.list.refusal.Given as goal

-- what was found so far and what is to come are all
abbrev pub invariant-items : goal.invariant-items
invariant-items l =
    record {
      limit : list_any (λ item. passes_limit (meaning_of item)) (pieces_in l.names l.left) ≡ list_any (λ item. passes_limit (meaning_of item)) (comma_pieces (toks_of l.names l.toks));
      found : Option Refusal;
      told : l.bad ≡ option_map fault_telling found;
      first : first_of found (first_bad l.start (pieces_in l.names l.left)) ≡ first_bad 0 (comma_pieces (toks_of l.names l.toks));
      size : l.start + size_left l.left ≡ length l.toks + 1;
    }

abbrev pub decreases-items : goal.decreases-items
decreases-items l = size_left l.left
