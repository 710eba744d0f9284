use Rattle.std.proofs.Common.{◌≡◌, ◌+◌, length}
use Rattle.std.specs.List.{prefix_len}
use Rattle.meaning_attributes.specs.Tokens.{is_extension}
use Rattle.c_tokens.specs.Seen.{toks_of}
use Rattle.c_attrs.proofs.token.extensions_len.Given as goal

-- the count so far and that to come are all
abbrev pub invariant-extensions : goal.invariant-extensions
invariant-extensions l =
    record {
      same : l.count + prefix_len is_extension (toks_of l.names l.rest) ≡ prefix_len is_extension (toks_of l.names l.toks);
      size : l.count + length l.rest ≡ length l.toks;
    }

abbrev pub decreases-extensions : goal.decreases-extensions
decreases-extensions l = length l.rest
