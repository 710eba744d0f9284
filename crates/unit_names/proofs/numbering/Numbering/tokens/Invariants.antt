-- The tokens so far are seen as before, and their spellings stand in the table.
use Rattle.std.proofs.Common.{◌≡◌, All, take}
use Rattle.c_tokens.specs.Seen.{Extends, IsKnown, spellings_of, toks_of}
use Rattle.c_tokens.specs.Spellings.{with_spellings}
use Rattle.unit_names.specs.Numbering.{AreKept}
use Rattle.unit_names.proofs.numbering.Numbering.tokens.Given as goal

abbrev pub invariant-loop-token : goal.invariant-loop-token
invariant-loop-token l = record {
  kept : AreKept l.names l.self.table l.self.ids.items;
  keeps : Extends l.fn.self.table l.self.table;
  known : All (λ token. IsKnown l.self.table token.name) l.list.items;
  seen : toks_of l.self.table l.list.items ≡ toks_of l.names (take l.token-index l.tokens);
  table : l.self.table ≡ with_spellings l.fn.self.table (spellings_of (toks_of l.names (take l.token-index l.tokens)));
}
