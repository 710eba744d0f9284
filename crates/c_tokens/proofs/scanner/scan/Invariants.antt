use Rattle.std.proofs.Common.{◌≡◌, ◌+◌, ◌≤◌, All, length, vec_len}
use Rattle.meaning_text.specs.Lexing.{lexed_file, lexed_behind}
use Rattle.c_tokens.specs.Context.{context_of}
use Rattle.c_tokens.specs.Cursor.{remaining}
use Rattle.c_tokens.specs.Seen.{Extends, IsKnown, spellings_of, toks_of}
use Rattle.c_tokens.specs.Spellings.{with_spellings}
use Rattle.c_tokens.proofs.LexLemmas.{with_tokens}
use Rattle.c_tokens.proofs.scanner.scan.Given as goal

abbrev pub invariant-fronts : goal.invariant-fronts
invariant-fronts l =
    record {
      done : lexed_file l.file l.text ≡ with_tokens (toks_of l.names l.tokens.items) (lexed_behind (context_of l.context) l.space_before (remaining l.cursor));
      count : vec_len l.tokens + length l.cursor.bytes.now ≤ length l.text;
      file : l.cursor.place.file ≡ l.file;
      files : All (λ token. token.place.file ≡ l.file) l.tokens.items;
      known : All (λ token. IsKnown l.names token.name) l.tokens.items;
      joined : l.names ≡ with_spellings l.fn.names (spellings_of (toks_of l.names l.tokens.items));
      keeps : Extends l.fn.names l.names;
    }

abbrev pub decreases-fronts : goal.decreases-fronts
decreases-fronts l = length (remaining l.cursor)
