-- What was read over is no terminal.
use Rattle.std.proofs.Common.{ap, ◌+◌, ◌∙◌}
use Rattle.c_tokens.specs.Seen.{toks_of}
use Rattle.c_terminals.specs.Left.{in_front, terminals_at}
use Rattle.c_terminals.proofs.Entries.{known-parts}
use Rattle.c_terminals.proofs.terminals.first_terminal.Goals as goal

pub tokens-preserved : goal.tokens-preserved
tokens-preserved c =
    record {
      same =
          c.tokens.invariant.same
          ∙ ap (terminals_at c.args.names.now c.tokens.index) c.in-Some.ensures.cases.0
          ∙ c.in_ok-found.ensures.front (toks_of c.args.names.now c.in-Some.others.now)
          ∙ ap (λ found. in_front c.args.names.now found (terminals_at c.args.names.now (c.tokens.index + 1) c.in-Some.others.now)) c.in-None.is;
      known = (known-parts c.args.names.now _ _ _ c.in-Some.ensures.cases.0 c.tokens.invariant.known).1;
    }
