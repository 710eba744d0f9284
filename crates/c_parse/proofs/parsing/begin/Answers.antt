-- What holds before the first token.
use Rattle.std.proofs.Common.{length, sym, ap, ◌∙◌, arith}
use Rattle.std.specs.List.{list_all}
use Rattle.meaning_derivation.specs.Leading.{is_no_end, is_usual}
use Rattle.meaning_derivation.specs.State.{State}
use Rattle.parse_state.specs.Seen.{state_of}
use Rattle.c_tokens.specs.Seen.{toks_of}
use Rattle.c_parse.proofs.Running.{begins_sorted}
use Rattle.meaning_derivation.proofs.Unended.{terminals-no_end}
use Rattle.c_parse.proofs.parsing.begin.Goals as goal

pub returns-clause-ready : goal.returns-clause-ready
returns-clause-ready c =
    let items = c.new-3.ensures in
    record {
      names = c.in_ok-terminals.ensures.names ∙ sym c.new-2.ensures.names;
      looked = tt;
      sorted = begins_sorted c.new-3.result (state_of c.new-2.result) items (ap (λ (s : State). s.values) c.new-2.ensures.state);
      usual = ap (list_all is_usual) items;
      unended = ap (list_all is_no_end) c.in_ok-terminals.ensures.terminals ∙ terminals-no_end 0 (toks_of c.args.names.now c.args.tokens.now);
      few = omega (arith, ap length items);
    }
