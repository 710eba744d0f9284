-- What stands next decides.
use Rattle.std.proofs.Common.{Some, drop, sym, ap, ◌∙◌}
use Rattle.meaning_derivation.specs.Taking.{fault_before}
use Rattle.parse_state.specs.Seen.{state_of}
use Rattle.c_terminals.specs.Seen.{terminal_of}
use Rattle.c_parse.proofs.Noted.{next_of_left}
use Rattle.c_parse.proofs.refusing.fault_before.Goals as goal

pub returns-in-Some : goal.returns-in-Some
returns-in-Some c =
    c.fault_at.ensures (drop 1 c.args.terminals.now.terminals)
    ∙ ap (fault_before c.args.item (state_of c.args.state.now))
    (sym (next_of_left c.args.terminals.now.terminals (terminal_of c.args.state.now.names c.in-Some.terminal)
    (ap (λ names. Some (terminal_of names c.in-Some.terminal)) (sym c.requires) ∙ c.in-Some.ensures.terminal)))
