-- A limit that was passed before goes first.
use Rattle.std.proofs.Common.{sym, ap₂, ◌∙◌}
use Rattle.meaning_derivation.specs.State.{Fails, IsError}
use Rattle.meaning_derivation.specs.Taking.{fault_before}
use Rattle.parse_state.specs.Seen.{state_of}
use Rattle.c_parse.proofs.refusing.refusal.Goals as goal

pub returns-in-Some : goal.returns-in-Some
returns-in-Some c =
    c.in-Some.ensures.passed
    (Fails (IsError (fault_before c.args.item (state_of c.args.state.now) c.args.terminals.now.terminals)) (state_of c.args.state.now).taken (state_of c.args.state.now).next_token)

pub returns-in-None : goal.returns-in-None
returns-in-None c = (
  (state_of c.args.state.now).taken,
  c.in-None.ensures.none
      (Fails (IsError (fault_before c.args.item (state_of c.args.state.now) c.args.terminals.now.terminals)) (state_of c.args.state.now).taken (state_of c.args.state.now).next_token)
      ∙ ap₂ (λ kind token. Fails (IsError kind) (state_of c.args.state.now).taken token) (sym c.fault_before.ensures) (sym c.next_token.ensures),
)
