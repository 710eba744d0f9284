use Rattle.std.proofs.Common.{sym, ap, ◌∙◌}
use Rattle.meaning_scopes.specs.Scopes.{is_open}
use Rattle.parse_state.specs.Seen.{Read, state_of}
use Rattle.parse_state.proofs.Naming.{is_open-renamed}
use Rattle.parse_state.proofs.state.ParseState.is_open.Goals as goal

pub returns : goal.returns
returns c =
    c.is_open.ensures
    ∙ sym (is_open-renamed c.self.inside.names.now c.self.inside.scopes)
    ∙ ap (λ (seen : Read). is_open (state_of seen).scopes) c.self.view_is
