use Rattle.std.proofs.Common.{reverse, slice_get, sym, ap, ◌∙◌}
use Rattle.meaning_derivation.specs.Values.{token_of, value_at}
use Rattle.parse_state.specs.Asking.{token_in}
use Rattle.parse_state.specs.Seen.{Read, state_of, spelled_trees}
use Rattle.parse_state.proofs.Seeing.{token_at}
use Rattle.parse_state.proofs.state.ParseState.token.Goals as goal

pub returns : goal.returns
returns c =
    c.token_at.ensures
    ∙ ap (λ stack. token_in (slice_get (reverse stack) c.args.depth)) c.deref.ensures.value
    ∙ sym (token_at c.self.inside.names.now (spelled_trees c.self.inside.names.now c.self.inside.unit) (reverse c.self.inside.values.items) c.args.depth)
    ∙ ap (λ (seen : Read). token_of (value_at (state_of seen).values c.args.depth)) c.self.view_is
