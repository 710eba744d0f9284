use Rattle.std.proofs.Common.{reverse, slice_get, sym, ap, ◌∙◌}
use Rattle.meaning_derivation.specs.Values.{parts_of, value_at}
use Rattle.meaning_derivation.specs.Lists.{part_count}
use Rattle.parse_state.specs.Asking.{count_in}
use Rattle.parse_state.specs.Seen.{Read, state_of, spelled_trees}
use Rattle.parse_state.proofs.Parts.{part_count-at}
use Rattle.parse_state.proofs.state.ParseState.part_count.Goals as goal

pub returns : goal.returns
returns c =
    c.count_at.ensures
    ∙ ap (λ stack. count_in (slice_get (reverse stack) c.args.depth)) c.deref.ensures.value
    ∙ sym (part_count-at c.self.inside.names.now (spelled_trees c.self.inside.names.now c.self.inside.unit) (reverse c.self.inside.values.items) c.args.depth)
    ∙ ap (λ (seen : Read). part_count (parts_of (value_at (state_of seen).values c.args.depth))) c.self.view_is
