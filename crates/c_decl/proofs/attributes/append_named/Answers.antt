use Rattle.std.proofs.Common.{◌≡◌, drop, ap, ◌∙◌}
use Rattle.meaning_derivation.specs.Values.{sort_of, value_at}
use Rattle.meaning_derivation.specs.State.{State}
use Rattle.parse_state.specs.Seen.{state_of}
use Rattle.c_decl.proofs.Appending.{list_below}
use Rattle.c_decl.proofs.attributes.append_named.Goals as goal

pub append_made-requires-clause-list : goal.append_made-requires-clause-list
append_made-requires-clause-list c =
    ap (λ (s : State). sort_of (value_at (drop 2 s.values) 0)) c.in_ok-push_spelled.ensures.word ∙ list_below (state_of c.args.state.now).values c.requires.finds
