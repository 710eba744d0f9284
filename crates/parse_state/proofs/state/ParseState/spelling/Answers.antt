-- The id of a word is known, and its spelling is that of the value.
use Rattle.std.proofs.Common.{◌≡◌, length, reverse, slice_get, sym, ap, ◌∙◌}
use Rattle.std.proofs.lemmas.Bool.{ltb-true}
use Rattle.meaning_derivation.specs.Values.{value_at}
use Rattle.meaning_derivation.specs.Values as values
use Rattle.c_tokens.specs.Seen.{text_of}
use Rattle.parse_state.specs.Asking.{name_in}
use Rattle.parse_state.specs.Seen.{Read, state_of, spelled_trees}
use Rattle.parse_state.specs.Soundness.{is_known}
use Rattle.parse_state.proofs.Seeing.{text_at}
use Rattle.parse_state.proofs.Sound.{known_at}
use Rattle.parse_state.proofs.state.ParseState.spelling.Goals as goal

pub spelling-requires : goal.spelling-requires
spelling-requires c =
    let here : c.name_at.result ≡ name_in (slice_get (reverse c.self.inside.values.items) c.args.depth) =
    c.name_at.ensures ∙ ap (λ stack. name_in (slice_get (reverse stack) c.args.depth)) c.deref.ensures.value in
    ltb-true c.name_at.result.0 (length c.self.inside.names.now)
    (ap (is_known c.self.inside.names.now) here
    ∙ known_at c.self.inside.names.now c.apart.ensures.empty c.self.inside.values.items c.args.depth c.self.invariant.words)

pub returns : goal.returns
returns c =
    let here : c.name_at.result ≡ name_in (slice_get (reverse c.self.inside.values.items) c.args.depth) =
    c.name_at.ensures ∙ ap (λ stack. name_in (slice_get (reverse stack) c.args.depth)) c.deref.ensures.value in
    c.spelling.ensures.seen
    ∙ ap (text_of c.self.inside.names.now) here
    ∙ sym (text_at c.self.inside.names.now (spelled_trees c.self.inside.names.now c.self.inside.unit) c.apart.ensures.empty (reverse c.self.inside.values.items) c.args.depth)
    ∙ ap (λ (seen : Read). values.text_of (value_at (state_of seen).values c.args.depth)) c.self.view_is
