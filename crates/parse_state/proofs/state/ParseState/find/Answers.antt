-- A name is found by its spelling as by its id.
use Rattle.std.proofs.Common.{◌≡◌, true, option_map, reverse, slice_get, sym, ap, ◌∙◌}
use Rattle.std.specs.Str.{bytes_eq}
use Rattle.meaning_scopes.specs.Scopes.{find, renamed}
use Rattle.meaning_derivation.specs.Values.{value_at}
use Rattle.meaning_derivation.specs.Values as values
use Rattle.meaning_derivation.specs.Scoping.{found_name}
use Rattle.sparse_model.specs.declared.ids.NameId.{NameId}
use Rattle.c_tokens.specs.Seen.{text_of}
use Rattle.c_scope.specs.Seen.{same_name, told_of}
use Rattle.parse_state.specs.Asking.{name_in}
use Rattle.parse_state.specs.Looking.{found_told}
use Rattle.parse_state.specs.Seen.{Read, state_of, spelled_trees}
use Rattle.parse_state.specs.Soundness.{is_known}
use Rattle.parse_state.proofs.Naming.{find-spelled, found_told-renamed}
use Rattle.parse_state.proofs.Seeing.{text_at}
use Rattle.parse_state.proofs.Sound.{known_at}
use Rattle.parse_state.proofs.state.ParseState.find.Goals as goal

pub returns : goal.returns
returns c =
    let name : NameId = name_in (slice_get (reverse c.self.inside.values.items) c.args.depth) in
    let here : c.name_at.result ≡ name = c.name_at.ensures ∙ ap (λ stack. name_in (slice_get (reverse stack) c.args.depth)) c.deref.ensures.value in
    let known : is_known c.self.inside.names.now name ≡ true =
    known_at c.self.inside.names.now c.apart.ensures.empty c.self.inside.values.items c.args.depth c.self.invariant.words in
    c.find.ensures
    ∙ ap (λ (id : NameId). option_map told_of (find same_name c.self.inside.scopes c.args.space id)) here
    ∙ sym (found_told-renamed c.self.inside.names.now (find same_name c.self.inside.scopes c.args.space name))
    ∙ ap (option_map found_told) (sym (find-spelled c.self.inside.names.now c.apart.ensures.apart c.self.inside.scopes c.args.space name c.self.invariant.bound_names known))
    ∙ ap (λ text. option_map found_told (find bytes_eq (renamed (text_of c.self.inside.names.now) c.self.inside.scopes) c.args.space text))
    (sym (text_at c.self.inside.names.now (spelled_trees c.self.inside.names.now c.self.inside.unit) c.apart.ensures.empty (reverse c.self.inside.values.items) c.args.depth))
    ∙ ap (λ (seen : Read). option_map found_told (found_name (state_of seen) c.args.space (values.text_of (value_at (state_of seen).values c.args.depth)))) c.self.view_is
