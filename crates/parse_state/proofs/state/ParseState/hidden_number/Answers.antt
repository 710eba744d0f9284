-- What a name hides is found by its spelling as by its id.
use Rattle.std.proofs.Common.{◌≡◌, true, length, option_map, sym, ap, ◌∙◌}
use Rattle.std.specs.Str.{bytes_eq}
use Rattle.std.proofs.lemmas.Bool.{lt-ltb}
use Rattle.vocabulary.specs.declared.scope.NameSpace.TheVariants.{Ordinary}
use Rattle.meaning_scopes.specs.Scopes.{find, renamed}
use Rattle.meaning_derivation.specs.Scoping.{found_name, hidden_number}
use Rattle.c_tokens.specs.Seen.{text_of}
use Rattle.c_scope.specs.Seen.{same_name}
use Rattle.parse_state.specs.Declaring.{told_hidden}
use Rattle.parse_state.specs.Looking.{found_told}
use Rattle.parse_state.specs.Seen.{Read, state_of}
use Rattle.parse_state.specs.Soundness.{is_known}
use Rattle.parse_state.proofs.HiddenNames.{hidden_told}
use Rattle.parse_state.proofs.Naming.{find-spelled, found_told-renamed}
use Rattle.parse_state.proofs.state.ParseState.hidden_number.Goals as goal

pub returns : goal.returns
returns c =
    let names = c.self.inside.names.now in
    let known : is_known names c.args.name ≡ true =
    ap (λ (seen : Read). is_known seen.names c.args.name) c.self.view_is ∙ lt-ltb c.args.name.0 (length c.args.self.now.names) c.requires in
    let found : c.find.result ≡ option_map found_told (find bytes_eq (renamed (text_of names) c.self.inside.scopes) Ordinary (text_of names c.args.name)) =
    c.find.ensures
    ∙ sym (found_told-renamed names (find same_name c.self.inside.scopes Ordinary c.args.name))
    ∙ ap (option_map found_told) (sym (find-spelled names c.apart.ensures.apart c.self.inside.scopes Ordinary c.args.name c.self.invariant.bound_names known)) in
    c.hidden_of.ensures ∙ ap told_hidden found ∙ sym (hidden_told (find bytes_eq (renamed (text_of names) c.self.inside.scopes) Ordinary (text_of names c.args.name)))
    ∙ ap (λ (seen : Read). hidden_number (found_name (state_of seen) Ordinary (text_of seen.names c.args.name))) c.self.view_is
