-- A name is found by its spelling as by its id.
use Rattle.std.proofs.Common.{◌≡◌, true, length, sym, ap, ◌∙◌}
use Rattle.std.specs.Str.{bytes_eq}
use Rattle.std.proofs.lemmas.Bool.{lt-ltb}
use Rattle.meaning_scopes.specs.Classes.{class_of_name}
use Rattle.c_tokens.specs.Seen.{text_of}
use Rattle.parse_state.specs.Seen.{Read, state_of}
use Rattle.parse_state.specs.Soundness.{is_known}
use Rattle.parse_state.proofs.Naming.{class-spelled}
use Rattle.parse_state.proofs.state.ParseState.class.Goals as goal

pub returns : goal.returns
returns c =
    let known : is_known c.self.inside.names.now c.args.name ≡ true =
    ap (λ (seen : Read). is_known seen.names c.args.name) c.self.view_is ∙ lt-ltb c.args.name.0 (length c.args.self.now.names) c.requires in
    c.class.ensures
    ∙ sym (class-spelled c.self.inside.names.now c.apart.ensures.apart c.self.inside.scopes c.args.name c.self.invariant.bound_names known)
    ∙ ap (λ (seen : Read). class_of_name bytes_eq (state_of seen).scopes (text_of seen.names c.args.name)) c.self.view_is
