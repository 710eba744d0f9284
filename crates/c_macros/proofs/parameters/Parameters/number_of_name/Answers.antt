use Rattle.std.proofs.Common.{map, ap, ◌∙◌}
use Rattle.meaning_macros.specs.Bodies.{number_of_name}
use Rattle.c_macros.proofs.ParameterLemmas.{number_of_name-position}
use Rattle.c_macros.proofs.parameters.Parameters.number_of_name.Goals as goal

pub returns-in-Some : goal.returns-in-Some
returns-in-Some c = λ s apart.
    c.in-Some.ensures.index ∙ number_of_name-position s apart c.self.inside.names.keys c.args.name
    ∙ ap (λ names. number_of_name (s c.args.name) (map s names)) c.self.view_is

pub returns-in-None : goal.returns-in-None
returns-in-None c = λ s apart.
    c.in-None.ensures.index ∙ number_of_name-position s apart c.self.inside.names.keys c.args.name
    ∙ ap (λ names. number_of_name (s c.args.name) (map s names)) c.self.view_is
