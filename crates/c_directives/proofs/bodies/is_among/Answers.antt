use Rattle.std.proofs.Common.{◌∙◌}
use Rattle.c_directives.proofs.BodyLemmas.{number-known}
use Rattle.c_directives.proofs.bodies.is_among.Goals as goal

pub returns : goal.returns
returns c = c.contains.ensures ∙ number-known c.args.names.now c.apart.ensures.apart c.args.name c.args.params.now.keys c.requires.name c.requires.params
