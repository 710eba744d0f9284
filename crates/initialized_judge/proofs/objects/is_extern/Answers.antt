use Rattle.std.proofs.Common.{option_map, ap, ◌∙◌}
use Rattle.meaning_typing.specs.DeclarationRows.{is_extern_said}
use Rattle.decl_judge.specs.Units.{nodes_of}
use Rattle.decl_judge.proofs.AskedLemmas.{specifiers_told}
use Rattle.node_facts.specs.Facts.{specified_seen}
use Rattle.initialized_judge.proofs.objects.is_extern.Goals as goal

pub returns : goal.returns
returns c =
    let table = c.args._types.now in
    c.is_extern_said.ensures table
    ∙ ap (λ said. is_extern_said (option_map (specified_seen table) said)) c.specifiers_of.ensures
    ∙ ap is_extern_said (specifiers_told table c.args.facts.now (nodes_of c.args.unit.now) c.args.declaration)
