use Rattle.std.proofs.Common.{option_map, ap, ◌∙◌}
use Rattle.meaning_typing.specs.DeclarationRows.{is_static_said}
use Rattle.decl_judge.specs.Units.{nodes_of}
use Rattle.decl_judge.proofs.AskedLemmas.{specifiers_told}
use Rattle.node_facts.specs.Facts.{specified_seen}
use Rattle.declaration_rows.proofs.undeclared.is_static.Goals as goal

pub returns : goal.returns
returns c =
    let table = c.args._types.now in
    c.is_static_said.ensures table
    ∙ ap (λ said. is_static_said (option_map (specified_seen table) said)) c.specifiers_of.ensures
    ∙ ap is_static_said (specifiers_told table c.args.facts.now (nodes_of c.args.unit.now) c.args.declaration)
