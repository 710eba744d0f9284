use Rattle.std.proofs.Common.{length, ap, ◌∙◌}
use Rattle.std.specs.List.{flat_map}
use Rattle.std.proofs.lemmas.List.{length-map}
use Rattle.meaning_rules.specs.Rules.{least_broken}
use Rattle.meaning_typing.specs.DeclarationRows as meaning
use Rattle.c_types.specs.Layouts.{told_in}
use Rattle.decl_judge.specs.Units.{nodes_of}
use Rattle.node_facts.specs.Facts.{node_seen, nodes_seen}
use Rattle.node_surroundings.specs.Seen.{surroundings_seen}
use Rattle.declaration_rows.specs.Kept.{at_end}
use Rattle.declaration_rows.proofs.TentativeLemmas.{end_told}
use Rattle.declaration_rows.proofs.tentative.unit_end_broken.Goals as goal

pub returns : goal.returns
returns c =
    let table = c.args.types.now in
    let nodes = nodes_of c.args.unit.now in
    let surroundings = surroundings_seen c.args.surroundings.now in
    let facts = nodes_seen table c.args.facts.now in
    let told = told_in table in
    c.all_at_end.ensures
    ∙ ap (λ handles. least_broken (flat_map (at_end told nodes surroundings facts) handles)) (c.deref.ensures.value ∙ c.objects.view_is ∙ c.requires.objects)
    ∙ ap least_broken (end_told told nodes surroundings facts (length facts))
    ∙ ap (λ count. least_broken (meaning.unit_end_broken told nodes surroundings facts count)) (length-map c.args.facts.now (node_seen table))
