use Rattle.std.proofs.Common.{◌≡◌, length, sym, ap, ◌∙◌}
use Rattle.std.proofs.lemmas.List.{length-map}
use Rattle.meaning_rules.specs.Rules.{least_broken}
use Rattle.meaning_typing.specs.DeclarationRows as meaning
use Rattle.decl_judge.specs.Units.{nodes_of}
use Rattle.node_facts.specs.Facts.{node_seen}
use Rattle.node_surroundings.specs.Seen.{surroundings_seen}
use Rattle.declaration_judge.specs.Kept.{facts_seen}
use Rattle.declaration_judge.proofs.declared.defined_name_broken.Goals as goal

pub returns-in-Declared : goal.returns-in-Declared
returns-in-Declared c =
    let nodes = nodes_of c.args.unit.now in
    let surroundings = surroundings_seen c.args._surroundings.now in
    let kept = c.args.kept.now in
    let facts = facts_seen kept in
    let count : length facts ≡ c.args.handle = length-map kept.facts (node_seen kept.types) ∙ c.requires.next in
    c.definition_broken.ensures kept.types surroundings facts count (sym c.requires.stands) c.requires.kept.defined
    ∙ ap (λ fact. least_broken (meaning.defined_name_broken nodes surroundings facts c.args.handle (node_seen kept.types fact))) (sym c.in-Declared.is)
