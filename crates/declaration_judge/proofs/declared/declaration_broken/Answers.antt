use Rattle.std.proofs.Common.{◌≡◌, length, refl, sym, ap, ◌∙◌}
use Rattle.std.proofs.lemmas.List.{length-map}
use Rattle.meaning_rules.specs.Rules.{least_broken, lesser}
use Rattle.meaning_typing.specs.DeclarationRows.{declared_object_broken, definition_broken}
use Rattle.meaning_typing.specs.Names.{typedefs_again}
use Rattle.meaning_typing.specs.Typing.{token_at}
use Rattle.meaning_typing.specs.Units.{kind_at}
use Rattle.c_types.specs.Layouts.{told_in}
use Rattle.decl_judge.specs.Units.{nodes_of}
use Rattle.node_facts.specs.Facts.{declared_seen, node_seen}
use Rattle.node_surroundings.specs.Seen.{surrounding_seen, surroundings_seen}
use Rattle.declaration_judge.specs.Kept.{facts_seen}
use Rattle.declaration_judge.proofs.DeclarationLemmas.{least_three}
use Rattle.declaration_judge.proofs.LinkedLemmas.{typedefs_kept}
use Rattle.declaration_judge.proofs.declared.declaration_broken.Goals as goal

pub typedef_again-again-requires-clause-typedefs : goal.typedef_again-again-requires-clause-typedefs
typedef_again-again-requires-clause-typedefs c =
    typedefs_kept (nodes_of c.args.unit.now) (surroundings_seen c.args._surroundings.now) c.args.kept.now c.requires.kept

pub returns : goal.returns
returns c =
    let nodes = nodes_of c.args.unit.now in
    let surroundings = surroundings_seen c.args._surroundings.now in
    let handle = c.args.handle in
    let kept = c.args.kept.now in
    let facts = facts_seen kept in
    let told = told_in kept.types in
    let stands = surrounding_seen c.args.surrounding in
    let meant = declared_seen kept.types c.args.declaration in
    let count : length facts ≡ handle = length-map kept.facts (node_seen kept.types) ∙ c.requires.next in
    let again =
    c.typedef_again-again.ensures surroundings stands c.requires.kept.typedefs refl
    ∙ ap (λ token. least_broken (typedefs_again surroundings facts token stands meant)) c.token_at-token.ensures in
    let object =
    c.declared_object_broken-object.ensures
    ∙ ap (λ token. least_broken (declared_object_broken told nodes token stands (kind_at nodes stands.parent) meant)) c.token_at-token.ensures in
    let twice = c.definition_broken-twice.ensures kept.types surroundings facts count (sym c.requires.stands) c.requires.kept.defined in
    c.lesser.ensures
    ∙ (λ i. lesser ((c.lesser-own.ensures ∙ (λ j. lesser (again j) (object j))) i) (twice i))
    ∙ least_three (typedefs_again surroundings facts (token_at nodes handle) stands meant)
    (declared_object_broken told nodes (token_at nodes handle) stands (kind_at nodes stands.parent) meant)
    (definition_broken nodes surroundings facts handle meant)
