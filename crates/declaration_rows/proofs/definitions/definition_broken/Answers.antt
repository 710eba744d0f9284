use Rattle.std.proofs.Common.{[], if◌then◌else◌, sym, ap, ◌∙◌}
use Rattle.vocabulary.specs.declared.error_kind.ErrorKind.TheVariants.{DefinedTwice}
use Rattle.meaning_rules.specs.Rules.{least_broken}
use Rattle.meaning_typing.specs.Rows.{breaks_named}
use Rattle.meaning_typing.specs.Units.{node_at}
use Rattle.decl_judge.specs.Units.{nodes_of}
use Rattle.node_facts.specs.Facts.{name_seen}
use Rattle.node_surroundings.specs.Seen.{surrounding_seen}
use Rattle.declaration_rows.proofs.DefinedLemmas.{again_told}
use Rattle.declaration_rows.proofs.definitions.definition_broken.Goals as goal

pub returns-then-not-is_defined_again : goal.returns-then-not-is_defined_again
returns-then-not-is_defined_again c =
    λ table surroundings known here stands are.
    let nodes = nodes_of c.args.unit.now in
    let declaration = c.args.declaration in
    ap (λ test. least_broken (if test then breaks_named DefinedTwice (node_at nodes c.args.handle).token (name_seen declaration.name) else []))
    (sym c.if-not-is_defined_again.true
    ∙ c.is_defined_again.ensures
    ∙ again_told nodes surroundings known c.args.defined.now c.args.handle (surrounding_seen c.args.surrounding) declaration here stands are)

pub returns : goal.returns
returns c =
    λ table surroundings known here stands are.
    let nodes = nodes_of c.args.unit.now in
    let declaration = c.args.declaration in
    ap (λ token. least_broken (breaks_named DefinedTwice token (name_seen declaration.name))) c.token_at.ensures
    ∙ ap (λ test. least_broken (if test then breaks_named DefinedTwice (node_at nodes c.args.handle).token (name_seen declaration.name) else []))
    (sym c.if-not-is_defined_again.false
    ∙ c.is_defined_again.ensures
    ∙ again_told nodes surroundings known c.args.defined.now c.args.handle (surrounding_seen c.args.surrounding) declaration here stands are)
