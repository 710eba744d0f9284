-- A scalar, then a string, then a value.
use Rattle.std.proofs.Common.{◌≡◌, All, true, false, refl, sym, ap, subst, ◌∙◌}
use Rattle.meaning_initializers.specs.Parts.{is_string_for, is_value_of}
use Rattle.meaning_initializers.specs.Reading.{given_at}
use Rattle.node_facts.specs.Facts.{IsKnownNodeFact, node_seen, nodes_seen}
use Rattle.decl_judge.specs.Units.{nodes_of}
use Rattle.decl_judge.proofs.AskedLemmas.{known_at, seen_at}
use Rattle.initializer_levels.proofs.ReadingLemmas.{scalars_are, takes_if}
use Rattle.initializer_levels.proofs.reading.takes_expression.Goals as goal

pub returns-then-are_itself : goal.returns-then-are_itself
returns-then-are_itself c = λ type_ is.
    let given = given_at (nodes_of c.args.unit.now) (nodes_seen c.args.types.now c.args.facts.now) c.args.initializer in
    takes_if type_ given true (is_string_for type_ given) (is_value_of type_ given.fact)
    (sym c.if-are_itself.true ∙ (c.are_itself.ensures ∙ scalars_are c.args.types.now c.args.parts type_ is)) refl refl

pub returns-then-is_string_for : goal.returns-then-is_string_for
returns-then-is_string_for c = λ type_ is.
    let facts = nodes_seen c.args.types.now c.args.facts.now in
    let given = given_at (nodes_of c.args.unit.now) facts c.args.initializer in
    takes_if type_ given false true (is_value_of type_ given.fact)
    (sym c.if-are_itself.false ∙ (c.are_itself.ensures ∙ scalars_are c.args.types.now c.args.parts type_ is))
    (sym c.if-is_string_for.true ∙ c.is_string_for.ensures facts type_ is) refl

pub is_value-requires : goal.is_value-requires
is_value-requires c =
    subst (IsKnownNodeFact c.args.types.now) (sym c.at.ensures) (known_at c.args.types.now c.args.facts.now c.args.initializer c.requires.facts)

pub returns : goal.returns
returns c = λ type_ is.
    let table = c.args.types.now in
    let kept = c.args.facts.now in
    let facts = nodes_seen table kept in
    let given = given_at (nodes_of c.args.unit.now) facts c.args.initializer in
    takes_if type_ given false false c.is_value.result
    (sym c.if-are_itself.false ∙ (c.are_itself.ensures ∙ scalars_are table c.args.parts type_ is))
    (sym c.if-is_string_for.false ∙ c.is_string_for.ensures facts type_ is)
    (c.is_value.ensures type_ is ∙ ap (is_value_of type_) (ap (node_seen table) c.at.ensures ∙ seen_at table kept c.args.initializer))
