-- By whether the object is an array of characters.
use Rattle.std.proofs.Common.{true, false, ap, sym, ◌∙◌}
use Rattle.meaning_initializers.specs.Reading.{elements_of, given_at}
use Rattle.decl_judge.specs.Units.{nodes_of}
use Rattle.init_judge.proofs.StringLemmas.{for_string}
use Rattle.init_judge.proofs.strings.elements_for.Goals as goal

pub returns-then-are_characters : goal.returns-then-are_characters
returns-then-are_characters c = λ facts type_ parts.
    let nodes = nodes_of c.args.unit.now in
    for_string type_ (given_at nodes facts c.args.initializer) c.elements_by-elements.result true
    (c.elements_by-elements.ensures ∙ ap (elements_of nodes c.args.initializer) c.kind_at.ensures)
    (sym c.if-are_characters.true ∙ c.are_characters.ensures type_ parts)

pub returns-else-are_characters : goal.returns-else-are_characters
returns-else-are_characters c = λ facts type_ parts.
    let nodes = nodes_of c.args.unit.now in
    for_string type_ (given_at nodes facts c.args.initializer) c.elements_by-elements.result false
    (c.elements_by-elements.ensures ∙ ap (elements_of nodes c.args.initializer) c.kind_at.ensures)
    (sym c.if-are_characters.false ∙ c.are_characters.ensures type_ parts)
