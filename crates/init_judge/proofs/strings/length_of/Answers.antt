-- By whether it is a string, and longer.
use Rattle.std.proofs.Common.{true, false, sym, ◌∙◌}
use Rattle.meaning_initializers.specs.Reading.{given_at}
use Rattle.decl_judge.specs.Units.{nodes_of}
use Rattle.init_judge.proofs.StringLemmas.{length_none, length_some}
use Rattle.init_judge.proofs.strings.length_of.Goals as goal

pub returns-in-None : goal.returns-in-None
returns-in-None c = λ facts is_static type_ path is_moved parts.
    length_none is_static type_ path is_moved (given_at (nodes_of c.args.unit.now) facts c.args.initializer) (sym (c.elements_for.ensures facts type_ parts) ∙ c.in-None.is)

pub returns-then-is_longer : goal.returns-then-is_longer
returns-then-is_longer c = λ facts is_static type_ path is_moved parts.
    length_some is_static type_ path is_moved (given_at (nodes_of c.args.unit.now) facts c.args.initializer) c.in-Some.elements true
    (sym (c.elements_for.ensures facts type_ parts) ∙ c.in-Some.is) (sym c.if-is_longer.true ∙ c.is_longer.ensures c.args.types.now type_ parts)

pub returns-else-is_longer : goal.returns-else-is_longer
returns-else-is_longer c = λ facts is_static type_ path is_moved parts.
    length_some is_static type_ path is_moved (given_at (nodes_of c.args.unit.now) facts c.args.initializer) c.in-Some.elements false
    (sym (c.elements_for.ensures facts type_ parts) ∙ c.in-Some.is) (sym c.if-is_longer.false ∙ c.is_longer.ensures c.args.types.now type_ parts)
