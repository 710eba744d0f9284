-- Braces, or an expression.
use Rattle.std.proofs.Common.{sym, ◌∙◌, ap, ◌||◌, Bool}
use Rattle.meaning_initializers.specs.Reading.{initializer_at}
use Rattle.meaning_typing.specs.Facts.{Fact}
use Rattle.node_facts.specs.Facts.{nodes_seen}
use Rattle.decl_judge.specs.Units.{nodes_of}
use Rattle.initializer_levels.proofs.ReadingLemmas.{taken_whole}
use Rattle.initializer_levels.proofs.reading.takes_whole.Goals as goal

pub returns-then-is_braced : goal.returns-then-is_braced
returns-then-is_braced c = λ type_ is.
    c.if-is_braced.true
    ∙ (sym (ap (λ (b : Bool). b || c.takes_expression-takes.result) c.if-is_braced.true)
    ∙ taken_whole (nodes_of c.args.unit.now) (nodes_seen c.args.types.now c.args.facts.now) c.requires.order type_ c.args.initializer _ _ c.is_braced-is_braced.ensures
    (c.takes_expression-takes.ensures type_ is))

pub returns-else-is_braced : goal.returns-else-is_braced
returns-else-is_braced c = λ type_ is.
    sym (ap (λ (b : Bool). b || c.takes_expression-takes.result) c.if-is_braced.false)
    ∙ taken_whole (nodes_of c.args.unit.now) (nodes_seen c.args.types.now c.args.facts.now) c.requires.order type_ c.args.initializer _ _ c.is_braced-is_braced.ensures
    (c.takes_expression-takes.ensures type_ is)
