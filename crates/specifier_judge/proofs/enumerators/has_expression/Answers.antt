use Rattle.std.proofs.Common.{is_some, ap, ◌∙◌}
use Rattle.decl_judge.specs.Units.{nodes_of}
use Rattle.specifier_judge.proofs.PartLemmas.{has_expression}
use Rattle.specifier_judge.proofs.enumerators.has_expression.Goals as goal

pub returns : goal.returns
returns c = λ facts.
    c.is_some.ensures ∙ ap is_some c.expression_of.ensures ∙ has_expression (nodes_of c.args.unit.now) facts c.args.enumerator
