-- What is known of the first stays where the type of the value of the second joins.
use Rattle.std.proofs.Common.{ap, ◌∙◌}
use Rattle.meaning_typing.specs.Facts.{fact_at}
use Rattle.expr_judge.specs.Parts.{only_expression}
use Rattle.node_facts.proofs.GrowthLemmas.{joins_on, nodes_known, nodes_later}
use Rattle.expr_judge.proofs.PartLemmas.{value_known, value_later}
use Rattle.expr_judge.proofs.parts.operands_at.Goals as goal

pub operand_at-requires-2 : goal.operand_at-requires-2
operand_at-requires-2 c = nodes_known c.args.types.now c.operand_at.new.types c.in_ok-left.ensures.keeps c.args.facts.now c.requires

pub returns : goal.returns
returns c =
    let old = c.args.types.now in
    let middle = c.operand_at.new.types in
    let new = c.operand_at-2.new.types in
    let joins = c.in_ok-right.ensures.keeps in
    record {
      first = value_later middle new joins c.in_ok-left.left c.in_ok-left.ensures.valued ∙ c.in_ok-left.ensures.seen;
      second =
          c.in_ok-right.ensures.seen
          ∙ ap (λ facts. only_expression (fact_at facts c.args.second)) (nodes_later old middle c.in_ok-left.ensures.keeps c.args.facts.now c.requires);
      first_valued = value_known middle new joins c.in_ok-left.left c.in_ok-left.ensures.valued;
      second_valued = c.in_ok-right.ensures.valued;
      keeps = joins_on old middle new c.in_ok-left.ensures.keeps c.in_ok-right.ensures.keeps;
    }
