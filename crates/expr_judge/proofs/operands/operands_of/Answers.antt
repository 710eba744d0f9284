use Rattle.std.proofs.Common.{ap, ◌∙◌}
use Rattle.meaning_typing.specs.Facts.{fact_at}
use Rattle.meaning_typing.specs.Typing.{token_at}
use Rattle.decl_judge.specs.Units.{nodes_of}
use Rattle.node_facts.specs.Facts.{nodes_seen}
use Rattle.expr_judge.specs.Parts.{only_expression}
use Rattle.expr_judge.proofs.operands.operands_of.Goals as goal

pub returns-clause-operands : goal.returns-clause-operands
returns-clause-operands c =
    let nodes = nodes_of c.args.unit.now in
    let facts = nodes_seen c.args.types.now c.args.facts.now in
    let found = c.in_ok-left.ensures in
    record {
      token = c.token_at.ensures;
      first = c.token_at-2.ensures ∙ ap (token_at nodes) c.child_at-first.ensures;
      second = c.token_at-3.ensures ∙ ap (token_at nodes) c.child_at-second.ensures;
      left = found.first ∙ ap (λ handle. only_expression (fact_at facts handle)) c.child_at-first.ensures;
      right = found.second ∙ ap (λ handle. only_expression (fact_at facts handle)) c.child_at-second.ensures;
      left_valued = found.first_valued;
      right_valued = found.second_valued;
    }
