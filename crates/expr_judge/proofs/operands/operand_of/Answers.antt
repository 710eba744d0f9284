use Rattle.std.proofs.Common.{ap, ◌∙◌}
use Rattle.meaning_typing.specs.Facts.{fact_at}
use Rattle.meaning_typing.specs.Typing.{token_at}
use Rattle.decl_judge.specs.Units.{nodes_of}
use Rattle.node_facts.specs.Facts.{nodes_seen}
use Rattle.expr_judge.specs.Parts.{only_expression}
use Rattle.expr_judge.proofs.operands.operand_of.Goals as goal

pub returns-clause-operand : goal.returns-clause-operand
returns-clause-operand c =
    let facts = nodes_seen c.args.types.now c.args.facts.now in
    record {
      token = c.token_at.ensures;
      standing = c.token_at-2.ensures ∙ ap (token_at (nodes_of c.args.unit.now)) c.child_at-child.ensures;
      seen = c.in_ok-operand.ensures.seen ∙ ap (λ handle. only_expression (fact_at facts handle)) c.child_at-child.ensures;
      valued = c.in_ok-operand.ensures.valued;
    }
