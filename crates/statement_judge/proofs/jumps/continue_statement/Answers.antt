use Rattle.std.proofs.Common.{◌≡◌, ap, ◌∙◌}
use Rattle.meaning_statements.specs.Jumps.{loop_continued}
use Rattle.meaning_statements.specs.Statements.{jump_row}
use Rattle.meaning_typing.specs.Typing.{token_at}
use Rattle.decl_judge.specs.Units.{nodes_of}
use Rattle.expression_rows.specs.Rows.{told}
use Rattle.node_facts.proofs.GrowthLemmas.{joins_none}
use Rattle.statement_judge.specs.declared.enclosing.Enclosing.{Enclosing}
use Rattle.statement_judge.proofs.jumps.continue_statement.Goals as goal

pub returns : goal.returns
returns c = λ table surroundings is.
    let nodes = nodes_of c.args.unit.now in
    let target : c.above.result.continued ≡ loop_continued nodes surroundings c.args.handle =
    ap (λ (above : Enclosing). above.continued) (c.above.ensures nodes surroundings is) in
    record {
      row = c.judge_jump.ensures.row table ∙ (λ i. told (jump_row (c.token_at.ensures i) (target i)));
      known = c.judge_jump.ensures.known table;
      keeps = joins_none table;
    }
