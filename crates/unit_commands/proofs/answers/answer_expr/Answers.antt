-- The answer of the row: what is known, or the least constraint that is broken.
use Rattle.std.proofs.Common.{sym, ap, subst, ◌∙◌}
use Rattle.meaning_typing.specs.Rows.{Row}
use Rattle.meaning_typing.specs.WholeTyping.{whole_row_at}
use Rattle.decl_judge.specs.Units.{nodes_of}
use Rattle.node_surroundings.specs.Seen.{surroundings_seen}
use Rattle.node_judge.specs.declared.fault.ExprFault.TheVariants as faults
use Rattle.node_judge.specs.Judging.{IsRefusedFor, KeepsKnown, StaysKnown}
use Rattle.node_judge.specs.Known.{facts_seen}
use Rattle.unit_commands.proofs.AnswerLemmas.{over_itself, row_over_itself, stays_first}
use Rattle.unit_commands.proofs.answers.answer_expr.Goals as goal

pub judge_expr-requires-clause-known : goal.judge_expr-requires-clause-known
judge_expr-requires-clause-known c =
    over_itself (nodes_of c.args.unit.now) (surroundings_seen c.args.surroundings.now) c.args.handle c.args.known.now c.requires.known

pub returns-in-Ok-clause-answer : goal.returns-in-Ok-clause-answer
returns-in-Ok-clause-answer c =
    let same = row_over_itself (nodes_of c.args.unit.now) (surroundings_seen c.args.surroundings.now) c.args.handle c.args.known.now c.requires.known in
    record {
      unbroken = ap (λ (row : Row). row.broken) (sym same) ∙ c.in-Ok.ensures.unbroken;
      fact = c.in-Ok.ensures.fact ∙ ap (λ (row : Row). row.fact) same;
      ids = c.in-Ok.ensures.ids;
    }

pub returns-in-Ok-clause-keeps : goal.returns-in-Ok-clause-keeps
returns-in-Ok-clause-keeps c =
    let stays = c.in-Ok.ensures.keeps in
    record {
      known =
          stays_first (nodes_of c.args.unit.now) (surroundings_seen c.args.surroundings.now) c.args.handle c.args.known.now c.requires.known
          c.judge_expr.new.known stays.known;
      types = stays.types;
    }

pub returns-in-Err-Constraint-clause-answer : goal.returns-in-Err-Constraint-clause-answer
returns-in-Err-Constraint-clause-answer c =
    let nodes = nodes_of c.args.unit.now in
    let surroundings = surroundings_seen c.args.surroundings.now in
    subst (λ (row : Row). IsRefusedFor row (faults.Constraint c.in-Err-Constraint.broken))
    (row_over_itself nodes surroundings c.args.handle c.args.known.now c.requires.known)
    (subst (IsRefusedFor (whole_row_at nodes surroundings (facts_seen c.args.known.now) c.args.handle)) c.in-Err-Constraint.field-0-is
    c.in-Err-Constraint.ensures.refused)

pub returns-in-Err-Constraint-clause-keeps : goal.returns-in-Err-Constraint-clause-keeps
returns-in-Err-Constraint-clause-keeps c =
    let nodes = nodes_of c.args.unit.now in
    let surroundings = surroundings_seen c.args.surroundings.now in
    let stays : StaysKnown nodes surroundings c.args.handle c.args.known.now c.judge_expr.new.known =
    subst (KeepsKnown nodes surroundings c.args.handle c.args.known.now c.judge_expr.new.known) c.in-Err-Constraint.field-0-is
    c.in-Err-Constraint.ensures.kept in
    record {
      known = stays_first nodes surroundings c.args.handle c.args.known.now c.requires.known c.judge_expr.new.known stays.known;
      types = stays.types;
    }
