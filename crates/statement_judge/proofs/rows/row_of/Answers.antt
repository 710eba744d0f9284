-- Each kind has the row of its kind.
use Rattle.std.proofs.Common.{◌≡◌, ℕ, ◌<◌, ◌≤◌, Option, sym, ap, subst, ◌∙◌, arith}
use Rattle.std.proofs.lemmas.List.{length-map}
use Rattle.vocabulary.specs.declared.node_kind.NodeKind.{NodeKind}
use Rattle.meaning_statements.specs.StatementRows.{expression_row, statement_row_of}
use Rattle.meaning_statements.specs.Statements.{whole_return_row}
use Rattle.meaning_typing.specs.Statements.{result_around}
use Rattle.meaning_typing.specs.Surroundings.{Surrounding}
use Rattle.meaning_typing.specs.Typing.{first_fact, part_token, token_at}
use Rattle.meaning_typing.specs.Units.{children_at}
use Rattle.decl_judge.specs.Units.{named_node, nodes_of}
use Rattle.node_facts.specs.Facts.{node_seen, nodes_seen}
use Rattle.node_surroundings.specs.Seen.{surroundings_seen}
use Rattle.statement_judge.specs.Rows.{Says}
use Rattle.statement_judge.proofs.KindLemmas.{nothing_said}
use Rattle.statement_judge.proofs.RowLemmas.{says_nothing, says_same}
use Rattle.statement_judge.proofs.StatementLemmas.{come_now}
use Rattle.statement_judge.proofs.rows.row_of.Goals as goal

pub case_label-requires-clause-nesting : goal.case_label-requires-clause-nesting
case_label-requires-clause-nesting c = c.requires.kept.nesting

pub case_label-requires-clause-labels : goal.case_label-requires-clause-labels
case_label-requires-clause-labels c =
    let nodes = nodes_of c.args.unit.now in
    let facts = nodes_seen c.args.types.now c.args.facts.now in
    c.requires.kept.switches facts
    (come_now nodes facts
    (omega (arith, c.requires.next, c.requires.node, c.requires.whole, length-map c.args.facts.now (node_seen c.args.types.now), length-map c.args.unit.now.nodes named_node)))

pub default_label-requires-clause-nesting : goal.default_label-requires-clause-nesting
default_label-requires-clause-nesting c = c.requires.kept.nesting

pub row_of_owner-requires-clause-kept : goal.row_of_owner-requires-clause-kept
row_of_owner-requires-clause-kept c = (nodes_seen c.args.types.now c.args.facts.now, c.requires.kept)

pub row_of_owner-requires-in-StatementExpression-clause-kept : goal.row_of_owner-requires-in-StatementExpression-clause-kept
row_of_owner-requires-in-StatementExpression-clause-kept c = (nodes_seen c.args.types.now c.args.facts.now, c.requires.kept)

pub returns-in-IfStatement : goal.returns-in-IfStatement
returns-in-IfStatement c =
    let nodes = nodes_of c.args.unit.now in
    let surroundings = surroundings_seen c.args.surroundings.now in
    let types = c.args.types.now in
    let facts = nodes_seen types c.args.facts.now in
    let handle = c.args.handle in
    says_same types c.condition.new.types c.condition.result _ _ (ap (statement_row_of nodes surroundings facts handle) (sym c.in-IfStatement.is)) c.condition.ensures

pub returns-in-SwitchStatement : goal.returns-in-SwitchStatement
returns-in-SwitchStatement c =
    let nodes = nodes_of c.args.unit.now in
    let surroundings = surroundings_seen c.args.surroundings.now in
    let types = c.args.types.now in
    let facts = nodes_seen types c.args.facts.now in
    let handle = c.args.handle in
    says_same types c.switch_statement.new.types c.switch_statement.result _ _ (ap (statement_row_of nodes surroundings facts handle) (sym c.in-SwitchStatement.is)) c.switch_statement.ensures

pub returns-in-WhileStatement : goal.returns-in-WhileStatement
returns-in-WhileStatement c =
    let nodes = nodes_of c.args.unit.now in
    let surroundings = surroundings_seen c.args.surroundings.now in
    let types = c.args.types.now in
    let facts = nodes_seen types c.args.facts.now in
    let handle = c.args.handle in
    says_same types c.condition-in-WhileStatement.new.types c.condition-in-WhileStatement.result _ _ (ap (statement_row_of nodes surroundings facts handle) (sym c.in-WhileStatement.is)) c.condition-in-WhileStatement.ensures

pub returns-in-DoStatement : goal.returns-in-DoStatement
returns-in-DoStatement c =
    let nodes = nodes_of c.args.unit.now in
    let surroundings = surroundings_seen c.args.surroundings.now in
    let types = c.args.types.now in
    let facts = nodes_seen types c.args.facts.now in
    let handle = c.args.handle in
    says_same types c.do_statement.new.types c.do_statement.result _ _ (ap (statement_row_of nodes surroundings facts handle) (sym c.in-DoStatement.is)) c.do_statement.ensures

pub returns-in-ForStatement : goal.returns-in-ForStatement
returns-in-ForStatement c =
    let nodes = nodes_of c.args.unit.now in
    let surroundings = surroundings_seen c.args.surroundings.now in
    let types = c.args.types.now in
    let facts = nodes_seen types c.args.facts.now in
    let handle = c.args.handle in
    says_same types c.condition-in-ForStatement.new.types c.condition-in-ForStatement.result _ _ (ap (statement_row_of nodes surroundings facts handle) (sym c.in-ForStatement.is)) c.condition-in-ForStatement.ensures

pub returns-in-CaseStatement : goal.returns-in-CaseStatement
returns-in-CaseStatement c =
    let nodes = nodes_of c.args.unit.now in
    let surroundings = surroundings_seen c.args.surroundings.now in
    let types = c.args.types.now in
    let facts = nodes_seen types c.args.facts.now in
    let handle = c.args.handle in
    says_same types c.case_label.new.types c.case_label.result _ _ (ap (statement_row_of nodes surroundings facts handle) (sym c.in-CaseStatement.is)) c.case_label.ensures

pub returns-in-ReturnStatement : goal.returns-in-ReturnStatement
returns-in-ReturnStatement c =
    let nodes = nodes_of c.args.unit.now in
    let surroundings = surroundings_seen c.args.surroundings.now in
    let types = c.args.types.now in
    let facts = nodes_seen types c.args.facts.now in
    let handle = c.args.handle in
    let function = ap (λ (s : Surrounding). s.around.function) c.get.ensures.seen in
    let row = λ (of : Option ℕ).
    whole_return_row (token_at nodes handle) (part_token nodes handle 0) (first_fact facts (children_at nodes handle)) (result_around nodes facts of) in
    says_same types c.return_statement.new.types c.return_statement.result _ _
    (ap row function ∙ ap (statement_row_of nodes surroundings facts handle) (sym c.in-ReturnStatement.is)) c.return_statement.ensures

pub returns-in-DefaultStatement : goal.returns-in-DefaultStatement
returns-in-DefaultStatement c =
    let nodes = nodes_of c.args.unit.now in
    let surroundings = surroundings_seen c.args.surroundings.now in
    let types = c.args.types.now in
    let facts = nodes_seen types c.args.facts.now in
    let handle = c.args.handle in
    subst (λ (kind : NodeKind). Says types types c.default_label.result (statement_row_of nodes surroundings facts handle kind)) (sym c.in-DefaultStatement.is)
    (c.default_label.ensures facts
    (c.requires.kept.switches facts
    (come_now nodes facts
    (omega (arith, c.requires.next, c.requires.node, c.requires.whole, length-map c.args.facts.now (node_seen types), length-map c.args.unit.now.nodes named_node)))))

pub returns-in-LabelStatement : goal.returns-in-LabelStatement
returns-in-LabelStatement c =
    let nodes = nodes_of c.args.unit.now in
    let surroundings = surroundings_seen c.args.surroundings.now in
    let types = c.args.types.now in
    let facts = nodes_seen types c.args.facts.now in
    let handle = c.args.handle in
    subst (λ (kind : NodeKind). Says types types c.label_statement.result (statement_row_of nodes surroundings facts handle kind)) (sym c.in-LabelStatement.is)
    (c.label_statement.ensures types surroundings
    (sym (c.owner-owner.ensures nodes surroundings c.requires.kept.nesting (sym (ap (λ (s : Surrounding). s.around.function) c.get.ensures.seen))))
    c.requires.kept.labels)

pub returns-in-BreakStatement : goal.returns-in-BreakStatement
returns-in-BreakStatement c =
    let nodes = nodes_of c.args.unit.now in
    let surroundings = surroundings_seen c.args.surroundings.now in
    let types = c.args.types.now in
    let facts = nodes_seen types c.args.facts.now in
    let handle = c.args.handle in
    subst (λ (kind : NodeKind). Says types types c.break_statement.result (statement_row_of nodes surroundings facts handle kind)) (sym c.in-BreakStatement.is)
    (c.break_statement.ensures types surroundings c.requires.kept.nesting)

pub returns-in-ContinueStatement : goal.returns-in-ContinueStatement
returns-in-ContinueStatement c =
    let nodes = nodes_of c.args.unit.now in
    let surroundings = surroundings_seen c.args.surroundings.now in
    let types = c.args.types.now in
    let facts = nodes_seen types c.args.facts.now in
    let handle = c.args.handle in
    subst (λ (kind : NodeKind). Says types types c.continue_statement.result (statement_row_of nodes surroundings facts handle kind)) (sym c.in-ContinueStatement.is)
    (c.continue_statement.ensures types surroundings c.requires.kept.nesting)

pub returns-in-FunctionDefinition : goal.returns-in-FunctionDefinition
returns-in-FunctionDefinition c =
    let nodes = nodes_of c.args.unit.now in
    let surroundings = surroundings_seen c.args.surroundings.now in
    let types = c.args.types.now in
    let facts = nodes_seen types c.args.facts.now in
    let handle = c.args.handle in
    subst (λ (kind : NodeKind). Says types types c.row_of_owner.result (statement_row_of nodes surroundings facts handle kind)) (sym c.in-FunctionDefinition.is)
    (c.row_of_owner.ensures)

pub returns-in-StatementExpression : goal.returns-in-StatementExpression
returns-in-StatementExpression c =
    let nodes = nodes_of c.args.unit.now in
    let surroundings = surroundings_seen c.args.surroundings.now in
    let types = c.args.types.now in
    let facts = nodes_seen types c.args.facts.now in
    let handle = c.args.handle in
    subst (λ (kind : NodeKind). Says types types c.row_of_owner-in-StatementExpression.result (statement_row_of nodes surroundings facts handle kind)) (sym c.in-StatementExpression.is)
    (subst (λ (owner : Option ℕ). Says types types c.row_of_owner-in-StatementExpression.result (expression_row nodes surroundings handle owner))
    (c.owner-owner.ensures nodes surroundings c.requires.kept.nesting (sym (ap (λ (s : Surrounding). s.around.function) c.get.ensures.seen)))
    c.row_of_owner-in-StatementExpression.ensures)

pub returns-in_default : goal.returns-in_default
returns-in_default c =
    let nodes = nodes_of c.args.unit.now in
    let surroundings = surroundings_seen c.args.surroundings.now in
    let types = c.args.types.now in
    let facts = nodes_seen types c.args.facts.now in
    let handle = c.args.handle in
    let other = c.in_default in
    subst (Says types types c.nothing.result)
    (sym
    (nothing_said nodes surroundings facts handle c.args.kind
    (record {
      label = other.not-LabelStatement;
      case_label = other.not-CaseStatement;
      default = other.not-DefaultStatement;
      condition = other.not-IfStatement;
      switch = other.not-SwitchStatement;
      while_statement = other.not-WhileStatement;
      do_statement = other.not-DoStatement;
      for_statement = other.not-ForStatement;
      continue = other.not-ContinueStatement;
      break = other.not-BreakStatement;
      return_statement = other.not-ReturnStatement;
      function = other.not-FunctionDefinition;
      expression = other.not-StatementExpression;
    })))
    (says_nothing types c.nothing.result c.nothing.ensures)
