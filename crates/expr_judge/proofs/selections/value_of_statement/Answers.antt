use Rattle.std.proofs.Common.{◌≡◌, Option, None, IfOk, option_map, refl, sym, subst}
use Rattle.vocabulary.specs.declared.node_kind.NodeKind.{NodeKind}
use Rattle.vocabulary.specs.declared.node_kind.NodeKind.TheVariants as kinds
use Rattle.meaning_typing.specs.Facts.{Fact}
use Rattle.meaning_typing.specs.Typing.{value_of_statement}
use Rattle.decl_judge.specs.Units.{handles_of}
use Rattle.expression_rows.specs.Parts.{returned_seen}
use Rattle.node_facts.specs.Facts.{nodes_seen}
use Rattle.expr_judge.specs.Operators.{value_in}
use Rattle.expr_judge.specs.Parts.{only_expression}
use Rattle.expr_judge.proofs.selections.value_of_statement.Goals as goal

no_value : (kind : NodeKind) (value : Option Fact) → (kind ≡ kinds.ExpressionStatement → ⊥) → None ≡ option_map only_expression (value_of_statement kind value)
no_value kinds.ExpressionStatement value other = absurd (other refl)
no_value kind value other = refl

pub returns-in-ExpressionStatement-clause-seen : goal.returns-in-ExpressionStatement-clause-seen
returns-in-ExpressionStatement-clause-seen c =
    let facts = nodes_seen c.args.types.now c.args.facts.now in
    subst
    (λ (kind : NodeKind). IfOk c.returned_among.result (λ value. returned_seen c.returned_among.new.types value
    ≡ option_map only_expression (value_in kind facts (handles_of c.args.statement.now.children))))
    (sym c.in-ExpressionStatement.is) c.returned_among.ensures.seen

pub returns-in_default-clause-seen : goal.returns-in_default-clause-seen
returns-in_default-clause-seen c = no_value c.args.statement.now.kind _ c.in_default.not-ExpressionStatement
