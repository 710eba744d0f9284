-- By the kind of the node.
use Rattle.std.proofs.Common.{◌≡◌, ◌++◌, List, ℕ, OnOk, ap, sym, subst, ◌∙◌}
use Rattle.meaning_typing.specs.Units.{kind_at}
use Rattle.decl_judge.specs.Units.{nodes_of}
use Rattle.linear_code.specs.Passed.{evaluated_so}
use Rattle.linear_code.proofs.PassedLemmas.{declaration-passed, statements-passed}
use Rattle.linear_code.proofs.passed.push_passed.Goals as goal

pub returns-in-Declaration : goal.returns-in-Declaration
returns-in-Declaration g c =
    let known = g.J.ControlFacts.known c.args.facts.now in
    subst (λ (passed : List ℕ). OnOk c.push_initializers_below.result (c.push_initializers_below.new.passed.items ≡ c.args.passed.now.items ++ passed))
    (declaration-passed c.args.unit.now c.requires.whole c.each_node_stands_for_one_tree.ensures.order c.requires.laid known c.requires.lists c.args.handle
    (sym c.kind_at.ensures ∙ c.in-Declaration.is))
    c.push_initializers_below.ensures

pub returns-in-StatementExpression : goal.returns-in-StatementExpression
returns-in-StatementExpression g c =
    let known = g.J.ControlFacts.known c.args.facts.now in
    let nodes = nodes_of c.args.unit.now in
    subst (λ (passed : List ℕ). OnOk c.push_evaluated_parts.result (c.push_evaluated_parts.new.passed.items ≡ c.args.passed.now.items ++ passed))
    (ap (λ child. evaluated_so nodes known.facts child (kind_at nodes child)) c.child_at.ensures
    ∙ statements-passed c.args.unit.now c.requires.whole c.each_node_stands_for_one_tree.ensures.order c.requires.laid known c.args.handle
    (sym c.kind_at.ensures ∙ c.in-StatementExpression.is))
    c.push_evaluated_parts.ensures
