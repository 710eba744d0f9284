-- What each symbol opens to.
use Rattle.vocabulary.specs.declared.symbol.Symbol.TheVariants as symbols
use Rattle.c_opening.proofs.Opened.{opened-for, opens-AdditiveExpression, opens-ShiftExpression, opens-RelationalExpression, opens-EqualityExpression, opens-AndExpression, opens-ExclusiveOrExpression, opens-InclusiveOrExpression, opens-LogicalAndExpression, opens-LogicalOrExpression, opens-ConditionalExpression, opens-AssignmentExpression, opens-Expression}
use Rattle.c_opening.proofs.opening.open_expression.Goals as goal

pub returns-in-Expression-clause-opens : goal.returns-in-Expression-clause-opens
returns-in-Expression-clause-opens c = opened-for (λ items. items.now) c.args.symbol symbols.Expression c.args.next 14 c.in-Expression.is (opens-Expression c.args.next) _ c.operand_and_tails.ensures

pub returns-in-AssignmentExpression-clause-opens : goal.returns-in-AssignmentExpression-clause-opens
returns-in-AssignmentExpression-clause-opens c = opened-for (λ items. items.now) c.args.symbol symbols.AssignmentExpression c.args.next 13 c.in-AssignmentExpression.is (opens-AssignmentExpression c.args.next) _ c.operand_and_tails-in-AssignmentExpression.ensures

pub returns-in-ConditionalExpression-clause-opens : goal.returns-in-ConditionalExpression-clause-opens
returns-in-ConditionalExpression-clause-opens c = opened-for (λ items. items.now) c.args.symbol symbols.ConditionalExpression c.args.next 12 c.in-ConditionalExpression.is (opens-ConditionalExpression c.args.next) _ c.operand_and_tails-in-ConditionalExpression.ensures

pub returns-in-LogicalOrExpression-clause-opens : goal.returns-in-LogicalOrExpression-clause-opens
returns-in-LogicalOrExpression-clause-opens c = opened-for (λ items. items.now) c.args.symbol symbols.LogicalOrExpression c.args.next 11 c.in-LogicalOrExpression.is (opens-LogicalOrExpression c.args.next) _ c.operand_and_tails-in-LogicalOrExpression.ensures

pub returns-in-LogicalAndExpression-clause-opens : goal.returns-in-LogicalAndExpression-clause-opens
returns-in-LogicalAndExpression-clause-opens c = opened-for (λ items. items.now) c.args.symbol symbols.LogicalAndExpression c.args.next 10 c.in-LogicalAndExpression.is (opens-LogicalAndExpression c.args.next) _ c.operand_and_tails-in-LogicalAndExpression.ensures

pub returns-in-InclusiveOrExpression-clause-opens : goal.returns-in-InclusiveOrExpression-clause-opens
returns-in-InclusiveOrExpression-clause-opens c = opened-for (λ items. items.now) c.args.symbol symbols.InclusiveOrExpression c.args.next 9 c.in-InclusiveOrExpression.is (opens-InclusiveOrExpression c.args.next) _ c.operand_and_tails-in-InclusiveOrExpression.ensures

pub returns-in-ExclusiveOrExpression-clause-opens : goal.returns-in-ExclusiveOrExpression-clause-opens
returns-in-ExclusiveOrExpression-clause-opens c = opened-for (λ items. items.now) c.args.symbol symbols.ExclusiveOrExpression c.args.next 8 c.in-ExclusiveOrExpression.is (opens-ExclusiveOrExpression c.args.next) _ c.operand_and_tails-in-ExclusiveOrExpression.ensures

pub returns-in-AndExpression-clause-opens : goal.returns-in-AndExpression-clause-opens
returns-in-AndExpression-clause-opens c = opened-for (λ items. items.now) c.args.symbol symbols.AndExpression c.args.next 7 c.in-AndExpression.is (opens-AndExpression c.args.next) _ c.operand_and_tails-in-AndExpression.ensures

pub returns-in-EqualityExpression-clause-opens : goal.returns-in-EqualityExpression-clause-opens
returns-in-EqualityExpression-clause-opens c = opened-for (λ items. items.now) c.args.symbol symbols.EqualityExpression c.args.next 6 c.in-EqualityExpression.is (opens-EqualityExpression c.args.next) _ c.operand_and_tails-in-EqualityExpression.ensures

pub returns-in-RelationalExpression-clause-opens : goal.returns-in-RelationalExpression-clause-opens
returns-in-RelationalExpression-clause-opens c = opened-for (λ items. items.now) c.args.symbol symbols.RelationalExpression c.args.next 5 c.in-RelationalExpression.is (opens-RelationalExpression c.args.next) _ c.operand_and_tails-in-RelationalExpression.ensures

pub returns-in-ShiftExpression-clause-opens : goal.returns-in-ShiftExpression-clause-opens
returns-in-ShiftExpression-clause-opens c = opened-for (λ items. items.now) c.args.symbol symbols.ShiftExpression c.args.next 4 c.in-ShiftExpression.is (opens-ShiftExpression c.args.next) _ c.operand_and_tails-in-ShiftExpression.ensures

pub returns-in-AdditiveExpression-clause-opens : goal.returns-in-AdditiveExpression-clause-opens
returns-in-AdditiveExpression-clause-opens c = opened-for (λ items. items.now) c.args.symbol symbols.AdditiveExpression c.args.next 3 c.in-AdditiveExpression.is (opens-AdditiveExpression c.args.next) _ c.operand_and_tails-in-AdditiveExpression.ensures
