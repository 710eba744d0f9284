-- What is absent for a symbol by its own function is absent for the symbol that is asked.
use Rattle.vocabulary.specs.declared.symbol.Symbol.TheVariants as symbols
use Rattle.c_opening.proofs.Missing.{absent-for}
use Rattle.c_opening.proofs.absent.is_absent.Goals as goal

pub returns-in-PostfixTail : goal.returns-in-PostfixTail
returns-in-PostfixTail c = absent-for c.args.symbol symbols.PostfixTail c.args.next c.lacks_postfix.result c.in-PostfixTail.is c.lacks_postfix.ensures

pub returns-in-MultiplicativeTail : goal.returns-in-MultiplicativeTail
returns-in-MultiplicativeTail c = absent-for c.args.symbol symbols.MultiplicativeTail c.args.next c.lacks_multiplicative.result c.in-MultiplicativeTail.is c.lacks_multiplicative.ensures

pub returns-in-AdditiveTail : goal.returns-in-AdditiveTail
returns-in-AdditiveTail c = absent-for c.args.symbol symbols.AdditiveTail c.args.next c.lacks_additive.result c.in-AdditiveTail.is c.lacks_additive.ensures

pub returns-in-ShiftTail : goal.returns-in-ShiftTail
returns-in-ShiftTail c = absent-for c.args.symbol symbols.ShiftTail c.args.next c.lacks_shift.result c.in-ShiftTail.is c.lacks_shift.ensures

pub returns-in-RelationalTail : goal.returns-in-RelationalTail
returns-in-RelationalTail c = absent-for c.args.symbol symbols.RelationalTail c.args.next c.lacks_relational.result c.in-RelationalTail.is c.lacks_relational.ensures

pub returns-in-EqualityTail : goal.returns-in-EqualityTail
returns-in-EqualityTail c = absent-for c.args.symbol symbols.EqualityTail c.args.next c.lacks_equality.result c.in-EqualityTail.is c.lacks_equality.ensures

pub returns-in-AndTail : goal.returns-in-AndTail
returns-in-AndTail c = absent-for c.args.symbol symbols.AndTail c.args.next c.lacks_and.result c.in-AndTail.is c.lacks_and.ensures

pub returns-in-ExclusiveOrTail : goal.returns-in-ExclusiveOrTail
returns-in-ExclusiveOrTail c = absent-for c.args.symbol symbols.ExclusiveOrTail c.args.next c.lacks_exclusive_or.result c.in-ExclusiveOrTail.is c.lacks_exclusive_or.ensures

pub returns-in-InclusiveOrTail : goal.returns-in-InclusiveOrTail
returns-in-InclusiveOrTail c = absent-for c.args.symbol symbols.InclusiveOrTail c.args.next c.lacks_inclusive_or.result c.in-InclusiveOrTail.is c.lacks_inclusive_or.ensures

pub returns-in-LogicalAndTail : goal.returns-in-LogicalAndTail
returns-in-LogicalAndTail c = absent-for c.args.symbol symbols.LogicalAndTail c.args.next c.lacks_logical_and.result c.in-LogicalAndTail.is c.lacks_logical_and.ensures

pub returns-in-LogicalOrTail : goal.returns-in-LogicalOrTail
returns-in-LogicalOrTail c = absent-for c.args.symbol symbols.LogicalOrTail c.args.next c.lacks_logical_or.result c.in-LogicalOrTail.is c.lacks_logical_or.ensures

pub returns-in-ConditionalTail : goal.returns-in-ConditionalTail
returns-in-ConditionalTail c = absent-for c.args.symbol symbols.ConditionalTail c.args.next c.lacks_conditional.result c.in-ConditionalTail.is c.lacks_conditional.ensures

pub returns-in-AssignmentTail : goal.returns-in-AssignmentTail
returns-in-AssignmentTail c = absent-for c.args.symbol symbols.AssignmentTail c.args.next c.lacks_assignment.result c.in-AssignmentTail.is c.lacks_assignment.ensures

pub returns-in-CommaTail : goal.returns-in-CommaTail
returns-in-CommaTail c = absent-for c.args.symbol symbols.CommaTail c.args.next c.lacks_comma.result c.in-CommaTail.is c.lacks_comma.ensures
