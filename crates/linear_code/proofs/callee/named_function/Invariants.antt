-- What stands in the parentheses so far names what all names.
use Rattle.std.proofs.Common.{◌≡◌, length}
use Rattle.decl_judge.specs.Units.{nodes_of}
use Rattle.linear_code.specs.Known.{judged_unit, named_at}
use Rattle.linear_code.proofs.NameLemmas.{depth}
use Rattle.linear_code.proofs.callee.named_function.Given as goal

abbrev pub invariant-parentheses : goal.invariant-parentheses
invariant-parentheses g l =
    named_at (judged_unit l.unit (g.J.ControlFacts.known l.facts)) l.inside ≡ named_at (judged_unit l.unit (g.J.ControlFacts.known l.facts)) l.handle

abbrev pub decreases-parentheses : goal.decreases-parentheses
decreases-parentheses g l = depth (length (nodes_of l.unit)) l.inside
