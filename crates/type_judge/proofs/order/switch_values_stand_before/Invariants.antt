-- The nodes before the next one stand behind the values of their switches.
use Rattle.std.proofs.Common.{List}
use Rattle.meaning_typing.specs.Surroundings.{Surrounding}
use Rattle.decl_judge.specs.Units.{nodes_of}
use Rattle.statement_judge.specs.Nesting.{IsNestingOf}
use Rattle.type_judge.proofs.OrderLemmas.{AreBehind}
use Rattle.type_judge.proofs.order.switch_values_stand_before.Given as goal

abbrev pub invariant-loop-handle : goal.invariant-loop-handle
invariant-loop-handle l =
    (surroundings : List Surrounding) → IsNestingOf (nodes_of l.unit) surroundings l.nesting → AreBehind (nodes_of l.unit) surroundings l.handle
