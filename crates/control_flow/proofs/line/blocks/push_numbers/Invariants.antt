-- What was appended, and the numbers that are left, make up all.
use Rattle.std.proofs.Common.{◌≡◌, ◌++◌}
use Rattle.control_flow.specs.Seen.{targets}
use Rattle.control_flow.specs.Shown.{shown_numbers}
use Rattle.control_flow.proofs.line.blocks.push_numbers.Given as goal

abbrev pub invariant-loop-number : goal.invariant-loop-number
invariant-loop-number l = l.text.items ++ shown_numbers (targets l.number-iterator) ≡ l.fn.text.items ++ shown_numbers (targets l.next)
