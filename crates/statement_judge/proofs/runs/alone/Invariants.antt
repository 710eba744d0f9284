-- Each node so far is the first of its own.
use Rattle.statement_judge.specs.Runs.{AreAlone}
use Rattle.statement_judge.proofs.runs.alone.Given as goal

abbrev pub invariant-loop-handle : goal.invariant-loop-handle
invariant-loop-handle l = AreAlone l.handle l.firsts.items
