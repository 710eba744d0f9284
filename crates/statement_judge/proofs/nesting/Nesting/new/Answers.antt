use Rattle.statement_judge.proofs.nesting.Nesting.new.Goals as goal

pub returns : goal.returns
returns c = record { above = c.in_ok-enclosings.ensures.exact; runs = c.in_ok-runs.ensures }
