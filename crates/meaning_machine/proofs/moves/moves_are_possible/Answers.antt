-- By what each move asks for.
use Rattle.meaning_machine.proofs.Named.{names_designate}
use Rattle.meaning_machine.proofs.Possible.{runs_begin, functions_start, activities_go_on, activities_end, objects_are_written}
use Rattle.meaning_machine.proofs.moves.moves_are_possible.Goals as goal

pub returns-clause-opening : goal.returns-clause-opening
returns-clause-opening c = runs_begin

pub returns-clause-calls : goal.returns-clause-calls
returns-clause-calls c = functions_start

pub returns-clause-steps : goal.returns-clause-steps
returns-clause-steps c = activities_go_on

pub returns-clause-ends : goal.returns-clause-ends
returns-clause-ends c = activities_end

pub returns-clause-writes : goal.returns-clause-writes
returns-clause-writes c = objects_are_written

pub returns-clause-names : goal.returns-clause-names
returns-clause-names c = names_designate
