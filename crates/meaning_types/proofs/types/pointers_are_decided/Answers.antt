use Rattle.meaning_types.proofs.Spaces.{mix_spaces-Decides, at_most_one}
use Rattle.meaning_types.proofs.types.pointers_are_decided.Goals as goal

pub returns-clause-mixed : goal.returns-clause-mixed
returns-clause-mixed c = mix_spaces-Decides

pub returns-clause-one : goal.returns-clause-one
returns-clause-one c = at_most_one
