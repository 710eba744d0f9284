use Rattle.initializer_levels.proofs.Depth.{initializers_are_of_parts}
use Rattle.initializer_levels.proofs.laws.initializers_are_of_parts.Goals as goal

pub returns : goal.returns
returns c = initializers_are_of_parts
