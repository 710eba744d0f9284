use Rattle.meaning_initializers.proofs.LeafParts.{leaves_are_parts}
use Rattle.meaning_initializers.proofs.initializers.leaves_are_for_parts.Goals as goal

pub returns : goal.returns
returns c = leaves_are_parts
