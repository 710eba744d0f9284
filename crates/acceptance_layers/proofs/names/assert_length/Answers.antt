-- Names without declarations go with any table.
use Rattle.acceptance_layers.proofs.names.assert_length.Goals as goal

pub declare_again-requires : goal.declare_again-requires
declare_again-requires g c = c.new-names.ensures.over c.array_of-2.new.types
