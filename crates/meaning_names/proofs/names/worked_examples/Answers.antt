-- Each example computes.
use Rattle.std.proofs.Common.{refl}
use Rattle.meaning_names.proofs.names.worked_examples.Goals as goal

pub returns-clause-spelled : goal.returns-clause-spelled
returns-clause-spelled c = record { name = refl; none = refl; unknown = refl; named_space = refl; numbered_space = refl; no_space = refl }

pub returns-clause-named : goal.returns-clause-named
returns-clause-named c = record { identity = refl; no_declaration = refl; declares_nothing = refl; tag = refl; union_tag = refl; no_tag = refl; no_structure = refl }
