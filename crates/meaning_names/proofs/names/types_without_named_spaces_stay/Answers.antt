use Rattle.meaning_names.proofs.NameLemmas.{type-stays}
use Rattle.meaning_names.proofs.names.types_without_named_spaces_stay.Goals as goal

pub returns : goal.returns
returns c = type-stays
