use Rattle.meaning_unit_nodes.specs.Numbered.{spellings_told}
use Rattle.meaning_unit_nodes.proofs.Numbers.{number_told-apart}
use Rattle.meaning_unit_nodes.proofs.nodes.numbers_tell_spellings_apart.Goals as goal

pub returns : goal.returns
returns c toks = number_told-apart (spellings_told toks)
