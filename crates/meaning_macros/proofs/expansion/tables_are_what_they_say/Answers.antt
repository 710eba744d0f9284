use Rattle.meaning_macros.proofs.TableLemmas.{expansion-table}
use Rattle.meaning_macros.proofs.expansion.tables_are_what_they_say.Goals as goal

pub returns : goal.returns
returns c = expansion-table
