use Rattle.std.proofs.Common.{◌∙◌, sym, subst}
use Rattle.meaning_macros.specs.Agreement.{agree}
use Rattle.meaning_macros.specs.WellFormed.{IsWellFormed}
use Rattle.c_macros.specs.Seen.{own_text}
use Rattle.c_tokens.specs.Seen.{IsKnown}
use Rattle.c_macros.proofs.KnowsLemmas.{All-named}
use Rattle.c_macros.proofs.ParameterLemmas.{own_text-KeepsApart}
use Rattle.c_macros.proofs.ReadingLemmas.{found-known, macro_by-known, spelled_by, spelled_by-KeepsApart}
use Rattle.c_macros.proofs.SpellingLemmas.{IsWellFormed-by, agree-by}
use Rattle.c_macros.proofs.laws.ids_say_what_spellings_say.Goals as goal

pub returns-clause-agreement : goal.returns-clause-agreement
returns-clause-agreement c = λ names m n apart known_m known_n.
    (λ k. agree (sym (macro_by-known names m known_m) k) (sym (macro_by-known names n known_n) k))
    ∙ agree-by (spelled_by names) own_text (spelled_by-KeepsApart names apart) own_text-KeepsApart m n

pub returns-clause-well_formed : goal.returns-clause-well_formed
returns-clause-well_formed c = λ names m apart known. (
  λ formed. IsWellFormed-by (spelled_by names) own_text (spelled_by-KeepsApart names apart) own_text-KeepsApart m (subst IsWellFormed (sym (macro_by-known names m known)) formed),
  λ formed. subst IsWellFormed (macro_by-known names m known) (IsWellFormed-by own_text (spelled_by names) own_text-KeepsApart (spelled_by-KeepsApart names apart) m formed),
)

pub returns-clause-table : goal.returns-clause-table
returns-clause-table c = λ names table name apart known here. found-known names apart table.macros name (All-named (IsKnown names) table.macros known) here
