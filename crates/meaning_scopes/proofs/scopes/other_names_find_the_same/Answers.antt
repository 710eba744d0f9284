use Rattle.meaning_scopes.proofs.Finding.{find-renamed}
use Rattle.meaning_scopes.proofs.scopes.other_names_find_the_same.Goals as goal

pub returns : goal.returns
returns g c = λ same same_other renaming is_known agree. find-renamed same same_other renaming is_known agree
