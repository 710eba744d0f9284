use Rattle.std.proofs.Common.{rules}
use Rattle.indexmap.specs.IndexMap.{get}
use Rattle.judged_objects.specs.Kept.{same_handle, same_name}
use Rattle.judged_objects.proofs.KeptLemmas.{none_kept}
use Rattle.judged_objects.proofs.objects.JudgedObjects.new.Goals as goal

pub returns : goal.returns
returns c = λ nodes surroundings.
    none_kept nodes surroundings (get same_name c.new.result) (get same_handle c.new-2.result) (λ name. search rules) (λ handle. search rules)
