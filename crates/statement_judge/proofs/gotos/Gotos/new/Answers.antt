use Rattle.std.proofs.Common.{◌≡◌, rules}
use Rattle.indexmap.specs.IndexMap.{get}
use Rattle.statement_judge.specs.Gotos.{same_owner}
use Rattle.statement_judge.proofs.GotoLemmas.{none_chained}
use Rattle.statement_judge.proofs.gotos.Gotos.new.Goals as goal

pub returns : goal.returns
returns c = λ around owner.
    none_chained around c.new.result.items owner (get same_owner c.new-2.result owner) (search rules)
