-- Nothing is known, over any table and of any nodes.
use Rattle.declaration_judge.proofs.KeptLemmas.{kept_none}
use Rattle.declaration_judge.proofs.declarations.Declarations.new.Goals as goal

pub returns-clause-kept : goal.returns-clause-kept
returns-clause-kept c =
    λ nodes surroundings.
    kept_none nodes surroundings _ c.new-2.ensures c.new-3.ensures.none (c.new-3.ensures.over c.in_ok-new.field-0) c.new-4.ensures.none
    (c.new-4.ensures.over c.in_ok-new.field-0) c.new-5.ensures (c.new-6.ensures.before nodes surroundings) (c.new-7.ensures.before nodes surroundings)
