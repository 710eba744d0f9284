use Rattle.number_sets.proofs.MadeLemmas.{union_from_empty, union_with_empty, intersection_from_empty, intersection_with_empty}
use Rattle.number_sets.proofs.pair.settled.Goals as goal

pub returns-in-Union-clause-made : goal.returns-in-Union-clause-made
returns-in-Union-clause-made c = λ bs left right. union_from_empty bs c.args.pair left right c.in-Union.is c.if-pair-eq-EMPTY.true

pub returns-in-Union-2-clause-made : goal.returns-in-Union-2-clause-made
returns-in-Union-2-clause-made c = λ bs left right. union_with_empty bs c.args.pair left right c.in-Union-2.is c.if-pair-eq-EMPTY-2.true

pub returns-in-Intersection-clause-made : goal.returns-in-Intersection-clause-made
returns-in-Intersection-clause-made c = λ bs left right. intersection_from_empty bs c.args.pair left right c.in-Intersection.is c.if-pair-eq-EMPTY-3.true

pub returns-in-Intersection-2-clause-made : goal.returns-in-Intersection-2-clause-made
returns-in-Intersection-2-clause-made c = λ bs left right. intersection_with_empty bs c.args.pair left right c.in-Intersection-2.is c.if-pair-eq-EMPTY-4.true
