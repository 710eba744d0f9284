-- By the switch that stands above the node.
use Rattle.std.proofs.Common.{ℕ, ◌<◌, ap, subst}
use Rattle.decl_judge.specs.Units.{nodes_of}
use Rattle.statement_judge.proofs.AboveLemmas.{less-by}
use Rattle.statement_judge.specs.declared.enclosing.Enclosing.{Enclosing}
use Rattle.type_judge.proofs.OrderLemmas.{behind_none, behind_one}
use Rattle.type_judge.proofs.order.stands_behind_value.Goals as goal

pub returns-in-Some : goal.returns-in-Some
returns-in-Some c = λ surroundings nesting is.
    behind_one (nodes_of c.args.unit.now) surroundings c.args.handle c.above.result.switch c.in-Some.switch
    (ap (λ (a : Enclosing). a.switch) (c.above.ensures (nodes_of c.args.unit.now) surroundings nesting)) c.in-Some.is
    (subst (λ (value : ℕ). value < c.args.handle) c.child_at.ensures (less-by c.child_at.result c.args.handle is))

pub returns-in-None : goal.returns-in-None
returns-in-None c = λ surroundings nesting is.
    behind_none (nodes_of c.args.unit.now) surroundings c.args.handle c.above.result.switch
    (ap (λ (a : Enclosing). a.switch) (c.above.ensures (nodes_of c.args.unit.now) surroundings nesting)) c.in-None.is
