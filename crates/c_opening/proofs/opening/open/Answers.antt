-- A row that is chosen is what the symbol opens to at once.
use Rattle.c_grammar.proofs.Taken.{taken-IfSome}
use Rattle.c_opening.specs.Opening.{Opens, by_row}
use Rattle.c_opening.proofs.opening.open.Goals as goal

pub returns-in-None-clause-opens : goal.returns-in-None-clause-opens
returns-in-None-clause-opens c =
    taken-IfSome (λ items. items.now) c.args.symbol _ _ (Opens _ _ c.args.symbol) (λ row is. by_row c.args.symbol row is) _ c.choose.ensures.chosen
