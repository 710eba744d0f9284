use Rattle.std.proofs.Common.{◌≤◌, length}
use Rattle.meaning_grammar.specs.Sorts.{KeepsSorts}
use Rattle.meaning_grammar.specs.Weights.{Falls}
use Rattle.meaning_grammar.proofs.Fitting.{what_is_taken_fits}
use Rattle.c_grammar.proofs.Taken.{taken-IfSome}
use Rattle.c_grammar.proofs.choice.choose.Goals as goal

pub returns-clause-falls : goal.returns-clause-falls
returns-clause-falls c =
    taken-IfSome (λ items. items.now) c.args.symbol _ _ (Falls c.args.symbol) (λ row is. (what_is_taken_fits c.args.symbol row _ _ is).falls) _ c.choose_between.ensures

pub returns-clause-sorted : goal.returns-clause-sorted
returns-clause-sorted c =
    taken-IfSome (λ items. items.now) c.args.symbol _ _ (KeepsSorts c.args.symbol) (λ row is. (what_is_taken_fits c.args.symbol row _ _ is).sorted) _ c.choose_between.ensures

pub returns-clause-short : goal.returns-clause-short
returns-clause-short c =
    taken-IfSome (λ items. items.now) c.args.symbol _ _ (λ row. length row ≤ 15) (λ row is. (what_is_taken_fits c.args.symbol row _ _ is).short) _ c.choose_between.ensures
