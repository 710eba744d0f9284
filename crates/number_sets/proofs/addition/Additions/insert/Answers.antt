use Rattle.std.proofs.Common.{sym, subst}
use Rattle.number_sets.specs.Branches.{AreGrown, IsGrown}
use Rattle.number_sets.proofs.MadeLemmas.{inserted_holds}
use Rattle.number_sets.proofs.PairLemmas.{addition_eq, same_addition}
use Rattle.number_sets.proofs.addition.Additions.insert.Goals as goal

pub returns-clause-ok : goal.returns-clause-ok
returns-clause-ok c = λ bs all is.
    subst (AreGrown bs) (sym c.in_ok-insert.ensures.entries)
    (inserted_holds (IsGrown bs) addition_eq c.args.addition c.args.set (λ other h. sym (same_addition c.args.addition other h)) is c.args.self.now.grown.entries all)
