-- The look-up finds an entry of the addition.
use Rattle.std.proofs.Common.{sym, ◌∙◌}
use Rattle.number_sets.specs.Branches.{IsGrown}
use Rattle.number_sets.proofs.MadeLemmas.{IfSome_from, found_holds}
use Rattle.number_sets.proofs.PairLemmas.{addition_eq, same_addition}
use Rattle.number_sets.proofs.addition.Additions.get.Goals as goal

pub returns : goal.returns
returns c = λ bs all.
    IfSome_from (IsGrown bs c.args.addition) c.copied.result
    (λ set found. found_holds (IsGrown bs) (addition_eq c.args.addition) c.args.addition set (λ other h. sym (same_addition c.args.addition other h)) c.args.self.now.grown.entries all (sym c.get.ensures.value ∙ sym c.copied.ensures ∙ found))
