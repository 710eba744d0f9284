-- What is folded is the constant by the definitions.
use Rattle.std.proofs.Common.{All, ap, subst, sym, ◌∙◌}
use Rattle.node_facts.specs.Known.{IsKnownNode}
use Rattle.expr_judge.specs.Constants.{bits_folded}
use Rattle.expr_judge.proofs.ConstantLemmas.{all_kept}
use Rattle.whole_judge.proofs.ConstantLemmas.{bits_told}
use Rattle.whole_judge.proofs.constants.constant_bits.Goals as goal

pub fold-requires-clause-kept : goal.fold-requires-clause-kept
fold-requires-clause-kept c =
    subst (All (IsKnownNode c.args.types.now)) (sym c.types.ensures) (all_kept c.args.types.now c.args.facts.now c.requires.ids)

pub returns : goal.returns
returns c surroundings =
    c.bits_folded.ensures ∙ ap bits_folded c.fold.ensures
    ∙ bits_told c.args.unit.now c.requires.whole c.args.types.now c.args.facts.now c.types.result.now surroundings c.args.handle c.requires.node
    c.requires.other c.types.ensures
