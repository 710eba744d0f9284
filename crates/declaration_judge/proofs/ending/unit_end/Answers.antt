use Rattle.std.proofs.Common.{ap, ◌∙◌}
use Rattle.meaning_rules.specs.Rules.{least_broken}
use Rattle.meaning_typing.specs.DeclarationRows.{unit_end_broken}
use Rattle.c_types.specs.Layouts.{told_in}
use Rattle.decl_judge.specs.Units.{nodes_of}
use Rattle.node_surroundings.specs.Seen.{surroundings_seen}
use Rattle.declaration_judge.specs.Kept.{facts_seen}
use Rattle.declaration_judge.proofs.LinkedLemmas.{are_linked}
use Rattle.declaration_judge.proofs.RowLemmas.{says_broken}
use Rattle.declaration_judge.proofs.ending.unit_end.Goals as goal

pub unit_end_broken-requires-clause-linked : goal.unit_end_broken-requires-clause-linked
unit_end_broken-requires-clause-linked c = are_linked c.args.kept.now c.requires.kept.whole

pub returns : goal.returns
returns c =
    let nodes = nodes_of c.args.unit.now in
    let surroundings = surroundings_seen c.args.surroundings.now in
    let kept = c.args.kept.now in
    let at_end = unit_end_broken (told_in kept.types) nodes surroundings (facts_seen kept) in
    says_broken kept.types c.breaks.result c.unit_end_broken.result (at_end c.args._handle) c.breaks.ensures
    (c.unit_end_broken.ensures ∙ ap (λ count. least_broken (at_end count)) c.requires.next)
