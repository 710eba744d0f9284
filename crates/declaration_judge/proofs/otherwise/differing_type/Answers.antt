use Rattle.std.proofs.Common.{ap, sym, ◌∙◌}
use Rattle.std.specs.Option.{option_and_then}
use Rattle.meaning_typing.specs.ContextSums.{told_type}
use Rattle.decl_judge.specs.Units.{nodes_of}
use Rattle.node_surroundings.specs.Seen.{surroundings_seen}
use Rattle.declaration_judge.specs.Kept.{facts_seen}
use Rattle.declaration_judge.proofs.otherwise.differing_type.Goals as goal

pub returns-in-Some-clause-told : goal.returns-in-Some-clause-told
returns-in-Some-clause-told c =
    c.told_type.ensures.told
    ∙ ap (option_and_then (told_type (nodes_of c.args.unit.now) (surroundings_seen c.args.surroundings.now) (facts_seen c.args.kept.now)))
    (sym c.in-Some.is ∙ c.first_differing.ensures)

pub returns-in-None-clause-told : goal.returns-in-None-clause-told
returns-in-None-clause-told c =
    ap (option_and_then (told_type (nodes_of c.args.unit.now) (surroundings_seen c.args.surroundings.now) (facts_seen c.args.kept.now)))
    (sym c.in-None.is ∙ c.first_differing.ensures)
