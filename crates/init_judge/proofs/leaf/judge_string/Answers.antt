-- By whether the string is longer.
use Rattle.std.proofs.Common.{sym, ◌∙◌}
use Rattle.meaning_initializers.specs.Reading.{given_at}
use Rattle.decl_judge.specs.Units.{nodes_of}
use Rattle.initializer_levels.specs.Parts.{type_seen}
use Rattle.initializer_levels.specs.Paths.{path_at}
use Rattle.init_judge.proofs.LeafLemmas.{long_kept, short_kept}
use Rattle.init_judge.proofs.leaf.judge_string.Goals as goal

pub returns-then-is_longer-clause-said : goal.returns-then-is_longer-clause-said
returns-then-is_longer-clause-said c = λ table paths facts parts.
    let placed = c.args.placed in
    c.refused.ensures.said table paths
    ∙ long_kept (type_seen table placed.of) (path_at paths placed.path) placed.is_moved (given_at (nodes_of c.args.unit.now) facts placed.initializer) c.args.elements
    (sym (c.is_longer.ensures table (type_seen table placed.of) parts) ∙ c.if-is_longer.true)

pub returns-else-is_longer-clause-said : goal.returns-else-is_longer-clause-said
returns-else-is_longer-clause-said c = λ table paths facts parts.
    let placed = c.args.placed in
    short_kept (type_seen table placed.of) (path_at paths placed.path) placed.is_moved (given_at (nodes_of c.args.unit.now) facts placed.initializer) c.args.elements
    (sym (c.is_longer.ensures table (type_seen table placed.of) parts) ∙ c.if-is_longer.false)
