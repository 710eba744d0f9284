-- An expression.
use Rattle.std.proofs.Common.{◌≡◌, ◌∙◌, ap, sym}
use Rattle.initializer_levels.proofs.GoingLemmas.{goes_as}
use Rattle.meaning_initializers.specs.Items.{Initializer}
use Rattle.decl_judge.specs.Units.{nodes_of}
use Rattle.initializer_levels.specs.Going.{received_seen}
use Rattle.initializer_levels.proofs.ReadingLemmas.{value_at}
use Rattle.initializer_levels.proofs.fill.receive.Goals as goal

pub returns-else-is_braced-clause-walk : goal.returns-else-is_braced-clause-walk
returns-else-is_braced-clause-walk c = λ facts paths known.
    let nodes = nodes_of c.args.unit.now in
    goes_as nodes facts c.args.types.now paths _ _ _ (c.behind_placed.ensures.walk nodes facts c.args.types.now paths known)
    (λ is_static found. ap (λ (i : Initializer). received_seen nodes facts c.args.types.now paths c.args.placed c.args.walk i is_static found)
    (sym (value_at nodes facts c.requires.order c.args.placed.initializer (sym c.is_braced.ensures ∙ c.if-is_braced.false))))
