-- All rows were counted, and few items wait.
use Rattle.std.proofs.Common.{List, length, ap, subst, ◌∙◌, arith}
use Rattle.meaning_derivation.specs.Derivation.{symbols}
use Rattle.c_parse.specs.Rows.{AreCounted, waiting}
use Rattle.c_parse.specs.declared.pending.Row.{Row}
use Rattle.c_parse.proofs.Waiting.{pending-few, symbols-few, waiting-counted}
use Rattle.c_parse.proofs.pending.Pending.count.Goals as goal

pub overflow_add-result : goal.overflow_add-result
overflow_add-result c =
    let are = subst (λ (rows : List Row). AreCounted rows c.all_counted-self-inside.result) c.deref.ensures.value c.all_counted-self-inside.ensures.counted in
    let counted = waiting-counted c.self.inside.front c.self.inside.rows.items c.all_counted-self-inside.result c.count_symbols.result are
    (c.all_counted-self-inside.ensures.all ∙ ap length c.deref.ensures.value) c.count_symbols.ensures.count in
    let all = symbols-few (waiting c.self.inside.front c.self.inside.rows.items) in
    let few = pending-few c.self.inside.front c.self.inside.rows.items c.self.inside.counted c.self.invariant in
    omega (arith, counted, all, few)

pub returns-clause-count : goal.returns-clause-count
returns-clause-count c =
    let are = subst (λ (rows : List Row). AreCounted rows c.all_counted-self-inside.result) c.deref.ensures.value c.all_counted-self-inside.ensures.counted in
    waiting-counted c.self.inside.front c.self.inside.rows.items c.all_counted-self-inside.result c.count_symbols.result are
    (c.all_counted-self-inside.ensures.all ∙ ap length c.deref.ensures.value) c.count_symbols.ensures.count
    ∙ ap symbols c.self.view_is
