-- Few rows wait, and each is short.
use Rattle.std.proofs.Common.{◌≤◌, List, length, subst, arith}
use Rattle.std.proofs.lemmas.Bool.{ltb-true}
use Rattle.vocabulary.specs.declared.production_item.ProductionItem.{ProductionItem}
use Rattle.meaning_derivation.specs.Derivation.{symbols}
use Rattle.meaning_derivation.specs.State.{most_pending}
use Rattle.c_parse.specs.Rows.{most_waiting}
use Rattle.c_parse.proofs.Waiting.{pending-few, pending-small}
use Rattle.c_parse.proofs.pending.Pending.is_small.Goals as goal

pub returns-clause-small : goal.returns-clause-small
returns-clause-small c =
    λ small.
    let few = ltb-true c.len.result 4369 small in
    let rows = c.len.ensures in
    subst (λ (items : List ProductionItem). symbols items ≤ most_pending) c.self.view_is
    (pending-small c.self.inside.front c.self.inside.rows.items c.self.inside.counted c.self.invariant (omega (arith, few, rows)))

pub returns-clause-few : goal.returns-clause-few
returns-clause-few c =
    subst (λ (items : List ProductionItem). length items ≤ most_waiting) c.self.view_is
    (pending-few c.self.inside.front c.self.inside.rows.items c.self.inside.counted c.self.invariant)
