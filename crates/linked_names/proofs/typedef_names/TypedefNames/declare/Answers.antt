-- One typedef more.
use Rattle.std.proofs.Common.{sym, subst}
use Rattle.indexmap.specs.IndexMap.{get}
use Rattle.linked_names.specs.Typedefs.{KeepsFirst, same_scoped}
use Rattle.linked_names.proofs.TypedefLemmas.{keeps-more}
use Rattle.linked_names.proofs.typedef_names.TypedefNames.declare.Goals as goal

pub invariant_of-self-2 : goal.invariant_of-self-2
invariant_of-self-2 c =
    subst (λ typedefs. KeepsFirst typedefs (get same_scoped c.keep_first.new.kept)) (sym c.then-self-inside.ensures)
    (keeps-more c.self.inside.trace.typedefs (record { scope = c.args.scope; name = c.args.name; of = c.args.of }) (get same_scoped c.self.inside.kept) (get same_scoped c.keep_first.new.kept)
    c.self.invariant c.in_ok-keep_first.ensures.kept)
