-- What is kept of the name.
use Rattle.std.proofs.Common.{◌≡◌, Some, None, sym, ap, subst}
use Rattle.c_types.specs.Table.{IsTypeId, type_at}
use Rattle.indexmap.specs.IndexMap.{get}
use Rattle.linked_names.specs.Contexts.{CarriedDeclarations, declarations_of, types_declared}
use Rattle.linked_names.specs.Kept.{same_key}
use Rattle.linked_names.specs.Linked.{shared_type}
use Rattle.linked_names.proofs.GrowthLemmas.{Extends-itself}
use Rattle.linked_names.proofs.CarriedIndexLemmas.{carried_index-empty, carried_index-ids, carried_index-kept}
use Rattle.linked_names.proofs.linked_contexts.LinkedContexts.type_of.Goals as goal

pub returns-in-Some-clause-shared : goal.returns-in-Some-clause-shared
returns-in-Some-clause-shared c =
    let over = c.self.inside.trace.over in
    let one = c.in-Some.carried.now in
    let kept =
    carried_index-kept over over (Extends-itself over) c.self.inside.trace.declarations (get same_key c.self.inside.kept) c.self.invariant.index c.args.name one (sym c.in-Some.ensures.value)
    in
    subst (λ (list : CarriedDeclarations). Some (type_at list.over one.declarations.shared) ≡ shared_type (types_declared (declarations_of list.over c.args.name list.declarations))) c.self.view_is (sym kept.declarations.shared)

pub returns-in-Some-clause-known : goal.returns-in-Some-clause-known
returns-in-Some-clause-known c =
    let over = c.self.inside.trace.over in
    let one = c.in-Some.carried.now in
    let ids =
    carried_index-ids over over (Extends-itself over) c.self.inside.trace.declarations (get same_key c.self.inside.kept) c.self.invariant.index c.args.name one (sym c.in-Some.ensures.value)
    in
    subst (λ (list : CarriedDeclarations). IsTypeId list.over one.declarations.shared) c.self.view_is ids.declarations.shared

pub returns-in-None-clause-shared : goal.returns-in-None-clause-shared
returns-in-None-clause-shared c =
    let over = c.self.inside.trace.over in
    let empty =
    carried_index-empty over over (Extends-itself over) c.self.inside.trace.declarations (get same_key c.self.inside.kept) c.self.invariant.index c.args.name (sym c.in-None.ensures.value)
    in
    subst (λ (list : CarriedDeclarations). None ≡ shared_type (types_declared (declarations_of list.over c.args.name list.declarations))) c.self.view_is (sym (ap (λ list. shared_type (types_declared list)) empty))
