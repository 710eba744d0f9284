-- What is kept of the name.
use Rattle.std.proofs.Common.{◌≡◌, Some, None, sym, ap, subst}
use Rattle.c_types.specs.Table.{IsTypeId, type_at}
use Rattle.indexmap.specs.IndexMap.{get}
use Rattle.linked_names.specs.Linked.{LinkedDeclarations, shared_type, types_of}
use Rattle.linked_names.specs.Kept.{same_key}
use Rattle.linked_names.proofs.GrowthLemmas.{Extends-itself}
use Rattle.linked_names.proofs.IndexLemmas.{index-empty, index-ids, index-kept}
use Rattle.linked_names.proofs.linked_names.LinkedNames.type_of.Goals as goal

pub returns-in-Some-clause-shared : goal.returns-in-Some-clause-shared
returns-in-Some-clause-shared c =
    let over = c.self.inside.trace.over in
    let one = c.in-Some.declarations.now in
    let kept =
    index-kept over over (Extends-itself over) c.self.inside.trace.declarations (get same_key c.self.inside.kept) c.self.invariant c.args.name one (sym c.in-Some.ensures.value)
    in
    subst (λ (list : LinkedDeclarations). Some (type_at list.over one.shared) ≡ shared_type (types_of list.over c.args.name list.declarations)) c.self.view_is (sym kept.shared)

pub returns-in-Some-clause-known : goal.returns-in-Some-clause-known
returns-in-Some-clause-known c =
    let over = c.self.inside.trace.over in
    let one = c.in-Some.declarations.now in
    let ids =
    index-ids over over (Extends-itself over) c.self.inside.trace.declarations (get same_key c.self.inside.kept) c.self.invariant c.args.name one (sym c.in-Some.ensures.value)
    in
    subst (λ (list : LinkedDeclarations). IsTypeId list.over one.shared) c.self.view_is ids.shared

pub returns-in-None-clause-shared : goal.returns-in-None-clause-shared
returns-in-None-clause-shared c =
    let over = c.self.inside.trace.over in
    let empty =
    index-empty over over (Extends-itself over) c.self.inside.trace.declarations (get same_key c.self.inside.kept) c.self.invariant c.args.name (sym c.in-None.ensures.value)
    in
    subst (λ (list : LinkedDeclarations). None ≡ shared_type (types_of list.over c.args.name list.declarations)) c.self.view_is (sym (ap shared_type empty))
