-- What is kept of the name tells how many stand before it, and by that its node is kept.
use Rattle.std.proofs.Common.{◌≡◌, ℕ, ◌+◌, Option, None, sym, ap, ◌∙◌, subst, arith}
use Rattle.std.specs.Option.{option_and_then}
use Rattle.meaning_typing.specs.ContextSums.{first_differing}
use Rattle.c_types.specs.Table.{Extends}
use Rattle.indexmap.specs.IndexMap.{get}
use Rattle.linked_names.specs.Contexts.{CarriedDeclarations, declaration_of, declarations_of, nodes_declaring}
use Rattle.linked_names.specs.Kept.{same_key}
use Rattle.linked_names.specs.Typedefs.{same_scoped}
use Rattle.linked_names.proofs.CarriedIndexLemmas.{carried_index-empty, carried_index-ids, carried_index-kept}
use Rattle.linked_names.proofs.CarriedLemmas.{carried-told}
use Rattle.linked_names.proofs.NodeLemmas.{node-told, none-differs}
use Rattle.linked_names.proofs.linked_contexts.LinkedContexts.first_differing.Goals as goal

pub first_differing-place-requires-clause-ids : goal.first_differing-place-requires-clause-ids
first_differing-place-requires-clause-ids c =
    let extends = subst (λ (list : CarriedDeclarations). Extends list.over c.args.types.now) (sym c.self.view_is) c.requires.over in
    carried_index-ids c.self.inside.trace.over c.args.types.now extends c.self.inside.trace.declarations (get same_key c.self.inside.kept) c.self.invariant.index c.args.name
    c.in-Some.carried.now (sym c.in-Some.ensures.value)

pub returns-in-Some : goal.returns-in-Some
returns-in-Some c =
    let types = c.args.types.now in
    let name = c.args.name in
    let one = c.in-Some.carried.now in
    let declarations = c.self.inside.trace.declarations in
    let declaration = declaration_of types c.args.of c.args.contexts in
    let found : ℕ → Option ℕ = λ place. get same_scoped c.self.inside.nodes (place, name) in
    let extends = subst (λ (list : CarriedDeclarations). Extends list.over types) (sym c.self.view_is) c.requires.over in
    let kept = carried_index-kept c.self.inside.trace.over types extends declarations (get same_key c.self.inside.kept) c.self.invariant.index name one (sym c.in-Some.ensures.value) in
    c.node_at.ensures
    ∙ ap (option_and_then found) (c.first_differing-place.ensures ∙ carried-told types (declarations_of types name declarations) one kept c.args.of c.args.contexts)
    ∙ node-told types name declaration found 0 declarations
    (λ further node is.
    let start : 0 + further ≡ further = omega arith in
    ap found start ∙ c.self.invariant.nodes name further node is)
    ∙ ap (λ (list : CarriedDeclarations). first_differing declaration (nodes_declaring name list.declarations) (declarations_of types name list.declarations)) c.self.view_is

pub returns-in-None : goal.returns-in-None
returns-in-None c =
    let types = c.args.types.now in
    let name = c.args.name in
    let declarations = c.self.inside.trace.declarations in
    let declaration = declaration_of types c.args.of c.args.contexts in
    let extends = subst (λ (list : CarriedDeclarations). Extends list.over types) (sym c.self.view_is) c.requires.over in
    let empty =
    carried_index-empty c.self.inside.trace.over types extends declarations (get same_key c.self.inside.kept) c.self.invariant.index name (sym c.in-None.ensures.value)
    in
    sym (none-differs declaration (nodes_declaring name declarations))
    ∙ ap (first_differing declaration (nodes_declaring name declarations)) (sym empty)
    ∙ ap (λ (list : CarriedDeclarations). first_differing declaration (nodes_declaring name list.declarations) (declarations_of types name list.declarations)) c.self.view_is
