-- The first carrier of the name has them.
use Rattle.std.proofs.Common.{option_map, sym, ap, ◌∙◌}
use Rattle.meaning_typing.specs.ContextSums.{first_contexts}
use Rattle.indexmap.specs.IndexMap.{get}
use Rattle.linked_names.specs.Contexts.{CarriedDeclarations, declarations_of, sums_of}
use Rattle.linked_names.specs.Kept.{same_key}
use Rattle.linked_names.specs.declared.carriers.Carrier.{Carrier}
use Rattle.linked_names.proofs.GrowthLemmas.{Extends-itself}
use Rattle.linked_names.proofs.CarriedIndexLemmas.{carried_index-empty, carried_index-kept}
use Rattle.linked_names.proofs.linked_contexts.LinkedContexts.contexts_of.Goals as goal

pub returns-in-Some-first : goal.returns-in-Some-first
returns-in-Some-first c =
    let over = c.self.inside.trace.over in
    let kept =
    carried_index-kept over over (Extends-itself over) c.self.inside.trace.declarations (get same_key c.self.inside.kept) c.self.invariant.index c.args.name
    c.in-Some.carried.now (sym c.in-Some.ensures.value)
    in
    ap (option_map (λ (carrier : Carrier). sums_of carrier.sums)) (sym c.in-Some-first.is)
    ∙ kept.carriers.sums
    ∙ ap (λ (list : CarriedDeclarations). first_contexts (declarations_of list.over c.args.name list.declarations)) c.self.view_is

pub returns-in-None-first : goal.returns-in-None-first
returns-in-None-first c =
    let over = c.self.inside.trace.over in
    let kept =
    carried_index-kept over over (Extends-itself over) c.self.inside.trace.declarations (get same_key c.self.inside.kept) c.self.invariant.index c.args.name
    c.in-Some.carried.now (sym c.in-Some.ensures.value)
    in
    ap (option_map (λ (carrier : Carrier). sums_of carrier.sums)) (sym c.in-None-first.is)
    ∙ kept.carriers.sums
    ∙ ap (λ (list : CarriedDeclarations). first_contexts (declarations_of list.over c.args.name list.declarations)) c.self.view_is

pub returns-in-None : goal.returns-in-None
returns-in-None c =
    let over = c.self.inside.trace.over in
    let empty =
    carried_index-empty over over (Extends-itself over) c.self.inside.trace.declarations (get same_key c.self.inside.kept) c.self.invariant.index c.args.name (sym c.in-None.ensures.value)
    in
    sym (ap first_contexts empty)
    ∙ ap (λ (list : CarriedDeclarations). first_contexts (declarations_of list.over c.args.name list.declarations)) c.self.view_is
