-- One declaration more.
use Rattle.std.proofs.Common.{IfSome, sym, ◌∙◌, subst}
use Rattle.c_types.specs.Table.{Extends}
use Rattle.indexmap.specs.IndexMap.{get}
use Rattle.linked_names.specs.Linked.{LinkedDeclarations}
use Rattle.linked_names.specs.Kept.{AreIds, AreKept, IsIndex, same_key}
use Rattle.linked_names.specs.declared.trace.LinkedTrace.{LinkedTrace}
use Rattle.linked_names.proofs.GrowthLemmas.{Extends-itself}
use Rattle.linked_names.proofs.KeptLemmas.{found_ids-later}
use Rattle.linked_names.proofs.IndexLemmas.{index-more}
use Rattle.linked_names.proofs.linked_names.LinkedNames.declare.Goals as goal

pub joined-requires-clause-ids : goal.joined-requires-clause-ids
joined-requires-clause-ids c =
    let types = c.args.types.now in
    let extends = subst (λ (list : LinkedDeclarations). Extends list.over types) (sym c.self.view_is) c.requires.over in
    subst (λ found. IfSome found (AreIds types)) (sym (c.copied-found.ensures ∙ c.get.ensures.value))
    (found_ids-later c.self.inside.trace.over types extends (get same_key c.self.inside.kept c.args.name) (c.self.invariant.ids c.args.name))

pub invariant_of-self-2 : goal.invariant_of-self-2
invariant_of-self-2 c =
    let types = c.args.types.now in
    let extends = subst (λ (list : LinkedDeclarations). Extends list.over types) (sym c.self.view_is) c.requires.over in
    subst (λ (trace : LinkedTrace). IsIndex trace.over trace.declarations (get same_key c.insert.new.self)) (sym c.then-self-inside.ensures)
    (index-more c.self.inside.trace.over types c.joined.new.types c.self.inside.trace.declarations (get same_key c.self.inside.kept) (get same_key c.insert.new.self) c.self.invariant extends
    c.in_ok-declarations.ensures.keeps c.args.name c.args.of c.requires.known c.in_ok-declarations.declarations c.in_ok-declarations.ensures.ids
    (λ trees are. c.in_ok-declarations.ensures.kept trees (subst (AreKept types trees) (sym (c.copied-found.ensures ∙ c.get.ensures.value)) are))
    c.in_ok-insert.ensures.updates.0)

pub returns-clause-extends : goal.returns-clause-extends
returns-clause-extends c =
    subst (λ (trace : LinkedTrace). Extends trace.over c.joined.new.types) (sym c.then-self-inside.ensures) (Extends-itself c.joined.new.types)
