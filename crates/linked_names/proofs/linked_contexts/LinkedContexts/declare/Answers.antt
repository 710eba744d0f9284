-- One declaration more.
use Rattle.std.proofs.Common.{IfSome, rules, sym, ap, ◌∙◌, subst}
use Rattle.c_types.specs.Table.{Extends}
use Rattle.indexmap.specs.IndexMap.{get}
use Rattle.linked_names.specs.Contexts.{AreCarriedIds, AreCarriedKept, CarriedDeclarations, IsCarriedIndex, IsKeptOfAll, count_of}
use Rattle.linked_names.specs.Kept.{same_key}
use Rattle.linked_names.specs.Typedefs.{same_scoped}
use Rattle.linked_names.specs.declared.trace.DeclaredTrace.{DeclaredTrace}
use Rattle.linked_names.proofs.GrowthLemmas.{Extends-itself}
use Rattle.linked_names.proofs.CarriedLemmas.{found_carried-later}
use Rattle.linked_names.proofs.CarriedIndexLemmas.{carried_index-more}
use Rattle.linked_names.proofs.NodeLemmas.{nodes-kept, nodes-more, nodes-stay}
use Rattle.linked_names.proofs.linked_contexts.LinkedContexts.declare.Goals as goal

pub joined-requires-clause-ids : goal.joined-requires-clause-ids
joined-requires-clause-ids c =
    let types = c.args.types.now in
    let extends = subst (λ (list : CarriedDeclarations). Extends list.over types) (sym c.self.view_is) c.requires.over in
    subst (λ found. IfSome found (AreCarriedIds types)) (sym (c.copied-found.ensures ∙ c.get.ensures.value))
    (found_carried-later c.self.inside.trace.over types extends (get same_key c.self.inside.kept c.args.name) (c.self.invariant.index.ids c.args.name))

-- a node that is kept past the end doesn't matter
pub invariant_of-self-in_err-carried : goal.invariant_of-self-in_err-carried
invariant_of-self-in_err-carried c =
    let over = c.self.inside.trace.over in
    let declarations = c.self.inside.trace.declarations in
    let found = get same_key c.self.inside.kept in
    let before = c.copied-found.ensures ∙ c.get.ensures.value in
    record {
      index = c.self.invariant.index;
      nodes =
          nodes-stay declarations (record { node = c.args.node; name = c.args.name; of = c.args.of; contexts = c.args.contexts }) (get same_scoped c.self.inside.nodes)
          (get same_scoped c.insert.new.self) c.self.invariant.nodes c.count.result
          (c.count.ensures ∙ ap count_of before ∙ nodes-kept over c.args.name declarations (found c.args.name) (c.self.invariant.index.kept c.args.name)) c.in_ok-insert.ensures.updates.0;
    }

pub invariant_of-self-in_err-insert-2 : goal.invariant_of-self-in_err-insert-2
invariant_of-self-in_err-insert-2 c =
    let over = c.self.inside.trace.over in
    let declarations = c.self.inside.trace.declarations in
    let found = get same_key c.self.inside.kept in
    let before = c.copied-found.ensures ∙ c.get.ensures.value in
    let index : IsCarriedIndex over declarations (get same_key c.insert-2.new.self) = search rules in
    record {
      index = index;
      nodes =
          nodes-stay declarations (record { node = c.args.node; name = c.args.name; of = c.args.of; contexts = c.args.contexts }) (get same_scoped c.self.inside.nodes)
          (get same_scoped c.insert.new.self) c.self.invariant.nodes c.count.result
          (c.count.ensures ∙ ap count_of before ∙ nodes-kept over c.args.name declarations (found c.args.name) (c.self.invariant.index.kept c.args.name)) c.in_ok-insert.ensures.updates.0;
    }

pub invariant_of-self-2 : goal.invariant_of-self-2
invariant_of-self-2 c =
    let types = c.args.types.now in
    let over = c.self.inside.trace.over in
    let declarations = c.self.inside.trace.declarations in
    let found = get same_key c.self.inside.kept in
    let before = c.copied-found.ensures ∙ c.get.ensures.value in
    let extends = subst (λ (list : CarriedDeclarations). Extends list.over types) (sym c.self.view_is) c.requires.over in
    subst (λ (trace : DeclaredTrace). IsKeptOfAll trace.over trace.declarations (get same_key c.insert-2.new.self) (get same_scoped c.insert.new.self)) (sym c.then-self-inside.ensures)
    (record {
      index =
          carried_index-more over types c.joined.new.types declarations found (get same_key c.insert-2.new.self) c.self.invariant.index extends
          c.in_ok-carried.ensures.keeps c.args.node c.args.name c.args.of c.args.contexts c.requires.known c.in_ok-carried.carried c.in_ok-carried.ensures.ids
          (λ list is. c.in_ok-carried.ensures.kept list (subst (AreCarriedKept types list) (sym before) is)) c.in_ok-insert-2.ensures.updates.0;
      nodes =
          nodes-more declarations (record { node = c.args.node; name = c.args.name; of = c.args.of; contexts = c.args.contexts }) (get same_scoped c.self.inside.nodes)
          (get same_scoped c.insert.new.self) c.self.invariant.nodes c.count.result
          (c.count.ensures ∙ ap count_of before ∙ nodes-kept over c.args.name declarations (found c.args.name) (c.self.invariant.index.kept c.args.name)) c.in_ok-insert.ensures.updates.0;
    })

pub returns-clause-extends : goal.returns-clause-extends
returns-clause-extends c =
    subst (λ (trace : DeclaredTrace). Extends trace.over c.joined.new.types) (sym c.then-self-inside.ensures) (Extends-itself c.joined.new.types)
