-- One declaration more.
use Rattle.std.proofs.Common.{[], ◌∷◌, ◌++◌, sym, subst}
use Rattle.linked_names.specs.Contexts.{AreCarriedIds, IsCarried, declaration_of}
use Rattle.linked_names.specs.declared.carriers.Carriers.{Carriers}
use Rattle.linked_names.proofs.CarriedLemmas.{carried_ids-later, joined-known, more-carried}
use Rattle.linked_names.proofs.GrowthLemmas.{id-later}
use Rattle.linked_names.proofs.carried.Carried.with.Goals as goal

pub returns-clause-kept : goal.returns-clause-kept
returns-clause-kept c = λ list is.
    let types = c.joined.new.types in
    subst (λ (carriers : Carriers). IsCarried types (list ++ declaration_of types c.args.of c.args.contexts ∷ []) (record { declarations = c.in_ok-declarations.declarations; carriers = carriers }))
    (sym c.with-carriers.ensures)
    (more-carried c.args.types.now types c.in_ok-declarations.ensures.keeps c.args.self c.requires.ids c.args.of c.args.contexts c.in_ok-declarations.declarations
    c.in_ok-declarations.ensures.kept list is)

pub returns-clause-ids : goal.returns-clause-ids
returns-clause-ids c =
    let old = c.args.types.now in
    let types = c.joined.new.types in
    let later = carried_ids-later old types c.in_ok-declarations.ensures.keeps c.args.self c.requires.ids in
    subst (λ (carriers : Carriers). AreCarriedIds types (record { declarations = c.in_ok-declarations.declarations; carriers = carriers })) (sym c.with-carriers.ensures)
    (joined-known types c.in_ok-declarations.declarations c.in_ok-declarations.ensures.ids c.args.self.carriers later.first later.second
    (record { place = c.args.self.declarations.witnesses.count; of = c.args.of }) (id-later old types c.in_ok-declarations.ensures.keeps c.args.of c.requires.known) c.args.contexts)
