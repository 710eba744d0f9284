-- The first declaration alone.
use Rattle.std.proofs.Common.{[], ◌∷◌, refl, sym, ap, ◌∙◌, subst}
use Rattle.linked_names.specs.Contexts.{AreCarriedIds, IsCarried, carriers_with, declaration_of, no_carriers}
use Rattle.linked_names.specs.declared.carriers.Carriers.{Carriers}
use Rattle.linked_names.proofs.CarriedLemmas.{alone-carried, joined-known}
use Rattle.linked_names.proofs.GrowthLemmas.{id-later}
use Rattle.linked_names.proofs.carried.Carried.first.Goals as goal

pub returns-clause-kept : goal.returns-clause-kept
returns-clause-kept c =
    let types = c.joined.new.types in
    subst (λ (carriers : Carriers). IsCarried types (declaration_of types c.args.of c.args.contexts ∷ []) (record { declarations = c.in_ok-declarations.declarations; carriers = carriers }))
    (sym (c.with-carriers.ensures ∙ ap (λ none. carriers_with none (record { place = 0; of = c.args.of }) c.args.contexts) c.new.ensures))
    (alone-carried types c.args.of c.args.contexts c.in_ok-declarations.declarations (c.in_ok-declarations.ensures.kept [] refl))

pub returns-clause-ids : goal.returns-clause-ids
returns-clause-ids c =
    let types = c.joined.new.types in
    subst (λ (carriers : Carriers). AreCarriedIds types (record { declarations = c.in_ok-declarations.declarations; carriers = carriers }))
    (sym (c.with-carriers.ensures ∙ ap (λ none. carriers_with none (record { place = 0; of = c.args.of }) c.args.contexts) c.new.ensures))
    (joined-known types c.in_ok-declarations.declarations c.in_ok-declarations.ensures.ids no_carriers tt tt (record { place = 0; of = c.args.of })
    (id-later c.args.types.now types c.in_ok-declarations.ensures.keeps c.args.of c.requires) c.args.contexts)
