-- The first declaration alone.
use Rattle.std.proofs.Common.{[], ◌∷◌, sym, ap, ◌∙◌, subst}
use Rattle.c_types.specs.Table.{type_at}
use Rattle.linked_names.specs.Kept.{AreDeclarations, AreIds}
use Rattle.linked_names.specs.Witnesses.{witnesses_with}
use Rattle.linked_names.specs.declared.witnesses.Witnesses.{Witnesses}
use Rattle.linked_names.proofs.DeclarationLemmas.{alone-kept, alone-known}
use Rattle.linked_names.proofs.declarations.Declarations.first.Goals as goal

pub returns-clause-kept : goal.returns-clause-kept
returns-clause-kept c =
    let types = c.args.types.now in
    subst (λ (witnesses : Witnesses). AreDeclarations types (type_at types c.args.of ∷ []) (record { shared = c.args.of; witnesses = witnesses }))
    (sym (c.in_ok-witnesses.ensures ∙ ap (λ before. witnesses_with types before c.args.of) c.new.ensures)) (alone-kept types c.args.of)

pub returns-clause-ids : goal.returns-clause-ids
returns-clause-ids c =
    let types = c.args.types.now in
    subst (λ (witnesses : Witnesses). AreIds types (record { shared = c.args.of; witnesses = witnesses }))
    (sym (c.in_ok-witnesses.ensures ∙ ap (λ before. witnesses_with types before c.args.of) c.new.ensures)) (alone-known types c.args.of c.requires)
