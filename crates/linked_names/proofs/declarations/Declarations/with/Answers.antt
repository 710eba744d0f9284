-- One declaration more.
use Rattle.std.proofs.Common.{[], ◌∷◌, ◌++◌, sym, subst}
use Rattle.c_types.specs.Table.{type_at}
use Rattle.linked_names.specs.Kept.{AreDeclarations, AreIds}
use Rattle.linked_names.specs.declared.declarations.Declarations.{Declarations}
use Rattle.linked_names.proofs.DeclarationLemmas.{more-kept, more-known}
use Rattle.linked_names.proofs.declarations.Declarations.with.Goals as goal

pub returns-clause-kept : goal.returns-clause-kept
returns-clause-kept c = λ trees are.
    let new = c.composite.new.self in
    subst (λ (more : Declarations). AreDeclarations new (trees ++ type_at new c.args.of ∷ []) more)
    (sym (λ i. record { shared = c.unwrap_or.ensures i; witnesses = c.in_ok-witnesses.ensures i }))
    (more-kept c.args.types.now new c.in_ok-shared.ensures.keeps c.args.self c.requires.ids c.args.of c.requires.known c.in_ok-shared.shared c.in_ok-shared.ensures.composite trees are)

pub returns-clause-ids : goal.returns-clause-ids
returns-clause-ids c =
    subst (AreIds c.composite.new.self) (sym (λ i. record { shared = c.unwrap_or.ensures i; witnesses = c.in_ok-witnesses.ensures i }))
    (more-known c.args.types.now c.composite.new.self c.in_ok-shared.ensures.keeps c.args.self c.requires.ids c.args.of c.requires.known c.in_ok-shared.shared c.in_ok-shared.ensures.known)
