-- The map has the first one.
use Rattle.std.proofs.Common.{IfSome, sym, ap, ◌∙◌, subst}
use Rattle.c_types.specs.Table.{IsTypeId}
use Rattle.linked_names.specs.Typedefs.{first_of}
use Rattle.linked_names.proofs.TypedefLemmas.{first-known}
use Rattle.linked_names.proofs.typedef_names.TypedefNames.first.Goals as goal

pub returns-clause-first : goal.returns-clause-first
returns-clause-first c =
    c.copied.ensures ∙ c.get.ensures.value ∙ c.self.invariant (c.args.scope, c.args.name) ∙ ap (first_of c.args.scope c.args.name) c.self.view_is

pub returns-clause-known : goal.returns-clause-known
returns-clause-known c = λ table known.
    subst (λ found. IfSome found (IsTypeId table)) (sym (returns-clause-first c)) (first-known table c.args.scope c.args.name c.args.self.now known)
