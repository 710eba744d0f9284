-- The body that is found is one of those that are kept.
use Rattle.std.proofs.Common.{IfSome, subst}
use Rattle.c_types.specs.Rows.{types_of}
use Rattle.c_types.specs.Table.{IsBodyOver, types_in}
use Rattle.c_types.proofs.TableLemmas.{body-found, IfSome_shown}
use Rattle.c_types.proofs.table.Types.body.Goals as goal

pub returns-clause-known : goal.returns-clause-known
returns-clause-known c =
    subst (λ table. IfSome c.get.result (λ body. IsBodyOver (types_in table) body.now)) c.self.view_is
    (IfSome_shown (λ body. body.now) (IsBodyOver (types_of c.self.inside.maker.rows.rows.entries)) c.get.result _ c.get.ensures.value
    (λ body found. body-found c.self.inside.maker.rows.rows.entries c.args.aggregate body c.self.inside.bodies.entries c.self.invariant.bodies_known found))
