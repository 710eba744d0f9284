use Rattle.std.proofs.Common.{sym, subst}
use Rattle.c_types.specs.Table.{IsBodyOver, types_in}
use Rattle.c_types.proofs.table.Types.body_extent.Goals as goal

pub lay_out-requires-clause-known : goal.lay_out-requires-clause-known
lay_out-requires-clause-known c = subst (λ table. IsBodyOver (types_in table) c.args.body.now) (sym c.self.view_is) c.requires
