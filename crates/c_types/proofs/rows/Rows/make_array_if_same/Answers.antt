use Rattle.std.proofs.Common.{Some, refl}
use Rattle.std.proofs.lemmas.Option.{slice_get_within}
use Rattle.c_types.specs.Rows.{types_of}
use Rattle.c_types.proofs.Singles.{array-may}
use Rattle.c_types.proofs.rows.Rows.make_array_if_same.Goals as goal

pub make-requires-clause-may : goal.make-requires-clause-may
make-requires-clause-may c =
    array-may c.args.self.now.rows.entries c.requires.rows c.args.element (Some _) _ c.unmarked.result refl c.unmarked.ensures c.requires.first

pub returns-clause-known : goal.returns-clause-known
returns-clause-known c = slice_get_within (types_of c.make.new.self.rows.entries) c.in_ok-array.array _ c.in_ok-array.ensures.stands
