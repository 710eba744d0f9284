-- The form joins with its marks.
use Rattle.std.proofs.Common.{◌≡◌, Some, IfOk, slice_get, refl, subst}
use Rattle.c_types.specs.Rows.{types_of}
use Rattle.c_types.proofs.Singles.{marked_shape, marked-may, marked-type}
use Rattle.c_types.proofs.rows.Rows.make_marked.Goals as goal

pub make-requires-clause-may : goal.make-requires-clause-may
make-requires-clause-may c =
    marked-may c.args.self.now.rows.entries c.requires.rows c.args.form c.args.marks (marked_shape c.args.form c.args.marks) refl c.requires.inside c.requires.markable

pub returns-clause-stands : goal.returns-clause-stands
returns-clause-stands c =
    subst (λ type_. IfOk c.make.result (λ number. slice_get (types_of c.make.new.self.rows.entries) number ≡ Some type_))
    (marked-type (types_of c.args.self.now.rows.entries) c.args.form c.args.marks (marked_shape c.args.form c.args.marks) refl c.requires.markable)
    c.make.ensures.stands
