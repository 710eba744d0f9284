-- The array joins with the other element.
use Rattle.std.proofs.Common.{◌≡◌, ℕ, Some, ap, ◌∙◌}
use Rattle.c_types.specs.declared.form.Form.{Form}
use Rattle.c_types.specs.declared.form.Shape.{Shape}
use Rattle.c_types.specs.Forms.{with_element}
use Rattle.c_types.specs.Rows.{Row}
use Rattle.c_types.proofs.LevelLemmas.{replaced-may, replaced-type}
use Rattle.c_types.proofs.rows.Rows.replace_element.Goals as goal

abbrev replaced : Row → Form → Shape
replaced row form = record row.0 { form = form }

is : (row : Row) (form : Form) (element : ℕ) → form ≡ with_element row.0.form element → replaced row form ≡ replaced row (with_element row.0.form element)
is row form element same = ap (replaced row) same

pub add-requires-clause-may : goal.add-requires-clause-may
add-requires-clause-may c =
    replaced-may c.args.self.now.rows.entries c.requires.rows c.args.array c.row.result c.row.ensures c.args.element c.requires.element (replaced c.row.result c.with_element.result)
    (is c.row.result c.with_element.result c.args.element c.with_element.ensures)

pub returns-clause-stands : goal.returns-clause-stands
returns-clause-stands c =
    c.add.ensures.stands
    ∙ ap Some (replaced-type c.args.self.now.rows.entries c.requires.rows c.args.array c.row.result c.row.ensures c.args.element c.requires.element (replaced c.row.result c.with_element.result)
    (is c.row.result c.with_element.result c.args.element c.with_element.ensures))
