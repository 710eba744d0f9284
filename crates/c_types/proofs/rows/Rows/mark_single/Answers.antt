-- What is no array has all of it, and a function nothing.
use Rattle.std.proofs.Common.{refl, sym, ap, ◌∙◌, Some}
use Rattle.c_types.specs.Forms.{element_in}
use Rattle.std.proofs.lemmas.Option.{same_Some}
use Rattle.c_types.proofs.LevelLemmas.{single-may, single-type, function-stays}
use Rattle.c_types.proofs.rows.Rows.mark_single.Goals as goal

pub add-requires-clause-may : goal.add-requires-clause-may
add-requires-clause-may c =
    single-may c.args.self.now.rows.entries c.requires.rows c.args.number c.row.result c.row.ensures c.args.marks (record { form = c.row.result.0.form; marks = c.and.result })
    refl c.and.ensures.is_const c.and.ensures.is_volatile c.and.ensures.noderef c.and.ensures.space
    (sym c.may_be_marked.ensures ∙ c.if-may_be_marked.true)

pub returns-then-may_be_marked-clause-stands : goal.returns-then-may_be_marked-clause-stands
returns-then-may_be_marked-clause-stands c =
    c.add.ensures.stands
    ∙ ap Some (single-type c.args.self.now.rows.entries c.requires.rows c.args.number c.row.result c.row.ensures c.args.marks (record { form = c.row.result.0.form; marks = c.and.result })
    refl c.and.ensures.is_const c.and.ensures.is_volatile c.and.ensures.noderef c.and.ensures.space
    (sym c.may_be_marked.ensures ∙ c.if-may_be_marked.true))

pub returns-else-may_be_marked-clause-stands : goal.returns-else-may_be_marked-clause-stands
returns-else-may_be_marked-clause-stands c =
    let row = same_Some _ _ (sym c.row.ensures ∙ c.requires.single.1) in
    function-stays c.args.self.now.rows.entries c.requires.rows c.args.number c.row.result c.row.ensures c.args.marks
    (ap (λ r. element_in r.0.form) row ∙ c.requires.single.2) (sym c.may_be_marked.ensures ∙ c.if-may_be_marked.false)
