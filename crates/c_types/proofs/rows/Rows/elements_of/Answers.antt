-- What an array is made of.
use Rattle.std.proofs.Common.{◌<◌, length, sym, ap, ◌∙◌, subst, arith}
use Rattle.c_types.specs.Elements.{AreElements, integer_innermost, once_of}
use Rattle.c_types.specs.Rows.{IsInside, form_seen, type_numbered, types_of}
use Rattle.meaning_types.specs.Types.{IntegerTree}
use Rattle.c_types.proofs.ElementLemmas.{array-elements, elements-told, integer-bytes, one-elements}
use Rattle.c_types.proofs.RowLemmas.{length-types_of}
use Rattle.c_types.proofs.rows.Rows.elements_of.Goals as goal

pub row-requires : goal.row-requires
row-requires c =
    let types = types_of c.args.self.now.rows.entries in
    let inside : c.in-Array.element < length types = subst (IsInside types) c.in-Array.is c.requires.inside in
    omega (arith, inside, length-types_of c.args.self.now.rows.entries)

pub returns-in-Array : goal.returns-in-Array
returns-in-Array c =
    let rows = c.args.self.now.rows.entries in
    subst (λ form. AreElements (form_seen (types_of rows) form) c.times.result) (sym c.in-Array.is)
    (array-elements (type_numbered (types_of rows) c.in-Array.element) c.in-Array.count c.row.result.1.elements c.times.result
    (elements-told rows c.requires.rows c.in-Array.element c.row.result c.row.ensures) c.times.ensures.repeats c.times.ensures.single c.times.ensures.narrow)

pub times-requires : goal.times-requires
times-requires c = (elements-told c.args.self.now.rows.entries c.requires.rows c.in-Array.element c.row.result c.row.ensures).narrow

pub returns-in-Integer : goal.returns-in-Integer
returns-in-Integer c =
    subst (λ form. AreElements (form_seen (types_of c.args.self.now.rows.entries) form) c.one.result) (sym c.in-Integer.is)
    (one-elements (IntegerTree c.in-Integer.kind) c.one.result (integer_innermost c.in-Integer.kind) 0 (λ told. integer-bytes told c.in-Integer.kind)
    (c.one.ensures ∙ ap (λ of. once_of of 0) c.integer.ensures))
