-- Both are arrays, or none is completed.
use Rattle.std.proofs.Common.{◌≡◌, IfOk, option_map, sym, ap, ◌∙◌, subst, arith}
use Rattle.c_types.specs.Rows.{array_if_same, type_numbered, types_of}
use Rattle.c_types.proofs.CompositeLemmas.{completed-first, completed-second, completed-both, element-known}
use Rattle.c_types.proofs.RowLemmas.{length-types_of}
use Rattle.c_types.proofs.rows.Rows.make_completed.Goals as goal

pub row-requires : goal.row-requires
row-requires c = omega (arith, c.requires.first, length-types_of c.args.self.now.rows.entries)

pub returns-in_default-clause-composite : goal.returns-in_default-clause-composite
returns-in_default-clause-composite c =
    sym (completed-first c.args.self.now.rows.entries c.requires.rows c.args.number c.row.result c.row.ensures (sym c.array.ensures ∙ c.in_default.is) _)

pub row-requires-2 : goal.row-requires-2
row-requires-2 c = omega (arith, c.requires.second, length-types_of c.args.self.now.rows.entries)

pub returns-in_default-array-clause-composite : goal.returns-in_default-array-clause-composite
returns-in_default-array-clause-composite c =
    sym (completed-second c.args.self.now.rows.entries c.requires.rows c.args.number c.args.other c.row.result c.row-2.result c.row.ensures c.row-2.ensures
    c.in-Some.element c.in-Some.own (sym c.array.ensures ∙ c.in-Some.is) (sym c.array-2.ensures ∙ c.in_default-array.is))

pub make_array_if_same-requires-clause-first : goal.make_array_if_same-requires-clause-first
make_array_if_same-requires-clause-first c =
    element-known c.args.self.now.rows.entries c.requires.rows c.args.number c.args.other c.row.result c.row-2.result c.row.ensures c.row-2.ensures
    c.in-Some.element c.in-Some.own (sym c.array.ensures ∙ c.in-Some.is)

pub make_array_if_same-requires-clause-second : goal.make_array_if_same-requires-clause-second
make_array_if_same-requires-clause-second c =
    element-known c.args.self.now.rows.entries c.requires.rows c.args.other c.args.number c.row-2.result c.row.result c.row-2.ensures c.row.ensures
    c.in-Some-array.another c.in-Some-array.length (sym c.array-2.ensures ∙ c.in-Some-array.is)

pub returns-clause-composite : goal.returns-clause-composite
returns-clause-composite c =
    let types = types_of c.args.self.now.rows.entries in
    let both = completed-both c.args.self.now.rows.entries c.requires.rows c.args.number c.args.other c.row.result c.row-2.result c.row.ensures c.row-2.ensures
    c.in-Some.element c.in-Some.own (sym c.array.ensures ∙ c.in-Some.is) c.in-Some-array.another c.in-Some-array.length (sym c.array-2.ensures ∙ c.in-Some-array.is)
    in
    subst (λ wanted. IfOk c.make_array_if_same.result (λ found. option_map (type_numbered (types_of c.make_array_if_same.new.self.rows.entries)) found ≡ wanted))
    (ap (array_if_same (type_numbered types c.in-Some.element) (type_numbered types c.in-Some-array.another)) c.only_known.ensures ∙ sym both)
    c.make_array_if_same.ensures.found
