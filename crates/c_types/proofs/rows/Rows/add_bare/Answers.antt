-- What is left of the shape joins, with itself as what is left of it without const and volatile.
use Rattle.std.proofs.Common.{◌≡◌}
use Rattle.meaning_types.specs.Types.{Typed, bare}
use Rattle.c_types.specs.declared.form.Shape.{Shape}
use Rattle.c_types.specs.Rows.{type_seen, types_of}
use Rattle.c_types.proofs.Joins.{bare-may, bare-right}
use Rattle.c_types.proofs.rows.Rows.add_bare.Goals as goal

abbrev left : goal.After-join-arg-1 → Shape
left c = record { form = c.bare_form.result; marks = c.unqualified.result }

seen : (c : goal.After-join-arg-1)
    → type_seen (types_of c.args.self.now.rows.entries) (left c) ≡ bare (type_seen (types_of c.args.self.now.rows.entries) c.args.shape)
seen c = λ i. Typed (c.bare_form.ensures.bare i) (c.unqualified.ensures.qualifiers i) (c.unqualified.ensures.flags i)

pub join-requires-clause-may : goal.join-requires-clause-may
join-requires-clause-may c =
    bare-may c.args.self.now.rows.entries c.args.shape (left c) c.len-own.result c.len-own.ensures.count c.requires.may (seen c) c.bare_form.ensures.inside
    c.args.plain c.requires.plain

pub join-requires-clause-right : goal.join-requires-clause-right
join-requires-clause-right c =
    bare-right c.args.self.now.rows.entries c.args.shape (left c) c.len-own.result c.len-own.ensures.count c.requires.may (seen c) c.bare_form.ensures.inside
    c.args.plain c.requires.plain
