-- What is left of the shape joins, with itself as what is left of it.
use Rattle.std.proofs.Common.{◌≡◌, sym, ap, ◌∙◌, subst}
use Rattle.meaning_types.specs.Types.{Typed, no_qualifiers, no_flags, bare, without_flags}
use Rattle.c_types.specs.Rows.{IsInside, type_seen, types_of}
use Rattle.c_types.proofs.Joins.{plain-may, plain-right}
use Rattle.c_types.proofs.rows.Rows.add_plain.Goals as goal

seen : (c : goal.After-join-arg-1)
    → type_seen (types_of c.args.self.now.rows.entries) c.unmarked-plain.result ≡ without_flags (bare (type_seen (types_of c.args.self.now.rows.entries) c.args.shape))
seen c =
    ap (type_seen (types_of c.args.self.now.rows.entries)) c.unmarked-plain.ensures
    ∙ ap (λ base. Typed base no_qualifiers no_flags) c.plain_form.ensures.plain

inside : (c : goal.After-join-arg-1) → IsInside (types_of c.args.self.now.rows.entries) c.unmarked-plain.result.form
inside c = subst (λ shape. IsInside (types_of c.args.self.now.rows.entries) shape.form) (sym c.unmarked-plain.ensures) c.plain_form.ensures.inside

pub join-requires-clause-may : goal.join-requires-clause-may
join-requires-clause-may c =
    plain-may c.args.self.now.rows.entries c.args.shape c.unmarked-plain.result c.len-own.result c.len-own.ensures.count c.requires.may (seen c) (inside c)

pub join-requires-clause-right : goal.join-requires-clause-right
join-requires-clause-right c =
    plain-right c.args.self.now.rows.entries c.args.shape c.unmarked-plain.result c.len-own.result c.len-own.ensures.count c.requires.may (seen c) (inside c)
