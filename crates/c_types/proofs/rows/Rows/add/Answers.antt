-- The shape joins behind what is left of it.
use Rattle.std.proofs.Common.{Some, ap, ◌∙◌}
use Rattle.c_types.proofs.Joins.{plain-later, whole-right}
use Rattle.c_types.proofs.RowLemmas.{MayJoin-Grows, Grows-refl, Grows-Grows, seen-Grows}
use Rattle.c_types.proofs.rows.Rows.add.Goals as goal

pub add_bare-bare-requires-clause-may : goal.add_bare-bare-requires-clause-may
add_bare-bare-requires-clause-may c =
    MayJoin-Grows c.args.self.now.rows.entries c.add_plain-plain.new.self.rows.entries c.add_plain-plain.ensures.grows c.args.shape c.requires.may

pub add_bare-bare-requires-clause-plain : goal.add_bare-bare-requires-clause-plain
add_bare-bare-requires-clause-plain c =
    let mid = c.add_plain-plain.new.self.rows.entries in
    plain-later c.args.self.now.rows.entries mid mid c.add_plain-plain.ensures.grows (Grows-refl mid) c.args.shape c.requires.may 0 c.add_plain-plain.result
    c.add_plain-plain.ensures.stands

pub join-requires-clause-may : goal.join-requires-clause-may
join-requires-clause-may c =
    MayJoin-Grows c.add_plain-plain.new.self.rows.entries c.add_bare-bare.new.self.rows.entries c.add_bare-bare.ensures.grows c.args.shape
    (MayJoin-Grows c.args.self.now.rows.entries c.add_plain-plain.new.self.rows.entries c.add_plain-plain.ensures.grows c.args.shape c.requires.may)

pub join-requires-clause-right : goal.join-requires-clause-right
join-requires-clause-right c =
    whole-right c.args.self.now.rows.entries c.add_plain-plain.new.self.rows.entries c.add_bare-bare.new.self.rows.entries
    c.add_plain-plain.ensures.grows c.add_bare-bare.ensures.grows c.args.shape c.requires.may c.add_bare-bare.result c.add_plain-plain.result
    c.add_plain-plain.ensures.stands c.add_bare-bare.ensures.stands

pub returns-clause-stands : goal.returns-clause-stands
returns-clause-stands c =
    let both = Grows-Grows c.args.self.now.rows.entries c.add_plain-plain.new.self.rows.entries c.add_bare-bare.new.self.rows.entries
    c.add_plain-plain.ensures.grows c.add_bare-bare.ensures.grows
    in
    c.join.ensures.stands ∙ ap Some (seen-Grows c.args.self.now.rows.entries c.add_bare-bare.new.self.rows.entries both c.args.shape c.requires.may.inside)
