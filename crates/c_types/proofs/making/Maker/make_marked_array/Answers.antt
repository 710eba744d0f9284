-- The marked element is remembered, and the array of it joins.
use Rattle.std.proofs.Common.{sym, ap, subst, arith}
use Rattle.std.proofs.lemmas.Option.{slice_get_within}
use Rattle.c_types.specs.Rows.{MayJoin, types_of}
use Rattle.c_types.specs.Levels.{AreMarkings}
use Rattle.c_types.proofs.MarkingLemmas.{AreMarkings-Grows, marked-after}
use Rattle.c_types.proofs.RowLemmas.{length-types_of}
use Rattle.c_types.proofs.Singles.{array-may}
use Rattle.c_types.proofs.making.Maker.make_marked_array.Goals as goal

pub levels-requires-clause-known : goal.levels-requires-clause-known
levels-requires-clause-known c = omega (arith, c.requires.element, length-types_of c.args.self.now.rows.rows.entries)

pub remember-requires-clause-markings : goal.remember-requires-clause-markings
remember-requires-clause-markings c =
    AreMarkings-Grows c.reserve.new.self.rows.entries c.mark_levels-marked.new.self.rows.entries c.mark_levels-marked.ensures.grows c.args.self.now.markings.entries
    (subst (λ rows. AreMarkings rows c.args.self.now.markings.entries) (sym c.reserve.ensures.same) c.requires.markings)

pub remember-requires-clause-marked : goal.remember-requires-clause-marked
remember-requires-clause-marked c =
    marked-after c.args.self.now.rows.rows.entries c.reserve.new.self.rows.entries c.mark_levels-marked.new.self.rows.entries c.reserve.ensures.same c.mark_levels-marked.ensures.grows
    c.args.element c.in_ok-levels.levels.whole c.mark_levels-marked.result c.args.marks c.in_ok-levels.ensures.whole c.requires.element c.mark_levels-marked.ensures.stands

pub add-requires-clause-may : goal.add-requires-clause-may
add-requires-clause-may c =
    let rows = c.mark_levels-marked.new.self.rows.entries in
    subst (λ after. MayJoin after c.unmarked.result) (sym (ap (λ r. r.rows.entries) c.remember.ensures.same))
    (array-may rows c.mark_levels-marked.ensures.rows c.mark_levels-marked.result c.args.count c.array_of.result c.unmarked.result c.array_of.ensures c.unmarked.ensures
    (slice_get_within (types_of rows) c.mark_levels-marked.result _ c.mark_levels-marked.ensures.stands))

pub returns-clause-markings : goal.returns-clause-markings
returns-clause-markings c =
    AreMarkings-Grows c.remember.new.self.rows.rows.entries c.add.new.self.rows.entries c.add.ensures.grows c.remember.new.self.markings.entries
    (subst (λ rows. AreMarkings rows c.remember.new.self.markings.entries) (sym (ap (λ r. r.rows.entries) c.remember.ensures.same)) c.remember.ensures.markings)
