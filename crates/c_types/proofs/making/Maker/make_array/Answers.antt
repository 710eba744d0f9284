-- The array of a marked element joins.
use Rattle.std.proofs.lemmas.Option.{slice_get_within}
use Rattle.c_types.specs.Rows.{types_of}
use Rattle.c_types.proofs.MarkingLemmas.{AreMarkings-Grows}
use Rattle.c_types.proofs.Singles.{array-may}
use Rattle.c_types.proofs.making.Maker.make_array.Goals as goal

pub make-requires-clause-may : goal.make-requires-clause-may
make-requires-clause-may c =
    array-may c.args.self.now.rows.rows.entries c.requires.rows c.in-Some.marked c.args.count c.array_of.result c.unmarked.result c.array_of.ensures c.unmarked.ensures
    (slice_get_within (types_of c.args.self.now.rows.rows.entries) c.in-Some.marked _ c.in-Some.ensures.stands)

pub returns-in-Some-clause-markings : goal.returns-in-Some-clause-markings
returns-in-Some-clause-markings c =
    AreMarkings-Grows c.args.self.now.rows.rows.entries c.make.new.self.rows.entries c.make.ensures.grows c.args.self.now.markings.entries c.requires.markings
