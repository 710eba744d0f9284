-- One more is remembered, or none.
use Rattle.std.proofs.Common.{sym, subst}
use Rattle.c_types.specs.Levels.{AreMarkings}
use Rattle.c_types.proofs.MarkingLemmas.{AreMarkings-insert, from_either}
use Rattle.c_types.proofs.making.Maker.remember.Goals as goal

pub returns-clause-markings : goal.returns-clause-markings
returns-clause-markings c =
    let rows = c.args.self.now.rows.rows.entries in
    from_either (AreMarkings rows c.insert-remembered.new.self.entries) c.insert-remembered.result c.insert-remembered.ensures.entries c.insert-remembered.ensures.err
    (λ entries. subst (AreMarkings rows) (sym entries) (AreMarkings-insert rows (record { number = c.args.number; marks = c.args.marks }) c.args.marked c.requires.marked c.args.self.now.markings.entries c.requires.markings))
    (λ same. subst (AreMarkings rows) (sym same) c.requires.markings)
