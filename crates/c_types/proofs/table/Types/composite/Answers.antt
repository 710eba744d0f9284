-- The rows grew, and nothing else.
use Rattle.c_types.proofs.TableLemmas.{kept-Grows, table-extends, table-names, table-told}
use Rattle.c_types.proofs.MarkingLemmas.{AreMarkings-Grows, on_ok}
use Rattle.c_types.proofs.table.Types.composite.Goals as goal

pub invariant_of-self-2 : goal.invariant_of-self-2
invariant_of-self-2 c =
    kept-Grows c.self.inside.maker.rows.rows.entries c.make_composite.new.self.rows.entries c.self.inside.maker.markings.entries c.self.inside.maker.markings.entries c.self.inside.bodies.entries
    c.self.inside.layouts.kept.entries c.self.inside.members.chains.items c.self.inside.members.kept.entries c.self.invariant c.make_composite.ensures.grows c.make_composite.ensures.rows
    (AreMarkings-Grows c.self.inside.maker.rows.rows.entries c.make_composite.new.self.rows.entries c.make_composite.ensures.grows c.self.inside.maker.markings.entries c.self.invariant.markings_right)

pub returns-clause-keeps : goal.returns-clause-keeps
returns-clause-keeps c =
    on_ok c.match-branch-2.result
    (table-extends c.self.inside.maker.rows.rows.entries c.make_composite.new.self.rows.entries c.self.inside.bodies.entries c.self.inside.names.entries c.args.self.now c.self.view_is
    c.make_composite.ensures.grows)

pub returns-clause-layouts : goal.returns-clause-layouts
returns-clause-layouts c =
    on_ok c.match-branch-2.result
    (table-told c.self.inside.maker.rows.rows.entries c.make_composite.new.self.rows.entries c.self.inside.bodies.entries c.self.inside.names.entries c.args.self.now c.self.view_is
    c.make_composite.ensures.grows c.self.invariant.bodies_known)

pub returns-clause-members : goal.returns-clause-members
returns-clause-members c =
    on_ok c.match-branch-2.result
    (table-names c.self.inside.maker.rows.rows.entries c.make_composite.new.self.rows.entries c.self.inside.bodies.entries c.self.inside.names.entries c.args.self.now c.self.view_is
    c.make_composite.ensures.grows c.self.invariant.bodies_known)
