-- The rows grew, and nothing else.
use Rattle.c_types.proofs.TableLemmas.{kept-Grows, table-extends, table-names, table-told}
use Rattle.c_types.proofs.table.Types.make.Goals as goal

pub invariant_of-self-2 : goal.invariant_of-self-2
invariant_of-self-2 c =
    kept-Grows c.self.inside.maker.rows.rows.entries c.make_base.new.self.rows.rows.entries c.self.inside.maker.markings.entries c.make_base.new.self.markings.entries c.self.inside.bodies.entries
    c.self.inside.layouts.kept.entries c.self.inside.members.chains.items c.self.inside.members.kept.entries c.self.invariant c.in_ok-number.ensures.grows c.in_ok-number.ensures.rows c.in_ok-number.ensures.markings

pub returns-clause-keeps : goal.returns-clause-keeps
returns-clause-keeps c =
    table-extends c.self.inside.maker.rows.rows.entries c.make_base.new.self.rows.rows.entries c.self.inside.bodies.entries c.self.inside.names.entries c.args.self.now c.self.view_is
    c.in_ok-number.ensures.grows

pub returns-clause-layouts : goal.returns-clause-layouts
returns-clause-layouts c =
    table-told c.self.inside.maker.rows.rows.entries c.make_base.new.self.rows.rows.entries c.self.inside.bodies.entries c.self.inside.names.entries c.args.self.now c.self.view_is
    c.in_ok-number.ensures.grows c.self.invariant.bodies_known

pub returns-clause-members : goal.returns-clause-members
returns-clause-members c =
    table-names c.self.inside.maker.rows.rows.entries c.make_base.new.self.rows.rows.entries c.self.inside.bodies.entries c.self.inside.names.entries c.args.self.now c.self.view_is
    c.in_ok-number.ensures.grows c.self.invariant.bodies_known
