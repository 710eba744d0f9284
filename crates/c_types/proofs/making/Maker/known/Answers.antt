-- Nothing is added, or the look-up finds what is right.
use Rattle.std.proofs.Common.{sym, ◌∙◌}
use Rattle.c_types.specs.Rows.{types_of}
use Rattle.c_types.specs.Levels.{IsMarked}
use Rattle.c_types.proofs.MarkingLemmas.{AreMarkings-found, IfSome_from, IsMarked-none}
use Rattle.c_types.proofs.making.Maker.known.Goals as goal

pub returns-then-not-are_some : goal.returns-then-not-are_some
returns-then-not-are_some c =
    IsMarked-none (types_of c.args.self.now.rows.rows.entries) c.args.number c.args.marks c.requires.number
    (c.are_some.ensures.qualifiers c.if-not-are_some.true) (c.are_some.ensures.flags c.if-not-are_some.true)

pub returns : goal.returns
returns c =
    IfSome_from (IsMarked (types_of c.args.self.now.rows.rows.entries) (record { number = c.args.number; marks = c.args.marks })) c.copied.result
    (λ number found. AreMarkings-found c.args.self.now.rows.rows.entries (record { number = c.args.number; marks = c.args.marks }) number c.args.self.now.markings.entries c.requires.markings
    (sym c.get.ensures.value ∙ sym c.copied.ensures ∙ found))
