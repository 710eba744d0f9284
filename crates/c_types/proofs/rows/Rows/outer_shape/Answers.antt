use Rattle.std.proofs.Common.{ap, ◌∙◌, arith}
use Rattle.c_types.specs.Rows.{space_seen}
use Rattle.c_types.proofs.RowLemmas.{length-types_of}
use Rattle.c_types.proofs.Told.{outer-whole}
use Rattle.c_types.proofs.rows.Rows.outer_shape.Goals as goal

pub row-requires : goal.row-requires
row-requires c = omega (arith, c.requires.known, length-types_of c.args.self.now.rows.entries)

pub returns-clause-shape : goal.returns-clause-shape
returns-clause-shape c =
    outer-whole c.args.self.now.rows.entries c.requires.rows c.args.number c.row.result c.row.ensures c.outer_base-base.result c.words-words.result
    c.space_at.result c.outer_base-base.ensures.base c.words-words.ensures (c.space_at.ensures ∙ ap space_seen c.space.ensures)
