use Rattle.std.proofs.Common.{◌∙◌, ap, map}
use Rattle.meaning_macros.specs.Bodies.{chains}
use Rattle.c_macros.specs.Operands.{grouped, part_by}
use Rattle.c_macros.specs.Seen.{macro_by}
use Rattle.c_macros.proofs.entry.Entry.operands.Goals as goal

pub returns : goal.returns
returns c = λ s apart.
    ap (λ parts. grouped (map (part_by s) parts)) c.as_slice.ensures.value
    ∙ c.self.invariant.operands s apart ∙ ap (λ m. chains (macro_by s m)) c.self.view_is
