use Rattle.std.proofs.Common.{◌∙◌, ap, sym, map, option_map, slice_get}
use Rattle.std.proofs.lemmas.List.{nil_from_length}
use Rattle.c_macros.specs.Operands.{part_by, operand_by}
use Rattle.c_macros.specs.Uses.{noted_all, noted}
use Rattle.c_macros.proofs.UseLemmas.{all_noted, noted_more}
use Rattle.c_macros.proofs.uses.read_uses.Goals as goal

pub loop-part-preserved : goal.loop-part-preserved
loop-part-preserved c = λ s k.
    let known = slice_get c.loop-part.uses.items k in
    noted_more k (part_by s c.in-Some.part.now) (map (part_by s) c.in-Some.others.now) known _ _
    (c.note.ensures s k ∙ ap (λ alone. option_map (noted alone (operand_by s c.in-Some.part.now.operand) k) known) (c.is_alone.ensures s))
    (ap (λ rest. option_map (noted_all k (map (part_by s) rest)) known) (sym c.in-Some.ensures.cases.0) ∙ c.loop-part.invariant s k)

pub returns : goal.returns
returns c = λ s k below.
    all_noted k c.args.count (map (part_by s) c.args.parts.now) c.loop-part.uses.items below (c.requires s)
    (ap (λ rest. option_map (noted_all k (map (part_by s) rest)) (slice_get c.loop-part.uses.items k)) (sym (nil_from_length c.loop-part.rest.now c.in_default.ensures.cases)) ∙ c.loop-part.invariant s k)
