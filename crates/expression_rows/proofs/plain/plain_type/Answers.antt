-- Nothing is added to the base.
use Rattle.std.proofs.Common.{◌∙◌}
use Rattle.meaning_types.specs.Types.{Typed, no_flags, no_qualifiers}
use Rattle.c_types.specs.Table.{base_of_shape, type_at, types_in}
use Rattle.expression_rows.proofs.PlainLemmas.{marked-none, value_type_of}
use Rattle.expression_rows.proofs.plain.plain_type.Goals as goal

pub returns-clause-made : goal.returns-clause-made
returns-clause-made c =
    let old = c.args.types.now in
    let base = base_of_shape (types_in old) c.in_ok-base.base in
    c.in_ok-id.ensures.made ∙ marked-none (Typed base no_qualifiers no_flags) ∙ value_type_of (type_at old c.args.of) base c.in_ok-base.ensures.base
