use Rattle.std.proofs.Common.{◌∙◌}
use Rattle.declaration_rows.proofs.LinkedLemmas.{declared_is}
use Rattle.declaration_rows.proofs.undeclared.is_declared_before.Goals as goal

pub returns : goal.returns
returns c =
    c.is_some.ensures
    ∙ declared_is c.args._types.now c.args._facts.now c.args.linked.now c.args.name c.type_of.result c.requires c.type_of.ensures.shared
