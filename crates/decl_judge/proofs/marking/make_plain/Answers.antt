use Rattle.std.proofs.Common.{◌≡◌, IfOk, subst}
use Rattle.c_types.specs.declared.shapes.TypeShape.{TypeShape}
use Rattle.c_types.specs.Table.{type_at, type_of_shape}
use Rattle.decl_judge.proofs.marking.make_plain.Goals as goal

pub returns-clause-made : goal.returns-clause-made
returns-clause-made c = subst (λ (shape : TypeShape). IfOk c.make.result (λ id. type_at c.make.new.types id ≡ type_of_shape c.args.types.now shape)) c.plain.ensures c.make.ensures.made
