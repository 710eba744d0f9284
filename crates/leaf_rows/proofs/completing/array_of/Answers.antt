-- Nothing is added to the element.
use Rattle.std.proofs.Common.{Some, ap, ◌∙◌}
use Rattle.meaning_types.specs.Types.{TypeTree}
use Rattle.meaning_typing.specs.Declarators.{array_type}
use Rattle.c_types.specs.Table.{type_at}
use Rattle.node_facts.proofs.GrowthLemmas.{made_known, made_type}
use Rattle.leaf_rows.proofs.CompletingLemmas.{marked_none}
use Rattle.leaf_rows.proofs.completing.array_of.Goals as goal

pub returns-clause-made : goal.returns-clause-made
returns-clause-made c =
    made_type c.make.new.self c.in_ok-id.id _ c.in_ok-id.ensures.stands
    ∙ ap (λ (element : TypeTree). array_type element (Some c.args.length)) (marked_none (type_at c.args.types.now c.args.element))

pub returns-clause-known : goal.returns-clause-known
returns-clause-known c = made_known c.make.new.self c.in_ok-id.id _ c.in_ok-id.ensures.stands
