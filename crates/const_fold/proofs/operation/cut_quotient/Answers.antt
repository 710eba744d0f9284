-- A quotient that wraps at 128 bits comes to the same.
use Rattle.std.proofs.Common.{ap, ◌∙◌, to_z, of_z}
use Rattle.std.specs.Int.{w128, int_wrapping_div}
use Rattle.std.proofs.lemmas.Int.{to_z-of_z}
use Rattle.meaning_constants.specs.Numbers.{wrapped}
use Rattle.const_fold.proofs.operation.cut_quotient.Goals as goal
use Rattle.const_fold.proofs.NumberLemmas.{wrapped-quotient}

pub returns : goal.returns
returns c =
    to_z-of_z w128 c.wrapped.result (record { sfits = c.wrapped.type_inv }) ∙ c.wrapped.ensures
    ∙ ap (wrapped c.args.kind)
    (to_z-of_z w128 c.wrapping_div.result (record { sfits = c.wrapping_div.type_inv }) ∙ c.wrapping_div.ensures
    ∙ ap (λ left. int_wrapping_div w128 left (to_z w128 (of_z w128 c.args.right))) (to_z-of_z w128 c.args.left c.ranges.left)
    ∙ ap (λ right. int_wrapping_div w128 c.args.left right) (to_z-of_z w128 c.args.right c.ranges.right))
    ∙ wrapped-quotient c.args.kind c.args.left c.args.right c.ranges.left
