-- With its kind and its number the part gives what the operator gives of them.
use Rattle.std.proofs.Common.{◌≡◌, Some, sym, ap, ◌∙◌, arith, rules, FitsSigned}
use Rattle.std.specs.Int.{w128}
use Rattle.std.proofs.lemmas.Int.{to_z-of_z}
use Rattle.meaning_types.specs.Conversions.{promoted}
use Rattle.meaning_constants.specs.Operations.{operated_alone}
use Rattle.meaning_constants.specs.Constants.{kind_of, settled_if, is_fouled_by, unary_kind}
use Rattle.const_fold.specs.Seen.{seen_part, seen_type}
use Rattle.const_fold.proofs.PartLemmas.{unary_known}
use Rattle.const_fold.proofs.constant.unary_constant.Goals as goal

pub returns : goal.returns
returns c =
    let op = c.args.op in
    let part = seen_part c.args.part in
    let kind = c.in_ok-kind.kind in
    let number = c.in_ok-number.number in
    let is_kind : kind_of (seen_type c.args.part.of) ≡ Some kind = grind arith in
    let is_number : c.args.part.number ≡ Some number = grind arith in
    let fits : FitsSigned w128 number = search rules in
    c.operated_unary.ensures
    ∙ ap (λ n. settled_if (is_fouled_by op part part) (unary_kind op part.of kind) (operated_alone op (promoted kind) n)) (to_z-of_z w128 number fits)
    ∙ sym (unary_known part kind number is_kind is_number op)
