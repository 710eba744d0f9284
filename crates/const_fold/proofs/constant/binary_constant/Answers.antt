-- With their kinds and their numbers the parts give what the operator gives of them.
use Rattle.std.proofs.Common.{◌≡◌, Some, sym, ap, ◌∙◌, arith, rules, FitsSigned, to_z, of_z}
use Rattle.std.specs.Int.{w128}
use Rattle.std.proofs.lemmas.Int.{to_z-of_z}
use Rattle.meaning_constants.specs.Constants.{kind_of, settled_if, is_fouled_by, binary_kind, numbers_operated}
use Rattle.const_fold.specs.Seen.{seen_part, seen_type}
use Rattle.const_fold.proofs.PartLemmas.{binary_known}
use Rattle.const_fold.proofs.constant.binary_constant.Goals as goal

pub returns : goal.returns
returns c =
    let op = c.args.op in
    let left = seen_part c.args.left in
    let right = seen_part c.args.right in
    let kind = c.in_ok-kind.kind in
    let other = c.in_ok-other.other in
    let number = c.in_ok-number.number in
    let second = c.in_ok-second.second in
    let is_kind : kind_of (seen_type c.args.left.of) ≡ Some kind = grind arith in
    let is_other : kind_of (seen_type c.args.right.of) ≡ Some other = grind arith in
    let is_number : c.args.left.number ≡ Some number = grind arith in
    let is_second : c.args.right.number ≡ Some second = grind arith in
    let fits : FitsSigned w128 number = search rules in
    let fit : FitsSigned w128 second = search rules in
    c.operated_binary.ensures
    ∙ ap (λ n. settled_if (is_fouled_by op left right) (binary_kind op left.of right.of kind other) (numbers_operated op kind other n (to_z w128 (of_z w128 second))))
    (to_z-of_z w128 number fits)
    ∙ ap (λ n. settled_if (is_fouled_by op left right) (binary_kind op left.of right.of kind other) (numbers_operated op kind other number n)) (to_z-of_z w128 second fit)
    ∙ sym (binary_known left kind number is_kind is_number op right other second is_other is_second)
