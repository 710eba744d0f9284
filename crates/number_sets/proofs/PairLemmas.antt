-- Pairs, and additions, that compare alike are one.
use Rattle.std.proofs.Common.{◌≡◌, Bool, true, refl}
use Rattle.std.proofs.lemmas.Bool.{eqb-true, false≢true}
use Rattle.number_sets.specs.declared.pair.Operation.{Operation}
use Rattle.number_sets.specs.declared.pair.Operation.TheVariants.{Union, Intersection}
use Rattle.number_sets.specs.declared.pair.Pair.{Pair}
use Rattle.number_sets.specs.declared.addition.Addition.{Addition}
use Rattle.number_sets.specs.contracts.addition.AdditionPartialEq.TheImpl as additions
use Rattle.number_sets.specs.contracts.pair.PairPartialEq.TheImpl as pairs
use Rattle.number_sets.specs.contracts.pair.OperationPartialEq.TheImpl as operations
use Rattle.number_sets.proofs.TableLemmas.{and_left, and_right}

-- the derived comparison
abbrev pub pair_eq : Pair → Pair → Bool
pair_eq = pairs.eq-value.it

same_operation : (a b : Operation) → operations.eq-value.it a b ≡ true → a ≡ b
same_operation Union Union h = refl
same_operation Intersection Intersection h = refl
same_operation Union Intersection h = absurd (false≢true h)
same_operation Intersection Union h = absurd (false≢true h)

pub same_pair : (a b : Pair) → pair_eq a b ≡ true → a ≡ b
same_pair a b h =
    let operation : a.operation ≡ b.operation = same_operation a.operation b.operation (and_left _ _ h) in
    let left : a.left ≡ b.left = eqb-true a.left b.left (and_left _ _ (and_right _ _ h)) in
    let right : a.right ≡ b.right = eqb-true a.right b.right (and_right _ _ (and_right _ _ h)) in
    λ i. record { operation = operation i; left = left i; right = right i }

abbrev pub addition_eq : Addition → Addition → Bool
addition_eq = additions.eq-value.it

pub same_addition : (a b : Addition) → addition_eq a b ≡ true → a ≡ b
same_addition a b h =
    let set : a.set ≡ b.set = eqb-true a.set b.set (and_left _ _ h) in
    let number : a.number ≡ b.number = eqb-true a.number b.number (and_right _ _ h) in
    λ i. record { set = set i; number = number i }
