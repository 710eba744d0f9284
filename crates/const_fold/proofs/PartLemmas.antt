-- What comes of the kind of a type, by its kind.
use Rattle.std.proofs.Common.{◌≡◌, ℤ, Option, Some, None, refl, ap, ◌∙◌}
use Rattle.vocabulary.specs.declared.int_kind.IntKind.{IntKind}
use Rattle.vocabulary.specs.declared.operator.Operator.{Operator}
use Rattle.meaning_types.specs.Types.{TypeTree, Typed, VoidTree, IntegerTree, RestrictedTree, PointerTree, ArrayTree, FunctionTree, AggregateTree}
use Rattle.meaning_types.specs.Conversions.{promoted}
use Rattle.meaning_constants.specs.Operations.{operated_alone}
use Rattle.meaning_constants.specs.Constants.{Constant, Part, kind_of, with_kind, with_number, settled_if, is_fouled_by, unary_kind, unary_constant, binary_kind, binary_constant, numbers_operated}

-- what comes of a kind, if there is one
abbrev pub of_kind : Option IntKind → (IntKind → Option Constant) → Option Constant
of_kind None next = None
of_kind (Some kind) next = next kind

pub with_kind_told : (of : TypeTree) (next : IntKind → Option Constant) → with_kind of next ≡ of_kind (kind_of of) next
with_kind_told (Typed VoidTree _ _) next = refl
with_kind_told (Typed (IntegerTree kind) _ _) next = refl
with_kind_told (Typed (RestrictedTree kind identity) _ _) next = refl
with_kind_told (Typed (PointerTree target) _ _) next = refl
with_kind_told (Typed (ArrayTree element length) _ _) next = refl
with_kind_told (Typed (FunctionTree result parameters variadic) _ _) next = refl
with_kind_told (Typed (AggregateTree number is_union) _ _) next = refl

-- the number is known, too
module _ (part : Part) (kind : IntKind) (number : ℤ) (is_kind : kind_of part.of ≡ Some kind) (is_number : part.number ≡ Some number) where
  pub unary_known : (op : Operator)
      → unary_constant op part ≡ settled_if (is_fouled_by op part part) (unary_kind op part.of kind) (operated_alone op (promoted kind) number)
  unary_known op =
      let told : ℤ → Option Constant = λ n. settled_if (is_fouled_by op part part) (unary_kind op part.of kind) (operated_alone op (promoted kind) n) in
      let next : IntKind → Option Constant =
      λ k. with_number part.number (λ n. settled_if (is_fouled_by op part part) (unary_kind op part.of k) (operated_alone op (promoted k) n)) in
      with_kind_told part.of next ∙ ap (λ k. of_kind k next) is_kind ∙ ap (λ n. with_number n told) is_number

  pub binary_known : (op : Operator) (right : Part) (other : IntKind) (second : ℤ) → kind_of right.of ≡ Some other → right.number ≡ Some second
      → binary_constant op part right
      ≡ settled_if (is_fouled_by op part right) (binary_kind op part.of right.of kind other) (numbers_operated op kind other number second)
  binary_known op right other second is_other is_second =
      let settle : IntKind → IntKind → ℤ → ℤ → Option Constant =
      λ k o n s. settled_if (is_fouled_by op part right) (binary_kind op part.of right.of k o) (numbers_operated op k o n s) in
      let numbered : IntKind → IntKind → Option Constant =
      λ k o. with_number part.number (λ n. with_number right.number (λ s. settle k o n s)) in
      let next : IntKind → Option Constant = λ k. with_kind right.of (λ o. numbered k o) in
      with_kind_told part.of next ∙ ap (λ k. of_kind k next) is_kind
      ∙ with_kind_told right.of (λ o. numbered kind o) ∙ ap (λ o. of_kind o (λ o. numbered kind o)) is_other
      ∙ ap (λ n. with_number n (λ n. with_number right.number (λ s. settle kind other n s))) is_number
      ∙ ap (λ s. with_number s (λ s. settle kind other number s)) is_second
