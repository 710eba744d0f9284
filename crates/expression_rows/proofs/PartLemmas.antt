-- Rows are told by what is asked of the parts.
use Rattle.std.proofs.Common.{◌≡◌, ℕ, Option, Some, None, is_some, refl, ap, if◌then◌else◌}
use Rattle.vocabulary.specs.declared.int_kind.IntKind.{IntKind}
use Rattle.meaning_types.specs.Types.{TypeTree, Typed, VoidTree, IntegerTree, RestrictedTree, PointerTree, ArrayTree, FunctionTree, AggregateTree}
use Rattle.meaning_typing.specs.Facts.{ExpressionFact}
use Rattle.meaning_typing.specs.Expressions.{indirection_of, subscript_of}
use Rattle.c_types.specs.Table.{integer_kind, pointed_at}
use Rattle.expression_rows.specs.Parts.{elements_of, indirection_with, subscript_with}

module _ (token operand : ℕ) (expression : ExpressionFact) where
  pub indirection_told : (type_ : TypeTree) → indirection_with token operand expression (pointed_at type_) ≡ indirection_of token operand expression type_
  indirection_told (Typed VoidTree _ _) = refl
  indirection_told (Typed (IntegerTree kind) _ _) = refl
  indirection_told (Typed (RestrictedTree kind identity) _ _) = refl
  indirection_told (Typed (PointerTree target) _ _) = refl
  indirection_told (Typed (ArrayTree element length) _ _) = refl
  indirection_told (Typed (FunctionTree result parameters variadic) _ _) = refl
  indirection_told (Typed (AggregateTree number is_union) _ _) = refl

-- neither is a pointer beside an integer
abbrev no_element : Option TypeTree
no_element = None

no_elements : (kind : Option IntKind) → (if is_some kind then no_element else no_element) ≡ no_element
no_elements None = refl
no_elements (Some kind) = refl

module _ (token first second : ℕ) (left right : ExpressionFact) where
  pub subscript_told : (of other : TypeTree)
      → subscript_with token first second left right (elements_of of other) (elements_of other of) ≡ subscript_of token first second left right of other
  subscript_told (Typed VoidTree _ _) other = ap (λ found. subscript_with token first second left right found None) (no_elements (integer_kind other))
  subscript_told (Typed (IntegerTree kind) _ _) (Typed VoidTree _ _) = refl
  subscript_told (Typed (IntegerTree kind) _ _) (Typed (IntegerTree another) _ _) = refl
  subscript_told (Typed (IntegerTree kind) _ _) (Typed (RestrictedTree another same) _ _) = refl
  subscript_told (Typed (IntegerTree kind) _ _) (Typed (PointerTree place) _ _) = refl
  subscript_told (Typed (IntegerTree kind) _ _) (Typed (ArrayTree part count) _ _) = refl
  subscript_told (Typed (IntegerTree kind) _ _) (Typed (FunctionTree answer others more) _ _) = refl
  subscript_told (Typed (IntegerTree kind) _ _) (Typed (AggregateTree token_of both) _ _) = refl
  subscript_told (Typed (RestrictedTree kind identity) _ _) (Typed VoidTree _ _) = refl
  subscript_told (Typed (RestrictedTree kind identity) _ _) (Typed (IntegerTree another) _ _) = refl
  subscript_told (Typed (RestrictedTree kind identity) _ _) (Typed (RestrictedTree another same) _ _) = refl
  subscript_told (Typed (RestrictedTree kind identity) _ _) (Typed (PointerTree place) _ _) = refl
  subscript_told (Typed (RestrictedTree kind identity) _ _) (Typed (ArrayTree part count) _ _) = refl
  subscript_told (Typed (RestrictedTree kind identity) _ _) (Typed (FunctionTree answer others more) _ _) = refl
  subscript_told (Typed (RestrictedTree kind identity) _ _) (Typed (AggregateTree token_of both) _ _) = refl
  subscript_told (Typed (PointerTree target) _ _) (Typed VoidTree _ _) = refl
  subscript_told (Typed (PointerTree target) _ _) (Typed (IntegerTree another) _ _) = refl
  subscript_told (Typed (PointerTree target) _ _) (Typed (RestrictedTree another same) _ _) = refl
  subscript_told (Typed (PointerTree target) _ _) (Typed (PointerTree place) _ _) = refl
  subscript_told (Typed (PointerTree target) _ _) (Typed (ArrayTree part count) _ _) = refl
  subscript_told (Typed (PointerTree target) _ _) (Typed (FunctionTree answer others more) _ _) = refl
  subscript_told (Typed (PointerTree target) _ _) (Typed (AggregateTree token_of both) _ _) = refl
  subscript_told (Typed (ArrayTree element length) _ _) other = ap (λ found. subscript_with token first second left right found None) (no_elements (integer_kind other))
  subscript_told (Typed (FunctionTree result parameters variadic) _ _) other = ap (λ found. subscript_with token first second left right found None) (no_elements (integer_kind other))
  subscript_told (Typed (AggregateTree number is_union) _ _) other = ap (λ found. subscript_with token first second left right found None) (no_elements (integer_kind other))
