-- `.` is told by the member that was found, and `->` by the type to which its operand points.
use Rattle.std.proofs.Common.{◌≡◌, ℕ, List, Option, Some, None, refl}
use Rattle.meaning_types.specs.Types.{Qualifiers, Flags, TypeTree, Typed, VoidTree, IntegerTree, RestrictedTree, PointerTree, ArrayTree, FunctionTree, AggregateTree}
use Rattle.meaning_layout.specs.Members.{FoundMember}
use Rattle.meaning_typing.specs.Aggregates.{KnownAggregates}
use Rattle.meaning_typing.specs.Facts.{ExpressionFact}
use Rattle.meaning_typing.specs.Members.{Selected, pointed_by, selected}
use Rattle.c_types.specs.Table.{pointed_at}
use Rattle.member_rows.specs.Members.{pointed_by_target, selected_if_any}

module _ (aggregates : KnownAggregates) (token operand : ℕ) (name : List ℕ) (expression : ExpressionFact) where
  pub pointer_told : (type_ : TypeTree) → pointed_by_target aggregates token operand name expression (pointed_at type_) ≡ pointed_by aggregates token operand name expression type_
  pointer_told (Typed VoidTree _ _) = refl
  pointer_told (Typed (IntegerTree kind) _ _) = refl
  pointer_told (Typed (RestrictedTree kind identity) _ _) = refl
  pointer_told (Typed (PointerTree target) _ _) = refl
  pointer_told (Typed (ArrayTree element length) _ _) = refl
  pointer_told (Typed (FunctionTree result parameters variadic) _ _) = refl
  pointer_told (Typed (AggregateTree number is_union) _ _) = refl

module _ (token operand : ℕ) (name : List ℕ) (aggregate : ExpressionFact) (qualifiers : Qualifiers) (flags : Flags) where
  pub selected_told : (found : Option FoundMember) → selected_if_any token name aggregate qualifiers flags found ≡ selected token operand name aggregate (Selected qualifiers flags found)
  selected_told None = refl
  selected_told (Some found) = refl
