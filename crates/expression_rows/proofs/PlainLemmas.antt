-- Types to which nothing is added, and parameters as they are gathered.
use Rattle.std.proofs.Common.{◌≡◌, List, [], ◌∷◌, ◌++◌, refl, ap}
use Rattle.std.proofs.Math.Bool.{or-false}
use Rattle.sparse_model.specs.declared.ids.TypeId.{TypeId}
use Rattle.meaning_types.specs.Types.{Qualifiers, Flags, TypeTree, Typed, BaseTree, ArrayTree, FunctionTree, TypeTrees, NoTypes, MoreTypes, no_qualifiers, no_flags, value_type}
use Rattle.meaning_types.specs.Marks.{both, marked, with_flags}
use Rattle.c_types.specs.Rows.{base_of, type_numbered, types_numbered}
use Rattle.expression_rows.specs.Values.{types_before}

both-none : (own : Qualifiers) → both own no_qualifiers ≡ own
both-none own = λ i. record { is_const = or-false own.is_const i; is_volatile = or-false own.is_volatile i }

with_flags-none : (own : Flags) → with_flags own no_flags ≡ own
with_flags-none own = λ i. record { noderef = or-false own.noderef i; space = own.space }

-- nothing is added
mutual
  pub marked-none : (type_ : TypeTree) → marked no_qualifiers no_flags type_ ≡ type_
  marked-none (Typed base qualifiers flags) = marked_base-none qualifiers flags base

  marked_base-none : (qualifiers : Qualifiers) (flags : Flags) (base : BaseTree) → marked no_qualifiers no_flags (Typed base qualifiers flags) ≡ Typed base qualifiers flags
  marked_base-none qualifiers flags (ArrayTree element length) = ap (λ t. Typed (ArrayTree t length) qualifiers flags) (marked-none element)
  marked_base-none qualifiers flags (FunctionTree result parameters variadic) = refl
  marked_base-none qualifiers flags base = λ i. Typed base (both-none qualifiers i) (with_flags-none flags i)

-- a value's type has the base alone
pub value_type_of : (type_ : TypeTree) (base : BaseTree) → base ≡ base_of type_ → Typed base no_qualifiers no_flags ≡ value_type type_
value_type_of (Typed own qualifiers flags) base is = ap (λ b. Typed b no_qualifiers no_flags) is

-- Parameters

module _ (types : List TypeTree) where
  -- one parameter more
  pub types_before-push : (ids : List TypeId) (id : TypeId) (others : TypeTrees)
      → types_before types (ids ++ id ∷ []) others ≡ types_before types ids (MoreTypes (type_numbered types id.0) others)
  types_before-push [] id others = refl
  types_before-push (first ∷ ids) id others = ap (MoreTypes (type_numbered types first.0)) (types_before-push ids id others)

  -- none behind them
  pub types_before-none : (ids : List TypeId) → types_before types ids NoTypes ≡ types_numbered types ids
  types_before-none [] = refl
  types_before-none (id ∷ ids) = ap (MoreTypes (type_numbered types id.0)) (types_before-none ids)
