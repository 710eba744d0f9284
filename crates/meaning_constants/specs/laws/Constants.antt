-- What holds of constants.
use Rattle.std.specs.Prelude.{◌≡◌, ℕ, Bool, false, Option, Some, if◌then◌else◌}
use Rattle.vocabulary.specs.declared.int_kind.IntKind.{IntKind}
use Rattle.vocabulary.specs.declared.operator.Operator.{Operator}
use Rattle.vocabulary.specs.declared.operator.Operator.TheVariants as operators
use Rattle.meaning_types.specs.Types.{TypeTree}
use Rattle.meaning_types.specs.Conversions.{promoted}
use Rattle.meaning_constants.specs.Numbers.{IsInRange}
use Rattle.meaning_constants.specs.Constants.{Constant, Part, literal_constant, size_constant, cast_constant, is_fouled_by, unary_constant, binary_constant, and_constant, or_constant, arm_constant}

-- a constant's number is one of its kind; of a fouled one it is one of the promoted kind
abbrev pub IsOfItsKind : (fouled : Bool) → Constant → Type 0
IsOfItsKind fouled constant = IsInRange (if fouled then promoted constant.kind else constant.kind) constant.number

-- and so is each that there is
abbrev pub IsOfItsKindIfAny : (fouled : Bool) → Option Constant → Type 0
IsOfItsKindIfAny fouled found = (constant : Constant) → found ≡ Some constant → IsOfItsKind fouled constant

pub record ConstantsAreInRange : Type 0 where
  pub literals : (kind : IntKind) (bits : ℕ) → IsOfItsKindIfAny false (literal_constant kind bits)
  pub sizes : (bytes : Option ℕ) → IsOfItsKindIfAny false (size_constant bytes)
  pub casts : (to : TypeTree) (part : Part) → IsOfItsKindIfAny false (cast_constant to part)
  pub unary : (operator : Operator) (part : Part) → IsOfItsKindIfAny (is_fouled_by operator part part) (unary_constant operator part)
  pub binary : (operator : Operator) (left right : Part) → IsOfItsKindIfAny (is_fouled_by operator left right) (binary_constant operator left right)
  pub both : (left right : Part) → IsOfItsKindIfAny false (and_constant left right)
  pub either : (left right : Part) → IsOfItsKindIfAny false (or_constant left right)
  pub arms : (arm second third : Part) → IsOfItsKindIfAny (is_fouled_by operators.Conditional second third) (arm_constant arm second third)
