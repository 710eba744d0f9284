-- What is known of an expression says whether a static object may begin with it: of some forms by what is known of their parts.
use Rattle.std.specs.Prelude.{◌≡◌, ℤ, pos, Some, if◌then◌else◌}
use Rattle.std.specs.Ordering.{int_eq}
use Rattle.meaning_types.specs.Types.{TypeTree, pointer_to}
use Rattle.meaning_typing.specs.Facts.{ExpressionFact, Addressed, value}
use Rattle.meaning_typing.specs.Conditionals.{is_address, is_constant, arm_given}
use Rattle.meaning_typing.specs.Casts.{cast_fact}
use Rattle.meaning_typing.specs.Expressions.{address_taken}

pub record ConstantForms : Type 0 where
  -- a cast, where its operand is one
  pub cast : (to : TypeTree) (operand : ExpressionFact) → is_constant (cast_fact to operand) ≡ is_constant operand
  -- `?:` with a condition that has a number, where the arm is one that it chooses; with another condition none is
  pub chosen : (condition : ℤ) (left right : ExpressionFact) (type_ : TypeTree)
      → is_constant (arm_given (Some condition) left right type_) ≡ is_constant (if int_eq condition (pos 0) then right else left)
  -- `&` of a place that stands as long as the program runs, and of no other
  pub address : (of : TypeTree) (address : Addressed)
      → is_constant (record (value (pointer_to of)) { address = address_taken address }) ≡ is_address (address_taken address)
