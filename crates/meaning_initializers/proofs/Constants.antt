-- A constant stays one, by what is known of it.
use Rattle.std.proofs.Common.{◌≡◌, ℤ, pos, Bool, true, false, ◌||◌, ◌&&◌, is_some, Option, Some, None, refl, if◌then◌else◌}
use Rattle.std.specs.Ordering.{int_eq}
use Rattle.meaning_types.specs.Types.{value_type}
use Rattle.meaning_typing.specs.Facts.{Addressed, ConstantPlace, ConstantAddress, NotAddress, decays, is_zero_number}
use Rattle.meaning_typing.specs.Operators.{address_of_value, value_address, value_sort}
use Rattle.meaning_typing.specs.Conditionals.{is_address, is_constant, address_if}
use Rattle.meaning_typing.specs.Expressions.{address_taken}
use Rattle.meaning_typing.specs.Casts.{is_void_pointer, is_integer_sort}
use Rattle.meaning_initializers.specs.laws.Constants.{ConstantForms}

address_said : (constant decays : Bool) → is_address (address_of_value (address_if constant) decays) ≡ constant
address_said true decays = refl
address_said false decays = refl

either_true : (b : Bool) → (b || true) ≡ true
either_true true = refl
either_true false = refl

-- a null pointer is made of a number alone
cast_said : (number : Option ℤ) (rest is_void is_integer decays : Bool)
    → (is_void && is_integer && is_zero_number number || is_address (address_of_value (address_if (is_some number || rest)) decays)) ≡ (is_some number || rest)
cast_said (Some number) rest true true decays = either_true (is_zero_number (Some number))
cast_said (Some number) rest true false decays = refl
cast_said (Some number) rest false is_integer decays = refl
cast_said None rest true true decays = address_said rest decays
cast_said None rest true false decays = address_said rest decays
cast_said None rest false is_integer decays = address_said rest decays

address_taken_said : (address : Addressed) → is_address (address_of_value (address_taken address) false) ≡ is_address (address_taken address)
address_taken_said ConstantPlace = refl
address_taken_said ConstantAddress = refl
address_taken_said NotAddress = refl

pub constant_forms : ConstantForms
constant_forms = record {
  cast = λ to operand.
      cast_said operand.constant (operand.is_null || is_address (value_address operand)) (is_void_pointer to) (is_integer_sort (value_sort operand)) (decays (value_type to));
  chosen = λ condition left right type_. address_said (is_constant (if int_eq condition (pos 0) then right else left)) (decays type_);
  address = λ of address. address_taken_said address;
}
