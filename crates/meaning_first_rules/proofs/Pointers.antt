-- Pointers as objects: what they point to, and the addresses that they can hold.
use Rattle.std.proofs.Common.{◌≡◌, ℕ, suc, ◌+◌, ◌-◌, true, false, nat_eq, Some, refl, ap, arith}
use Rattle.std.proofs.Math.Dec.{eqb-suc-zero}
use Rattle.std.proofs.lemmas.Bool.{eqb-true, eq-eqb}
use Rattle.meaning_types.specs.Types.{Flags, value_type}
use Rattle.meaning_syntax.specs.Binding.{Declared}
use Rattle.meaning_first_rules.specs.Bindings.{pointer_to}
use Rattle.meaning_first_rules.specs.Expressions.{target_of}
use Rattle.meaning_first_rules.specs.Typing.{behind_stars, int_with, declared_type, int_flags, behind_pointer, address_of}
use Rattle.meaning_first_rules.specs.plain.Judging.{is_flagged_int}

-- an object with one star more than another has one star at least
one_star_more-suc : (pointer object : Declared) → nat_eq pointer.stars (object.stars + 1) ≡ true → pointer.stars ≡ suc object.stars
one_star_more-suc pointer object more = omega (arith, eqb-true pointer.stars (object.stars + 1) more)

-- the int that a pointer leads to may have flags, the pointer itself has none
pub pointer-is_not_flagged_int : (pointer object : Declared) → nat_eq pointer.stars (object.stars + 1) ≡ true → is_flagged_int pointer ≡ false
pointer-is_not_flagged_int pointer object more = rw (one_star_more-suc pointer object more, eqb-suc-zero object.stars) refl

-- a type with some stars points to the type with one star less
target_of-stars :
    (stars less : ℕ) (flags : Flags) → stars ≡ suc less → target_of (value_type (behind_stars stars (int_with flags))) ≡ Some (behind_stars (stars - 1) (int_with flags))
target_of-stars stars less flags e = rw e (ap (λ n. Some (behind_stars n (int_with flags))) (omega arith))

-- the place behind a pointer has the type that is declared with one star less
pub target_of-pointer :
    (pointer object : Declared) → nat_eq pointer.stars (object.stars + 1) ≡ true →
    target_of (value_type (declared_type pointer)) ≡ Some (declared_type (behind_pointer pointer))
target_of-pointer pointer object more = target_of-stars pointer.stars object.stars (int_flags pointer) (one_star_more-suc pointer object more)

-- and an object's address the type that is declared with one star more
pub pointer_to-declared_type : (object : Declared) → pointer_to (declared_type object) ≡ value_type (declared_type (address_of object))
pointer_to-declared_type object = refl

-- what a pointer with one star more points to has equally many stars as the object
pub behind_pointer-equal_stars : (pointer object : Declared) → nat_eq pointer.stars (object.stars + 1) ≡ true → nat_eq (behind_pointer pointer).stars object.stars ≡ true
behind_pointer-equal_stars pointer object more = eq-eqb (pointer.stars - 1) object.stars (omega (arith, one_star_more-suc pointer object more))

-- and such a pointer as the object's address
pub address_of-equal_stars : (pointer object : Declared) → nat_eq pointer.stars (object.stars + 1) ≡ true → nat_eq pointer.stars (address_of object).stars ≡ true
address_of-equal_stars pointer object more = eq-eqb pointer.stars (suc object.stars) (one_star_more-suc pointer object more)
