-- A value that fits some type fits the type by which it is adopted.
use Rattle.std.proofs.Common.{◌≡◌, ℕ, Bool, true, false, ℤ, pos, List, Option, Some, None, if◌then◌else◌, refl, sym, ◌∙◌, subst}
use Rattle.std.specs.Ordering.{int_eq}
use Rattle.std.specs.Int.Signed.{le_z_yes}
use Rattle.vocabulary.specs.declared.int_kind.IntKind.{IntKind}
use Rattle.vocabulary.specs.declared.int_kind.IntKind.TheVariants as kinds
use Rattle.meaning_types.specs.Types.{Qualifiers, Flags, TypeTree, Typed, BaseTree, IntegerTree, PointerTree, bare}
use Rattle.meaning_types.specs.Equality.{are_same}
use Rattle.meaning_types.proofs.Equality.{are_same-Decides}
use Rattle.meaning_machine.specs.Values.{Spot, Null, Foreign, In, Value, Integer, Pointer, Block, SpotFits, ValueFits}
use Rattle.meaning_constants.specs.Numbers.{IsInRange}
use Rattle.meaning_machine.specs.Outcomes.{SpaceFault, ShapeFault, Answer, Gives, IsFault, IsUndefined}
use Rattle.meaning_machine.specs.Memory.{spot_truth, adopt, adopt_integer, adopt_pointer}
use Rattle.meaning_machine.specs.Tests.{differ_in_flags_alone}
use Rattle.meaning_machine.specs.laws.Runs.{AdoptedValuesFit}
use Rattle.meaning_constants.proofs.Numbers.{converted_is_in_range}
use Rattle.meaning_machine.proofs.Similar.{spot-agreeing}

-- what an answer gives fits, if it gives something
abbrev GivesFitting : List Block → BaseTree → Answer Value → Type 0
GivesFitting blocks base (Gives value) = ValueFits blocks value base
GivesFitting blocks base (IsFault kind) = Unit {0}
GivesFitting blocks base (IsUndefined reason) = Unit {0}

-- a null pointer fits, if there is one
null-fits : (blocks : List Block) (wanted : TypeTree) (is_zero : Bool) →
    GivesFitting blocks (PointerTree wanted) (if is_zero then Gives (Pointer wanted Null) else IsFault ShapeFault)
null-fits blocks wanted true = (refl, tt)
null-fits blocks wanted false = tt

-- of an integer
integer-fits : (blocks : List Block) (kind : IntKind) (restricted : Option ℕ) (fouled : Bool) (number : ℤ) (base : BaseTree) →
    GivesFitting blocks base (adopt_integer kind restricted fouled number base)
integer-fits blocks kind None false number (IntegerTree wanted) = (refl, refl, refl, converted_is_in_range wanted number)
integer-fits blocks kind None false number (PointerTree wanted) = null-fits blocks wanted (int_eq number (pos 0))
integer-fits blocks kind None false number base = tt
integer-fits blocks kind None true number (IntegerTree wanted) = tt
integer-fits blocks kind None true number base = tt
integer-fits blocks kind (Some identity) fouled number (IntegerTree wanted) = tt
integer-fits blocks kind (Some identity) fouled number base = tt

-- of a pointer that keeps its target, by the test of their targets
similar-fits : (blocks : List Block) (target from wanted : TypeTree) (spot : Spot) (others : Answer Value) →
    bare target ≡ bare from → SpotFits blocks spot from → GivesFitting blocks (PointerTree wanted) others →
    (test : Bool) → are_same target wanted ≡ test → GivesFitting blocks (PointerTree wanted) (if test then Gives (Pointer target spot) else others)
similar-fits blocks target from wanted spot others same fits rest true passed =
    let equal = (are_same-Decides target wanted).0 passed in
    (equal, spot-agreeing blocks spot from wanted (sym same ∙ equal) fits)
similar-fits blocks target from wanted spot others same fits rest false passed = rest

-- pointers whose targets differ are not adopted
unlike-fits : (blocks : List Block) (base : BaseTree) (in_flags_alone : Bool) →
    GivesFitting blocks base (if in_flags_alone then IsFault SpaceFault else IsFault ShapeFault)
unlike-fits blocks base true = tt
unlike-fits blocks base false = tt

-- null is 0, and each other pointer 1
truth-fits : (spot : Spot) → IsInRange kinds.Bool (spot_truth spot)
truth-fits Null = (le_z_yes tt, le_z_yes tt)
truth-fits Foreign = (le_z_yes tt, le_z_yes tt)
truth-fits (In block path index length) = (le_z_yes tt, le_z_yes tt)

-- of a pointer
pointer-fits : (blocks : List Block) (target from : TypeTree) (spot : Spot) → bare target ≡ bare from → SpotFits blocks spot from →
    (base : BaseTree) → GivesFitting blocks base (adopt_pointer target spot base)
pointer-fits blocks target from spot same fits (PointerTree wanted) =
    similar-fits blocks target from wanted spot _ same fits (unlike-fits blocks (PointerTree wanted) (differ_in_flags_alone target wanted))
    (are_same target wanted) refl
pointer-fits blocks target from spot same fits (IntegerTree kinds.Bool) = (refl, refl, refl, truth-fits spot)
pointer-fits blocks target from spot same fits (IntegerTree kind) = tt
pointer-fits blocks target from spot same fits base = tt

-- of any value
value-fits : (blocks : List Block) (value : Value) (source base : BaseTree) (qualifiers : Qualifiers) (flags : Flags) → ValueFits blocks value source →
    GivesFitting blocks base (adopt value (Typed base qualifiers flags))
value-fits blocks (Integer kind restricted fouled number) source base qualifiers flags fits = integer-fits blocks kind restricted fouled number base
value-fits blocks (Pointer target spot) (PointerTree from) base qualifiers flags (same, fits) = pointer-fits blocks target from spot same fits base
value-fits blocks (Pointer target spot) source base qualifiers flags fits = absurd fits

pub adopted_values_fit : AdoptedValuesFit
adopted_values_fit blocks value adopted (Typed source _ _) (Typed base qualifiers flags) fits is =
    subst (GivesFitting blocks base) is (value-fits blocks value source base qualifiers flags fits)
