-- Types that are equal but for const and volatile, and what fits them.
use Rattle.std.proofs.Common.{◌≡◌, ℕ, zero, suc, List, [], ◌∷◌, Some, map, slice_get, refl, sym, ap, ◌∙◌}
use Rattle.meaning_types.specs.Types.{TypeTree, Typed, BaseTree, IntegerTree, PointerTree, flags_of, bare, bare_base}
use Rattle.meaning_machine.specs.Values.{Spot, Null, Foreign, In, Value, Integer, Pointer, Block, SpotFits, ValueFits, Fits}
use Rattle.meaning_machine.specs.laws.Soundness.{Agree}

-- Similar types

-- the base of a type
abbrev pub base_of : TypeTree → BaseTree
base_of (Typed base qualifiers flags) = base

-- types that are equal without const and volatile have the same flags
pub flags-bare : (type_ other : TypeTree) → bare type_ ≡ bare other → flags_of type_ ≡ flags_of other
flags-bare (Typed base qualifiers flags) (Typed other others_qualifiers others) same = ap flags_of same

-- types that are equal without const and volatile agree
pub agree-bare : (type_ other : TypeTree) → bare type_ ≡ bare other → Agree type_ other
agree-bare (Typed base qualifiers flags) (Typed other others_qualifiers others) same = ap base_of same

-- What fits

-- what a pointer to the one type may point to, a pointer to the other may
pub spot-agreeing : (blocks : List Block) (spot : Spot) (type_ other : TypeTree) → bare type_ ≡ bare other → SpotFits blocks spot type_ → SpotFits blocks spot other
spot-agreeing blocks Null type_ other same fits = tt
spot-agreeing blocks Foreign type_ other same fits = tt
spot-agreeing blocks (In block path index length) type_ other same (there, stands, (declared, made, at, count, equal), within) =
    (there, stands, (declared, made, at, count, equal ∙ same), within)

-- what fits a base fits each that is equal without const and volatile
fits-equal_base :
    (blocks : List Block) (value : Value) (base other : BaseTree) → bare_base base ≡ bare_base other → ValueFits blocks value base → ValueFits blocks value other
fits-equal_base blocks (Integer kind restricted fouled number) (IntegerTree wanted) (IntegerTree other) same (equal, plain, clean, within) =
    (equal ∙ cc same, plain, clean, within)
fits-equal_base blocks (Integer kind restricted fouled number) (IntegerTree wanted) other same fits = absurd (cc same)
fits-equal_base blocks (Integer kind restricted fouled number) base other same fits = absurd fits
fits-equal_base blocks (Pointer target spot) (PointerTree wanted) (PointerTree other) same (equal, spot_fits) =
    let targets : bare wanted ≡ bare other = cc same in
    (equal ∙ targets, spot-agreeing blocks spot wanted other targets spot_fits)
fits-equal_base blocks (Pointer target spot) (PointerTree wanted) other same fits = absurd (cc same)
fits-equal_base blocks (Pointer target spot) base other same fits = absurd fits

-- what fits a type fits each that agrees with it
pub fits-agreeing : (blocks : List Block) (value : Value) (type_ other : TypeTree) → Agree type_ other → Fits blocks value type_ → Fits blocks value other
fits-agreeing blocks value (Typed base qualifiers flags) (Typed other others_qualifiers others) agree fits = fits-equal_base blocks value base other agree fits

-- what stands at an index of a list stands, as far as a function sees it, at this index of each list that the function maps to the same
pub slice_get-mapped :
    {X Y : Type 0} (f : X → Y) (xs ys : List X) (k : ℕ) (x : X) → map f xs ≡ map f ys → slice_get xs k ≡ Some x → (y : X) × (slice_get ys k ≡ Some y) × (f x ≡ f y)
slice_get-mapped f [] ys k x same stands = cc stands
slice_get-mapped f (z ∷ xs) [] k x same stands = cc same
slice_get-mapped f (z ∷ xs) (w ∷ ys) zero x same stands = (w, refl, cc (same, stands))
slice_get-mapped f (z ∷ xs) (w ∷ ys) (suc k) x same stands = slice_get-mapped f xs ys k x (cc same) stands

-- what a pointer may point to depends on what the blocks are made for alone
pub spot-made :
    (blocks others : List Block) (spot : Spot) (type_ : TypeTree) → map (λ block. block.made) blocks ≡ map (λ block. block.made) others
    → SpotFits blocks spot type_ → SpotFits others spot type_
spot-made blocks others Null type_ same fits = tt
spot-made blocks others Foreign type_ same fits = tt
spot-made blocks others (In block path index length) type_ same (there, stands, (declared, made, at, count, equal), within) =
    let found : (y : Block) × (slice_get others block ≡ Some y) × (there.made ≡ y.made) = slice_get-mapped (λ b. b.made) blocks others block there same stands in
    (found.0, found.1, (declared, sym found.2 ∙ made, at, count, equal), within)

-- and so does what fits a base
value-made :
    (blocks others : List Block) (value : Value) (base : BaseTree) → map (λ block. block.made) blocks ≡ map (λ block. block.made) others
    → ValueFits blocks value base → ValueFits others value base
value-made blocks others (Integer kind restricted fouled number) (IntegerTree wanted) same fits = fits
value-made blocks others (Integer kind restricted fouled number) base same fits = absurd fits
value-made blocks others (Pointer target spot) (PointerTree wanted) same (equal, spot_fits) = (equal, spot-made blocks others spot wanted same spot_fits)
value-made blocks others (Pointer target spot) base same fits = absurd fits

-- what fits depends on what the blocks are made for alone
pub fits-made :
    (blocks others : List Block) (value : Value) (type_ : TypeTree) → map (λ block. block.made) blocks ≡ map (λ block. block.made) others
    → Fits blocks value type_ → Fits others value type_
fits-made blocks others value (Typed base qualifiers flags) same fits = value-made blocks others value base same fits
