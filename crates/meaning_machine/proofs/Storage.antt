-- What the machine's memory does to what fits.
use Rattle.std.proofs.Common.{◌≡◌, ℕ, zero, suc, ◌⊎◌, inl, inr, ⊎_elim, if◌then◌else◌, Bool, true, false, List, [], ◌∷◌, Option, Some, None, nat_lt, bytes_eq, slice_get, slice_set, refl, sym, ap, ◌∙◌, subst}
use Rattle.std.proofs.Math.Seq.{map-set_same}
use Rattle.std.proofs.lemmas.Option.{get_or_from_slice_get}
use Rattle.meaning_types.specs.Types.{TypeTree, Typed, IntegerTree, PointerTree, has_flag, bare}
use Rattle.meaning_types.proofs.Equality.{are_same-Decides}
use Rattle.meaning_first_rules.specs.Bindings.{Binding}
use Rattle.meaning_machine.specs.Values.{Spot, Null, Foreign, In, Value, Integer, Pointer, Lvalue, ForObject, Cell, Block, SpotFits, Fits}
use Rattle.meaning_machine.specs.Outcomes.{DeadBlock, OutOfBounds, ReadOnly, AccessFault, Answer, Gives, IsFault, IsUndefined}
use Rattle.meaning_machine.specs.Memory.{adopt, content_at, with_content, block_with, is_made_for, is_read_only, value_of_content, load_block, load_spot, load, store_block, store}
use Rattle.meaning_machine.specs.laws.Soundness.{IsUnflagged, Agree, first_blocks, LvalueFits, ValueFitsIn, CellsFit, AreSoundBlocks}
use Rattle.meaning_constants.specs.Numbers.{IsInRange}
use Rattle.meaning_constants.proofs.Numbers.{converted_is_kept}
use Rattle.meaning_machine.proofs.Similar.{flags-bare, agree-bare, fits-agreeing, slice_get-mapped}

-- Adopting

-- a value is adopted as it is to a type that it fits
adopted-fitting : (blocks : List Block) (value : Value) (wanted : TypeTree) → Fits blocks value wanted → adopt value wanted ≡ Gives value
adopted-fitting blocks (Integer kind None false number) (Typed (IntegerTree wanted) qualifiers flags) (equal, plain, clean, within) =
    ap (λ n. Gives (Integer wanted None false n)) (converted_is_kept wanted number (subst (λ k. IsInRange k number) equal within))
    ∙ ap (λ k. Gives (Integer k None false number)) (sym equal)
adopted-fitting blocks (Integer kind None true number) (Typed (IntegerTree wanted) qualifiers flags) (equal, plain, clean, within) = cc clean
adopted-fitting blocks (Integer kind (Some identity) fouled number) (Typed (IntegerTree wanted) qualifiers flags) (equal, plain, clean, within) = cc plain
adopted-fitting blocks (Integer kind restricted fouled number) (Typed base qualifiers flags) fits = absurd fits
adopted-fitting blocks (Pointer target spot) (Typed (PointerTree wanted) qualifiers flags) fits = rw ((are_same-Decides target wanted).1 fits.0) refl
adopted-fitting blocks (Pointer target spot) (Typed base qualifiers flags) fits = absurd fits

-- a value that fits is adopted as it is
pub adopted-as-it-is :
    (blocks : List Block) (value : Value) (type_ place_type wanted : TypeTree) → Fits blocks value type_ → Agree type_ place_type
    → bare wanted ≡ bare place_type → adopt value wanted ≡ Gives value
adopted-as-it-is blocks value type_ place_type wanted fits agree same =
    let at_place : Fits blocks value place_type = fits-agreeing blocks value type_ place_type agree fits in
    adopted-fitting blocks value wanted (fits-agreeing blocks value place_type wanted (agree-bare place_type wanted (sym same)) at_place)

-- Loads

-- what a load gives fits, and it is no fault
abbrev pub IsSoundLoad : List Binding → TypeTree → Answer Value → Type 0
IsSoundLoad scope type_ (Gives value) = ValueFitsIn scope value type_
IsSoundLoad scope type_ (IsFault kind) = ⊥
IsSoundLoad scope type_ (IsUndefined reason) = Unit {0}

-- what is read after the tests is sound if each value there fits
sound-reading :
    (scope : List Binding) (type_ : TypeTree) (is_alive is_within : Bool) (content : Option (Option Value))
    → ((value : Value) → content ≡ Some (Some value) → ValueFitsIn scope value type_)
    → IsSoundLoad scope type_ (if is_alive then (if is_within then value_of_content content else IsUndefined OutOfBounds) else IsUndefined DeadBlock)
sound-reading scope type_ true true None each = tt
sound-reading scope type_ true true (Some None) each = tt
sound-reading scope type_ true true (Some (Some value)) each = each value refl
sound-reading scope type_ true false content each = tt
sound-reading scope type_ false is_within content each = tt

-- a load from a block that is made for this type is sound
sound-load_block :
    (scope : List Binding) (block : Block) (declared place_type type_ : TypeTree) (path : List ℕ) (index length : ℕ)
    → CellsFit scope block → block.made ≡ ForObject declared → bare declared ≡ bare type_ → bare place_type ≡ bare type_
    → IsSoundLoad scope type_ (load_block (Some block) place_type path index length)
sound-load_block scope block declared place_type type_ path index length cells_fit made equal same =
    let is_made : is_made_for block.made place_type ≡ true =
    ap (λ m. is_made_for m place_type) made ∙ (are_same-Decides declared place_type).1 (equal ∙ sym same)
    in
    rw is_made (
    sound-reading scope type_ block.is_alive (nat_lt index length) (content_at block.cells path) (λ value stands.
    fits-agreeing (first_blocks scope) value declared type_ (agree-bare declared type_ equal) (cells_fit declared made path value stands))
    )

-- a load from a spot that fits is sound
sound-load_spot :
    (scope : List Binding) (blocks : List Block) (spot : Spot) (place_type type_ : TypeTree)
    → AreSoundBlocks scope blocks → bare place_type ≡ bare type_ → SpotFits (first_blocks scope) spot type_
    → IsSoundLoad scope type_ (load_spot blocks place_type spot)
sound-load_spot scope blocks Null place_type type_ sound same fits = tt
sound-load_spot scope blocks Foreign place_type type_ sound same fits = tt
sound-load_spot scope blocks (In block path index length) place_type type_ sound same (there, stands, (declared, made, at, count, equal), within) =
    let found : (y : Block) × (slice_get blocks block ≡ Some y) × (there.made ≡ y.made) =
    slice_get-mapped (λ (b : Block). b.made) (first_blocks scope) blocks block there (sym sound.0) stands
    in
    rw found.1 (sound-load_block scope found.0 declared place_type type_ path index length (sound.1 block found.0 found.1) (sym found.2 ∙ made) equal same)

-- a load from a place that fits is sound
pub sound-load :
    (scope : List Binding) (blocks : List Block) (place : Lvalue) (type_ : TypeTree) → AreSoundBlocks scope blocks → LvalueFits scope place type_
    → IsUnflagged type_ → IsSoundLoad scope type_ (load blocks place)
sound-load scope blocks place type_ sound fits unflagged =
    subst
    (λ (is_flagged : Bool). IsSoundLoad scope type_ (if is_flagged then IsFault AccessFault else load_spot blocks place.type_ place.spot))
    (sym (ap has_flag (flags-bare place.type_ type_ fits.0) ∙ unflagged))
    (sound-load_spot scope blocks place.spot place.type_ type_ sound fits.0 fits.1)

-- Stores

-- a store leaves blocks sound, and it is no fault
abbrev pub IsSoundStore : List Binding → Answer (List Block) → Type 0
IsSoundStore scope (Gives blocks) = AreSoundBlocks scope blocks
IsSoundStore scope (IsFault kind) = ⊥
IsSoundStore scope (IsUndefined reason) = Unit {0}

-- what stands in a list after an element is set is that element, or stood there
slice_get-set_cases : {X : Type 0} (xs : List X) (k j : ℕ) (y found : X) → slice_get (slice_set xs k y) j ≡ Some found → (found ≡ y) ⊎ (slice_get xs j ≡ Some found)
slice_get-set_cases [] k j y found stands = inr stands
slice_get-set_cases (z ∷ xs) zero zero y found stands = inl (cc stands)
slice_get-set_cases (z ∷ xs) zero (suc j) y found stands = inr stands
slice_get-set_cases (z ∷ xs) (suc k) zero y found stands = inr stands
slice_get-set_cases (z ∷ xs) (suc k) (suc j) y found stands = slice_get-set_cases xs k j y found stands

-- what is read from a cell that was written is what was written, unless another cell is read
written-cell :
    (reads : Bool) (content : Option Value) (rest : Option (Option Value)) (value found : Value)
    → (if reads then Some (Some value) else rest) ≡ Some (Some found)
    → (found ≡ value) ⊎ ((if reads then Some content else rest) ≡ Some (Some found))
written-cell true content rest value found stands = inl (cc stands)
written-cell false content rest value found stands = inr stands

-- what is read past a cell was written, or stood there, if this is so of the rest
written-rest :
    (reads : Bool) (content : Option Value) (rest after : Option (Option Value)) (value found : Value)
    → (after ≡ Some (Some found) → (found ≡ value) ⊎ (rest ≡ Some (Some found)))
    → (if reads then Some content else after) ≡ Some (Some found)
    → (found ≡ value) ⊎ ((if reads then Some content else rest) ≡ Some (Some found))
written-rest true content rest after value found step stands = inr stands
written-rest false content rest after value found step stands = step stands

-- the same of cells of which the first is written or not
written-cells :
    (is_hit : Bool) (cell : Cell) (cells : List Cell) (path other : List ℕ) (value found : Value)
    → (content_at (with_content cells path value) other ≡ Some (Some found) → (found ≡ value) ⊎ (content_at cells other ≡ Some (Some found)))
    → content_at (if is_hit then record cell { content = Some value } ∷ cells else cell ∷ with_content cells path value) other ≡ Some (Some found)
    → (found ≡ value) ⊎ (content_at (cell ∷ cells) other ≡ Some (Some found))
written-cells true cell cells path other value found step stands =
    written-cell (bytes_eq cell.path other) cell.content (content_at cells other) value found stands
written-cells false cell cells path other value found step stands =
    written-rest (bytes_eq cell.path other) cell.content (content_at cells other) (content_at (with_content cells path value) other) value found step stands

-- what stands in cells after a write was written, or stood there
content_at-written :
    (cells : List Cell) (path other : List ℕ) (value found : Value)
    → content_at (with_content cells path value) other ≡ Some (Some found)
    → (found ≡ value) ⊎ (content_at cells other ≡ Some (Some found))
content_at-written [] path other value found stands = inr stands
content_at-written (cell ∷ cells) path other value found stands =
    written-cells (bytes_eq cell.path path) cell cells path other value found (content_at-written cells path other value found) stands

-- the cells of a block fit after a write of a value that fits
fits-written :
    (scope : List Binding) (block : Block) (path : List ℕ) (value : Value) (declared : TypeTree)
    → CellsFit scope block → block.made ≡ ForObject declared → ValueFitsIn scope value declared
    → CellsFit scope (block_with block path value)
fits-written scope block path value declared cells_fit made fits named is_named other found stands =
    ⊎_elim
    (λ (written : found ≡ value). subst (λ (v : Value). ValueFitsIn scope v named) (sym written)
    (subst (λ (t : TypeTree). ValueFitsIn scope value t) (cc (made, is_named)) fits))
    (λ (stood : content_at block.cells other ≡ Some (Some found)). cells_fit named is_named other found stood)
    (content_at-written block.cells path other value found stands)

-- a write of a value that fits, into a block that is made for an object of this type, keeps blocks sound
pub sound-write :
    (scope : List Binding) (blocks : List Block) (number : ℕ) (block : Block) (path : List ℕ) (value : Value) (declared : TypeTree)
    → AreSoundBlocks scope blocks → slice_get blocks number ≡ Some block → block.made ≡ ForObject declared → ValueFitsIn scope value declared
    → AreSoundBlocks scope (slice_set blocks number (block_with block path value))
sound-write scope blocks number block path value declared sound stands made fits = (
  map-set_same (λ (b : Block). b.made) blocks number (block_with block path value) block
      (ap (λ (b : Block). b.made) (sym (get_or_from_slice_get blocks number block block stands)))
      ∙ sound.0,
  λ other found is_found.
      ⊎_elim
      (λ (written : found ≡ block_with block path value).
      subst (CellsFit scope) (sym written) (fits-written scope block path value declared (sound.1 number block stands) made fits))
      (λ (stood : slice_get blocks other ≡ Some found). sound.1 other found stood)
      (slice_get-set_cases blocks number other (block_with block path value) found is_found),
)

-- a store after the tests is sound if the blocks that it leaves are
sound-storing :
    (scope : List Binding) (blocks : List Block) (is_alive is_within is_const : Bool) → AreSoundBlocks scope blocks
    → IsSoundStore scope (if is_alive then (if is_within then (if is_const then IsUndefined ReadOnly else Gives blocks) else IsUndefined OutOfBounds)
    else IsUndefined DeadBlock)
sound-storing scope blocks true true true sound = tt
sound-storing scope blocks true true false sound = sound
sound-storing scope blocks true false is_const sound = tt
sound-storing scope blocks false is_within is_const sound = tt

-- a store of a value that fits to a spot keeps blocks sound
sound-store_spot :
    (scope : List Binding) (blocks : List Block) (spot : Spot) (type_ : TypeTree) (value : Value)
    → AreSoundBlocks scope blocks → SpotFits (first_blocks scope) spot type_ → ValueFitsIn scope value type_
    → IsSoundStore scope (store blocks spot value)
sound-store_spot scope blocks Null type_ value sound fits value_fits = tt
sound-store_spot scope blocks Foreign type_ value sound fits value_fits = tt
sound-store_spot scope blocks (In block path index length) type_ value sound (there, stands, (declared, made, at, count, equal), within) value_fits =
    let found : (y : Block) × (slice_get blocks block ≡ Some y) × (there.made ≡ y.made) =
    slice_get-mapped (λ (b : Block). b.made) (first_blocks scope) blocks block there (sym sound.0) stands
    in
    let declared_fits : ValueFitsIn scope value declared = fits-agreeing (first_blocks scope) value type_ declared (agree-bare type_ declared (sym equal)) value_fits in
    subst
    (λ (o : Option Block). IsSoundStore scope (store_block blocks block o path index length value))
    (sym found.1)
    (sound-storing scope (slice_set blocks block (block_with found.0 path value)) found.0.is_alive (nat_lt index length) (is_read_only found.0.made)
    (sound-write scope blocks block found.0 path value declared sound found.1 (sym found.2 ∙ made) declared_fits))

-- a store of a value that fits keeps blocks sound
pub sound-store :
    (scope : List Binding) (blocks : List Block) (place : Lvalue) (type_ : TypeTree) (value : Value) → AreSoundBlocks scope blocks → LvalueFits scope place type_
    → ValueFitsIn scope value type_ → IsSoundStore scope (store blocks place.spot value)
sound-store scope blocks place type_ value sound fits value_fits = sound-store_spot scope blocks place.spot type_ value sound fits.1 value_fits
