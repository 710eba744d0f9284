-- What holds of the sizes of types.
use Rattle.std.specs.Prelude.{◌≡◌, ℕ, ◌<◌, ◌≤◌, ◌%◌, Bool, IfOk, IfSome}
use Rattle.meaning_types.specs.Types.{TypeTree}
use Rattle.meaning_layout.specs.Layouts.{most_bytes}
use Rattle.meaning_layout.specs.Sizes.{Told, extent_of}

-- a size is a multiple of its alignment, which is some, and no more than the most bytes
pub record IsWhole (size align : ℕ) : Type 0 where
  pub some : 0 < align
  pub multiple : size % align ≡ 0
  pub few : size ≤ most_bytes

-- each layout that was told is so
abbrev pub AreWhole : Told → Type 0
AreWhole told = (number : ℕ) (is_union : Bool) → IfSome (told number is_union) (λ made. IfOk made (λ layout. IsWhole layout.size layout.align))

-- and then each type with a size is
abbrev pub TypesAreWhole : Type 0
TypesAreWhole = (told : Told) → AreWhole told → (type_ : TypeTree) → IfOk (extent_of told type_) (λ extent. IsWhole extent.size extent.align)
