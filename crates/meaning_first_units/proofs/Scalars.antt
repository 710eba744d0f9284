-- Types of objects of the first form: int with flags, and pointers to it.
use Rattle.std.proofs.Common.{◌≡◌, ℕ, zero, suc, Bool, false, refl, sym, inl, inr}
use Rattle.meaning_types.specs.Types.{Flags, TypeTree, Typed, PointerTree}
use Rattle.meaning_types.specs.Spaces.{MixSpaces, TargetsMixSpaces, is_void}
use Rattle.meaning_layout.specs.Sizes.{Told}
use Rattle.meaning_typing.specs.Aggregates.{is_const_within}
use Rattle.meaning_typing.specs.Facts.{decays}
use Rattle.meaning_typing.specs.Operators.{has_no_size}
use Rattle.meaning_first_rules.specs.Typing.{behind_stars, int_with}

-- the type of an object with so many stars
abbrev pub scalar : ℕ → Flags → TypeTree
scalar stars flags = behind_stars stars (int_with flags)

pub scalar-decays : (stars : ℕ) (flags : Flags) → decays (scalar stars flags) ≡ false
scalar-decays zero flags = refl
scalar-decays (suc stars) flags = refl

pub scalar-size : (told : Told) (stars : ℕ) (flags : Flags) → has_no_size told (scalar stars flags) ≡ false
scalar-size told zero flags = refl
scalar-size told (suc stars) flags = refl

pub scalar-const : (has_const : ℕ → Bool) (stars : ℕ) (flags : Flags) → is_const_within has_const (scalar stars flags) ≡ false
scalar-const has_const zero flags = refl
scalar-const has_const (suc stars) flags = refl

pub scalar-void : (stars : ℕ) (flags : Flags) → is_void (scalar stars flags) ≡ false
scalar-void zero flags = refl
scalar-void (suc stars) flags = refl

-- which of two types is told first doesn't matter
targets-turned : (t u : TypeTree) → TargetsMixSpaces t u → TargetsMixSpaces u t
targets-turned t u (inl differ) = inl (λ same. differ (sym same))
targets-turned t u (inr differ) = inr (λ same. differ.0 (sym same), sym differ.1)

pub mixed-turned : (type_ other : TypeTree) → MixSpaces type_ other → MixSpaces other type_
mixed-turned (Typed (PointerTree t) q f) (Typed (PointerTree u) r g) mixed = targets-turned t u mixed
mixed-turned (Typed base q f) (Typed other r g) mixed = absurd mixed
