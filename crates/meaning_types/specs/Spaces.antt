-- When two pointers mix address spaces, and when they have other targets.
use Rattle.std.specs.Prelude.{◌≡◌, ◌≢◌, ◌⊎◌, Bool, true, false, ◌&&◌, ◌||◌, not}
use Rattle.meaning_types.specs.Types.{TypeTree, Typed, BaseTree, VoidTree, PointerTree, flags_of, bare, without_flags}
use Rattle.meaning_types.specs.Equality.{are_equal_flags, are_same}

-- the flags of the targets differ, or the bare targets differ, but not once all flags are removed at every level
abbrev pub TargetsMixSpaces : TypeTree → TypeTree → Type 0
TargetsMixSpaces t u = (flags_of t ≢ flags_of u) ⊎ ((bare t ≢ bare u) × (without_flags (bare t) ≡ without_flags (bare u)))

-- both bases are pointers, and their targets mix spaces
abbrev pub BasesMixSpaces : BaseTree → BaseTree → Type 0
BasesMixSpaces (PointerTree t) (PointerTree u) = TargetsMixSpaces t u
BasesMixSpaces base other = ⊥

-- both types are pointers, and their targets mix spaces
abbrev pub MixSpaces : TypeTree → TypeTree → Type 0
MixSpaces (Typed base _ _) (Typed other _ _) = BasesMixSpaces base other

-- The same as tests

-- the targets mix spaces
abbrev pub targets_mix_spaces : TypeTree → TypeTree → Bool
targets_mix_spaces t u =
    not (are_equal_flags (flags_of t) (flags_of u)) || (not (are_same t u) && are_same (without_flags t) (without_flags u))

-- void, with any qualifiers and flags
abbrev pub is_void : TypeTree → Bool
is_void (Typed VoidTree _ _) = true
is_void (Typed base _ _) = false

-- the targets are other ones: they mix no spaces, aren't the same, and neither is void
abbrev pub are_other_targets : TypeTree → TypeTree → Bool
are_other_targets t u = not (targets_mix_spaces t u) && (not (are_same t u) && not (is_void t || is_void u))

-- a test of two targets, where both types are pointers
module _ (test : TypeTree → TypeTree → Bool) where
  abbrev pub of_targets : TypeTree → TypeTree → Bool
  of_targets (Typed (PointerTree t) _ _) (Typed (PointerTree u) _ _) = test t u
  of_targets type_ other = false

-- two pointers mix spaces
abbrev pub mix_spaces : TypeTree → TypeTree → Bool
mix_spaces type_ other = of_targets targets_mix_spaces type_ other

-- two pointers have other targets
abbrev pub have_other_targets : TypeTree → TypeTree → Bool
have_other_targets type_ other = of_targets are_other_targets type_ other
