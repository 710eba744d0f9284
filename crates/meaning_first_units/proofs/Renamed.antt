-- Types whose address spaces have other names: which flags they have, and which of them mix spaces.
use Rattle.std.proofs.Common.{◌≡◌, inl, inr, ℕ, zero, suc, Bool, ◌||◌, refl, sym, ap, ◌∙◌}
use Rattle.meaning_types.specs.Types.{Space, NoSpace, NumberedSpace, NamedSpace, Flags, TypeTree, Typed, PointerTree, bare, flags_of, has_flag, is_space, no_flags, pointer_to, value_type, without_flags}
use Rattle.meaning_types.specs.Spaces.{MixSpaces, TargetsMixSpaces}
use Rattle.meaning_first_rules.specs.Typing.{int_with}
use Rattle.meaning_first_units.specs.Units.{Renaming}
use Rattle.meaning_first_units.proofs.Scalars.{scalar}

abbrev pub renamed_space : Renaming → Space → Space
renamed_space renaming NoSpace = NoSpace
renamed_space renaming (NumberedSpace number) = NumberedSpace number
renamed_space renaming (NamedSpace name) = NamedSpace (renaming name)

abbrev pub renamed_flags : Renaming → Flags → Flags
renamed_flags renaming flags = record flags { space = renamed_space renaming flags.space }

-- the type of an object with so many stars, whose space has another name
abbrev pub renamed_scalar : Renaming → ℕ → Flags → TypeTree
renamed_scalar renaming stars flags = scalar stars (renamed_flags renaming flags)

-- Flags

module _ (renaming : Renaming) where
  space-stays : (space : Space) → is_space (renamed_space renaming space) ≡ is_space space
  space-stays NoSpace = refl
  space-stays (NumberedSpace number) = refl
  space-stays (NamedSpace name) = refl

  pub flag-stays : (stars : ℕ) (flags : Flags) → has_flag (flags_of (renamed_scalar renaming stars flags)) ≡ has_flag (flags_of (scalar stars flags))
  flag-stays zero flags = ap (λ b. flags.noderef || b) (space-stays flags.space)
  flag-stays (suc stars) flags = refl

  no-space : (space : Space) → renamed_space renaming space ≡ NoSpace → space ≡ NoSpace
  no-space NoSpace is = refl
  no-space (NumberedSpace number) is = absurd (cc is)
  no-space (NamedSpace name) is = absurd (cc is)

  without-flags : (flags : Flags) → renamed_flags renaming flags ≡ no_flags → flags ≡ no_flags
  without-flags flags is =
      ap (λ (b : Bool). record { noderef = b; space = flags.space }) (ap (λ (f : Flags). f.noderef) is)
      ∙ ap (λ space. record no_flags { space = space }) (no-space flags.space (ap (λ (f : Flags). f.space) is))

  -- Targets

  abbrev target_or : TypeTree → TypeTree → TypeTree
  target_or otherwise (Typed (PointerTree target) qualifiers flags) = target
  target_or otherwise (Typed base qualifiers flags) = otherwise

  -- without flags one space is like another
  no-flags-left : (stars : ℕ) (flags : Flags) → without_flags (bare (renamed_scalar renaming stars flags)) ≡ without_flags (bare (scalar stars flags))
  no-flags-left zero flags = refl
  no-flags-left (suc stars) flags = ap pointer_to (no-flags-left stars flags)

  module _ (flags other : Flags) (apart : renamed_flags renaming flags ≡ renamed_flags renaming other → flags ≡ other) where
    same-flags : (stars more : ℕ) → flags_of (renamed_scalar renaming stars flags) ≡ flags_of (renamed_scalar renaming more other)
        → flags_of (scalar stars flags) ≡ flags_of (scalar more other)
    same-flags zero zero is = apart is
    same-flags zero (suc more) is = without-flags flags is
    same-flags (suc stars) zero is = sym (without-flags other (sym is))
    same-flags (suc stars) (suc more) is = refl

    same-bare : (stars more : ℕ) → bare (renamed_scalar renaming stars flags) ≡ bare (renamed_scalar renaming more other)
        → bare (scalar stars flags) ≡ bare (scalar more other)
    same-bare zero zero is = ap int_with (apart (ap flags_of is))
    same-bare zero (suc more) is = absurd (cc is)
    same-bare (suc stars) zero is = absurd (cc is)
    same-bare (suc stars) (suc more) is =
        ap pointer_to (same-bare stars more (ap (target_or (scalar 0 no_flags)) is))

    targets-renamed : (stars more : ℕ) → TargetsMixSpaces (scalar stars flags) (scalar more other)
        → TargetsMixSpaces (renamed_scalar renaming stars flags) (renamed_scalar renaming more other)
    targets-renamed stars more (inl differ) = inl (λ same. differ (same-flags stars more same))
    targets-renamed stars more (inr differ) =
        inr (λ same. differ.0 (same-bare stars more same), no-flags-left stars flags ∙ differ.1 ∙ sym (no-flags-left more other))

    -- a place and a value that mix spaces do so under other names
    pub mixed-renamed : (stars more : ℕ) → MixSpaces (scalar stars flags) (value_type (scalar more other))
        → MixSpaces (renamed_scalar renaming stars flags) (value_type (renamed_scalar renaming more other))
    mixed-renamed zero zero mixed = absurd mixed
    mixed-renamed zero (suc more) mixed = absurd mixed
    mixed-renamed (suc stars) zero mixed = absurd mixed
    mixed-renamed (suc stars) (suc more) mixed = targets-renamed stars more mixed
