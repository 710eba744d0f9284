-- The tests of two pointers pass exactly where their targets are so.
use Rattle.std.proofs.Common.{◌≡◌, Bool, true, false, ◌&&◌, ◌||◌, not, Decides, ◌⊎◌, inl, inr, refl, sym, ◌∙◌}
use Rattle.std.proofs.lemmas.Bool.{and_parts, and_from, false≢true}
use Rattle.meaning_types.specs.Types.{Qualifiers, Flags, TypeTree, Typed, BaseTree, PointerTree, flags_of, bare, without_flags}
use Rattle.meaning_types.specs.Equality.{are_equal_flags, are_same}
use Rattle.meaning_types.specs.Spaces.{TargetsMixSpaces, BasesMixSpaces, MixSpaces, targets_mix_spaces, mix_spaces, have_other_targets}
use Rattle.meaning_types.proofs.Equality.{are_equal_flags-Decides, are_same-Decides}
use Rattle.meaning_types.proofs.Levels.{bare-without_flags}

-- what a test denies, where it decides
denied : (test : Bool) (P : Type 0) → Decides test P → not test ≡ true → P → ⊥
denied true P decides fails p = false≢true fails
denied false P decides fails p = false≢true (decides.1 p)

-- and what it doesn't pass
not_passed : (test : Bool) (P : Type 0) → Decides test P → (P → ⊥) → not test ≡ true
not_passed true P decides fails = absurd (fails (decides.0 refl))
not_passed false P decides fails = refl

-- either test passes
or_parts : (a b : Bool) → a || b ≡ true → (a ≡ true) ⊎ (b ≡ true)
or_parts true b h = inl refl
or_parts false b h = inr h

or_left : (a b : Bool) → a ≡ true → a || b ≡ true
or_left true b h = refl
or_left false b h = absurd (false≢true h)

or_right : (a b : Bool) → b ≡ true → a || b ≡ true
or_right true b h = refl
or_right false b h = h

-- the bare targets are the same without flags
alike-Decides : (t u : TypeTree) → Decides (are_same (without_flags t) (without_flags u)) (without_flags (bare t) ≡ without_flags (bare u))
alike-Decides t u = (
  λ h. sym (bare-without_flags t) ∙ (are_same-Decides (without_flags t) (without_flags u)).0 h ∙ bare-without_flags u,
  λ e. (are_same-Decides (without_flags t) (without_flags u)).1 (bare-without_flags t ∙ e ∙ sym (bare-without_flags u)),
)

-- of two targets
targets_mix_spaces-Decides : (t u : TypeTree) → Decides (targets_mix_spaces t u) (TargetsMixSpaces t u)
targets_mix_spaces-Decides t u = (λ h. mixed (or_parts _ _ h), tested)
  where
    mixed : (not (are_equal_flags (flags_of t) (flags_of u)) ≡ true) ⊎ (not (are_same t u) && are_same (without_flags t) (without_flags u) ≡ true) → TargetsMixSpaces t u
    mixed (inl h) = inl (denied _ _ (are_equal_flags-Decides (flags_of t) (flags_of u)) h)
    mixed (inr h) = inr (denied _ _ (are_same-Decides t u) (and_parts _ _ h).0, (alike-Decides t u).0 (and_parts _ _ h).1)

    tested : TargetsMixSpaces t u → targets_mix_spaces t u ≡ true
    tested (inl differ) = or_left _ _ (not_passed _ _ (are_equal_flags-Decides (flags_of t) (flags_of u)) differ)
    tested (inr (differ, alike)) =
        or_right (not (are_equal_flags (flags_of t) (flags_of u))) _
        (and_from _ _ (not_passed _ _ (are_same-Decides t u) differ) ((alike-Decides t u).1 alike))

-- of two bases
bases_mix-Decides : (base other : BaseTree) (qualifiers others_qualifiers : Qualifiers) (flags others : Flags)
    → Decides (mix_spaces (Typed base qualifiers flags) (Typed other others_qualifiers others)) (BasesMixSpaces base other)
bases_mix-Decides (PointerTree t) (PointerTree u) qualifiers others_qualifiers flags others = targets_mix_spaces-Decides t u
bases_mix-Decides base other qualifiers others_qualifiers flags others = (λ h. absurd (false≢true h), λ h. absurd h)

-- of two types
pub mix_spaces-Decides : (type_ other : TypeTree) → Decides (mix_spaces type_ other) (MixSpaces type_ other)
mix_spaces-Decides (Typed base qualifiers flags) (Typed other others_qualifiers others) =
    bases_mix-Decides base other qualifiers others_qualifiers flags others

-- targets that mix spaces are no other ones
not_both : (mix rest : Bool) → mix ≡ true → not mix && rest ≡ false
not_both true rest h = refl
not_both false rest h = absurd (false≢true h)

bases_at_most_one : (base other : BaseTree) (qualifiers others_qualifiers : Qualifiers) (flags others : Flags)
    → mix_spaces (Typed base qualifiers flags) (Typed other others_qualifiers others) ≡ true
    → have_other_targets (Typed base qualifiers flags) (Typed other others_qualifiers others) ≡ false
bases_at_most_one (PointerTree t) (PointerTree u) qualifiers others_qualifiers flags others mix = not_both _ _ mix
bases_at_most_one base other qualifiers others_qualifiers flags others mix = refl

-- at most one of the two holds of two types
pub at_most_one : (type_ other : TypeTree) → mix_spaces type_ other ≡ true → have_other_targets type_ other ≡ false
at_most_one (Typed base qualifiers flags) (Typed other others_qualifiers others) mix =
    bases_at_most_one base other qualifiers others_qualifiers flags others mix
