-- Which declared objects mix address spaces, by their stars and the flags of their ints.
use Rattle.std.proofs.Common.{◌≡◌, ℕ, zero, suc, Bool, true, false, ◌&&◌, not, nat_eq, nat_lt, Decides, ◌≢◌, inl, inr, refl, sym, ap, ◌∙◌, arith}
use Rattle.std.proofs.lemmas.Bool.{both_ways, not_from_false, not-true, and_parts, and_from, lt-ltb, false_from_ne_true, eqb-true}
use Rattle.std.proofs.lemmas.Bool.Decides.{Decides-eqb}
use Rattle.std.proofs.lemmas.Slice.Eq.{bytes_eq-Decides}
use Rattle.meaning_types.specs.Types.{Space, NoSpace, NumberedSpace, NamedSpace, Flags, no_flags, no_qualifiers, TypeTree, Typed, BaseTree, IntegerTree, PointerTree, flags_of, bare, without_flags, has_flag, value_type}
use Rattle.meaning_types.specs.Spaces.{MixSpaces, TargetsMixSpaces}
use Rattle.meaning_first_rules.specs.Typing.{behind_stars, int_with, declared_type, int_flags}
use Rattle.meaning_syntax.specs.Binding.{Declared}
use Rattle.meaning_types.specs.Equality.{are_equal_flags}
use Rattle.meaning_types.proofs.Equality.{are_equal_flags-Decides}
use Rattle.meaning_first_rules.specs.plain.Judging.{is_flagged_int}

-- Pointers to ints

-- a pointer to an int has no qualifiers
bare-behind_stars : (stars : ℕ) (flags : Flags) → bare (behind_stars stars (int_with flags)) ≡ behind_stars stars (int_with flags)
bare-behind_stars zero flags = refl
bare-behind_stars (suc stars) flags = ap (λ target. Typed (PointerTree target) no_qualifiers no_flags) (bare-behind_stars stars flags)

-- and only the int has flags
without_flags-behind_stars : (stars : ℕ) (flags : Flags) → without_flags (behind_stars stars (int_with flags)) ≡ behind_stars stars (int_with no_flags)
without_flags-behind_stars zero flags = refl
without_flags-behind_stars (suc stars) flags = ap (λ target. Typed (PointerTree target) no_qualifiers no_flags) (without_flags-behind_stars stars flags)

-- under equally many stars, equal types have equal flags
behind_stars-injective : (stars : ℕ) (f g : Flags) → behind_stars stars (int_with f) ≡ behind_stars stars (int_with g) → f ≡ g
behind_stars-injective zero f g h = ap flags_of h
behind_stars-injective (suc stars) f g h = behind_stars-injective stars f g (ap target_of h)
  where
    target_of_base : BaseTree → TypeTree
    target_of_base (PointerTree target) = target
    target_of_base base = int_with no_flags

    target_of : TypeTree → TypeTree
    target_of (Typed base qualifiers flags) = target_of_base base

-- the bare targets differ where the flags do
bare_targets_differ : (stars : ℕ) (f g : Flags) → f ≢ g → bare (behind_stars stars (int_with f)) ≢ bare (behind_stars stars (int_with g))
bare_targets_differ stars f g differ h = differ (behind_stars-injective stars f g (sym (bare-behind_stars stars f) ∙ h ∙ bare-behind_stars stars g))

-- and are the same without flags
same_without_flags :
    (stars : ℕ) (f g : Flags) →
    without_flags (bare (behind_stars stars (int_with f))) ≡ without_flags (bare (behind_stars stars (int_with g)))
same_without_flags stars f g =
    ap without_flags (bare-behind_stars stars f) ∙ without_flags-behind_stars stars f ∙ sym (without_flags-behind_stars stars g)
    ∙ sym (ap without_flags (bare-behind_stars stars g))

-- under equally many stars, at least one, types with different flags mix spaces
pub stars_mix : (stars : ℕ) (f g : Flags) → f ≢ g → TargetsMixSpaces (behind_stars stars (int_with f)) (behind_stars stars (int_with g))
stars_mix stars f g differ = inr (bare_targets_differ stars f g differ, same_without_flags stars f g)

-- and types with equal flags do not
stars_do_not_mix : (stars : ℕ) (f g : Flags) → f ≡ g → TargetsMixSpaces (behind_stars stars (int_with f)) (behind_stars stars (int_with g)) → ⊥
stars_do_not_mix stars f g same (inl h) = h (ap (λ flags. flags_of (behind_stars stars (int_with flags))) same)
stars_do_not_mix stars f g same (inr h) = h.0 (ap (λ flags. bare (behind_stars stars (int_with flags))) same)

-- whether objects with so many stars mix spaces
abbrev tested : ℕ → Flags → Flags → Bool
tested stars f g = nat_lt 0 stars && not (are_equal_flags f g)

-- flags that do not pass the test differ
differ_from_test : (f g : Flags) → not (are_equal_flags f g) ≡ true → f ≢ g
differ_from_test f g h e = both_ways (are_equal_flags f g) (not-true (are_equal_flags f g) h) ((are_equal_flags-Decides f g).1 e)

-- flags of types that mix spaces do not pass the test
test_from_mixed :
    (stars : ℕ) (f g : Flags) → TargetsMixSpaces (behind_stars stars (int_with f)) (behind_stars stars (int_with g)) →
    not (are_equal_flags f g) ≡ true
test_from_mixed stars f g h =
    not_from_false (are_equal_flags f g) (false_from_ne_true (are_equal_flags f g) (λ e. stars_do_not_mix stars f g ((are_equal_flags-Decides f g).0 e) h))

-- the test passes exactly where types under equally many stars mix spaces
stars_mix-Decides :
    (stars : ℕ) (f g : Flags) →
    Decides (tested stars f g) (MixSpaces (behind_stars stars (int_with f)) (value_type (behind_stars stars (int_with g))))
stars_mix-Decides zero f g = (λ h. grind arith, λ h. absurd h)
stars_mix-Decides (suc stars) f g = (
  λ h. stars_mix stars f g (differ_from_test f g (and_parts _ _ h).1),
  λ h. and_from _ _ (lt-ltb 0 (suc stars) (omega arith)) (test_from_mixed stars f g h),
)

-- of two objects with equally many stars: the test passes exactly where their types mix spaces
pub declared-MixSpaces-Decides :
    (target source : Declared) → nat_eq target.stars source.stars ≡ true →
    Decides (nat_lt 0 target.stars && not (are_equal_flags (int_flags target) (int_flags source))) (MixSpaces (declared_type target) (value_type (declared_type source)))
declared-MixSpaces-Decides target source equal =
    rw (← eqb-true target.stars source.stars equal) (stars_mix-Decides target.stars (int_flags target) (int_flags source))

-- pointers have no flag, an int has those that it is declared with
stars-has_flag : (stars : ℕ) (flags : Flags) → has_flag (flags_of (behind_stars stars (int_with flags))) ≡ (nat_eq stars 0 && has_flag flags)
stars-has_flag zero flags = refl
stars-has_flag (suc stars) flags = grind arith

-- a place has a flag exactly where it is an int that is declared with one
pub has_flag-declared_type : (declared : Declared) → has_flag (flags_of (declared_type declared)) ≡ is_flagged_int declared
has_flag-declared_type declared = stars-has_flag declared.stars (int_flags declared)
