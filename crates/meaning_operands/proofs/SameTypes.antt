-- A value becomes a value of the same type without a failure: by the forms of both.
use Rattle.std.proofs.Common.{◌≡◌, Bool, true, false, ◌&&◌, ◌||◌, not, if◌then◌else◌, refl, sym}
use Rattle.std.proofs.lemmas.Bool.{and_parts, false≢true}
use Rattle.vocabulary.specs.declared.rule.RuleCode.TheVariants.{A1, A2, B3}
use Rattle.meaning_types.specs.Types.{Qualifiers, Flags, TypeTree, Typed, BaseTree, VoidTree, IntegerTree, RestrictedTree, PointerTree, ArrayTree, FunctionTree, AggregateTree}
use Rattle.meaning_types.specs.Equality.{are_same, are_same_bases}
use Rattle.meaning_types.specs.Spaces.{is_void, targets_mix_spaces, are_other_targets}
use Rattle.meaning_operands.specs.Conversions.{Fine, Fails, Constraint, answer_of_bases, conversion_answer}
use Rattle.meaning_operands.specs.laws.Conversions.{is_held, SameTypesConvert}

-- equal flags and one type leave nothing that mixes
nothing_mixes : (equal same alike : Bool) → equal ≡ true → same ≡ true → not equal || (not same && alike) ≡ false
nothing_mixes true true alike h k = refl
nothing_mixes true false alike h k = absurd (false≢true k)
nothing_mixes false same alike h k = absurd (false≢true h)

-- one type is no other one
nothing_differs : (mix same other : Bool) → same ≡ true → not mix && (not same && other) ≡ false
nothing_differs true same other h = refl
nothing_differs false true other h = refl
nothing_differs false false other h = absurd (false≢true h)

same_targets_do_not_mix : (t u : TypeTree) → are_same t u ≡ true → targets_mix_spaces t u ≡ false
same_targets_do_not_mix (Typed base qualifiers flags) (Typed other others marks) same =
    nothing_mixes _ (are_same (Typed base qualifiers flags) (Typed other others marks)) _ (and_parts _ _ same).0 same

same_targets_are_no_others : (t u : TypeTree) → are_same t u ≡ true → are_other_targets t u ≡ false
same_targets_are_no_others t u same = nothing_differs (targets_mix_spaces t u) (are_same t u) (not (is_void t || is_void u)) same

-- What is decided of each form

fine_pointers : (null mix other : Bool) → mix ≡ false → other ≡ false
    → (if null then Fine else (if mix then Fails A1 else (if other then Fails A2 else Fine))) ≡ Fine
fine_pointers true mix other h k = refl
fine_pointers false true other h k = absurd (false≢true (sym h))
fine_pointers false false true h k = absurd (false≢true (sym k))
fine_pointers false false false h k = refl

fine_integers : (zero one : Bool) → one ≡ true → (if zero then Fine else (if one then Fine else Fails B3)) ≡ Fine
fine_integers true one h = refl
fine_integers false true h = refl
fine_integers false false h = absurd (false≢true h)

fine_aggregates : (one : Bool) → one ≡ true → (if one then Fine else Constraint) ≡ Fine
fine_aggregates true h = refl
fine_aggregates false h = absurd (false≢true h)

-- Where both are of one form. Others aren't the same, and a void, an array and a function hold no value.
by_bases : (base target : BaseTree) (qualifiers others : Qualifiers) (flags marks : Flags) (fouled zero null : Bool)
    → are_same_bases base target ≡ true → is_held (Typed target others marks) ≡ true
    → answer_of_bases (record { of = Typed base qualifiers flags; fouled = fouled; zero = zero }) null (Typed target others marks) base target ≡ Fine
by_bases (IntegerTree kind) (IntegerTree other) qualifiers others flags marks fouled zero null same held = fine_integers zero true refl
by_bases (RestrictedTree kind identity) (RestrictedTree other another) qualifiers others flags marks fouled zero null same held =
    fine_integers zero _ (and_parts _ _ same).1
by_bases (PointerTree t) (PointerTree u) qualifiers others flags marks fouled zero null same held =
    fine_pointers null _ _ (same_targets_do_not_mix t u same) (same_targets_are_no_others t u same)
by_bases (AggregateTree number is_union) (AggregateTree other is_other_union) qualifiers others flags marks fouled zero null same held =
    fine_aggregates _ same
by_bases base VoidTree qualifiers others flags marks fouled zero null same held = absurd (false≢true held)
by_bases base (ArrayTree element length) qualifiers others flags marks fouled zero null same held = absurd (false≢true held)
by_bases base (FunctionTree result parameters variadic) qualifiers others flags marks fouled zero null same held = absurd (false≢true held)
by_bases base target qualifiers others flags marks fouled zero null same held = absurd (false≢true same)

by_types : (of : TypeTree) (fouled zero null : Bool) (to : TypeTree) → are_same of to ≡ true → is_held to ≡ true
    → conversion_answer (record { of = of; fouled = fouled; zero = zero }) null to ≡ Fine
by_types (Typed base qualifiers flags) fouled zero null (Typed target others marks) same held =
    by_bases base target qualifiers others flags marks fouled zero null (and_parts _ _ same).1 held

pub same_types_convert : SameTypesConvert
same_types_convert from null to same held = by_types from.of from.fouled from.zero null to same held
