-- What holds of the usual arithmetic conversions, by looking at each pair of kinds.
use Rattle.std.proofs.Common.{◌≡◌, ℕ, zero, suc, ◌<◌, ◌≤◌, Bool, true, false, ◌||◌, not, nat_eq, nat_le, List, [], ◌∷◌, length, get_or, refl, subst, arith}
use Rattle.std.specs.List.{list_all}
use Rattle.std.proofs.lemmas.Bool.{and_parts, false≢true, leb-true}
use Rattle.std.proofs.lemmas.Bool.Decides.{Decides-eqb}
use Rattle.vocabulary.specs.declared.int_kind.IntKind.{IntKind}
use Rattle.vocabulary.specs.declared.int_kind.IntKind.TheVariants as kinds
use Rattle.meaning_types.specs.Equality.{kind_number, all_kinds, are_equal_kinds}
use Rattle.meaning_types.specs.Ranges.{width}
use Rattle.meaning_types.specs.Conversions.{conversion_rank, is_signed, usual}
use Rattle.meaning_types.proofs.Equality.{kind_at-kind_number, are_equal_kinds-Decides}

-- what passes for all in a list passes for each
all_at : {X : Type 0} (test : X → Bool) (xs : List X) (i : ℕ) (d : X) → i < length xs → list_all test xs ≡ true → test (get_or xs i d) ≡ true
all_at test [] i d within all = absurd (omega arith)
all_at test (x ∷ xs) zero d within all = (and_parts _ _ all).0
all_at test (x ∷ xs) (suc i) d within all = all_at test xs i d (omega arith) (and_parts _ _ all).1

-- each kind has a number below that of the kinds
few_kinds : (kind : IntKind) → kind_number kind < length all_kinds
few_kinds kinds.Bool = omega arith
few_kinds other = omega arith

-- a test that all kinds pass, each of them passes
pub at_kind : (test : IntKind → Bool) → list_all test all_kinds ≡ true → (kind : IntKind) → test kind ≡ true
at_kind test all kind =
    subst (λ k. test k ≡ true) (kind_at-kind_number kind) (all_at test all_kinds (kind_number kind) kinds.Bool (few_kinds kind) all)

-- so does each pair a test that all pairs pass
pub at_kinds : (test : IntKind → IntKind → Bool) → list_all (λ kind. list_all (test kind) all_kinds) all_kinds ≡ true
    → (kind other : IntKind) → test kind other ≡ true
at_kinds test all kind other = at_kind (test kind) (at_kind (λ k. list_all (test k) all_kinds) all kind) other

pub usual-commutes : (kind other : IntKind) → usual kind other ≡ usual other kind
usual-commutes kind other = (are_equal_kinds-Decides _ _).0 (at_kinds (λ k l. are_equal_kinds (usual k l) (usual l k)) refl kind other)

pub usual-at_least_int : (kind other : IntKind) → conversion_rank kinds.Int ≤ conversion_rank (usual kind other)
usual-at_least_int kind other = leb-true _ _ (at_kinds (λ k l. nat_le (conversion_rank kinds.Int) (conversion_rank (usual k l))) refl kind other)

-- one of three tests passes
third : (a b c : Bool) → a || b || c ≡ true → a ≡ false → b ≡ false → c ≡ true
third true b c h e f = cc e
third false true c h e f = cc f
third false false c h e f = h

not_is : (a : Bool) → not a ≡ true → a ≡ false
not_is true h = absurd (false≢true h)
not_is false h = refl

not_false : (a : Bool) → a ≡ true → not a ≡ false
not_false true h = refl
not_false false h = absurd (false≢true h)

pub usual-unsigned : (kind other : IntKind) → is_signed kind ≡ false → width kind ≡ width (usual kind other) → is_signed (usual kind other) ≡ false
usual-unsigned kind other unsigned wide =
    not_is _ (third (is_signed kind) (not (nat_eq (width kind) (width (usual kind other)))) (not (is_signed (usual kind other)))
    (at_kinds (λ k l. is_signed k || not (nat_eq (width k) (width (usual k l))) || not (is_signed (usual k l))) refl kind other)
    unsigned (not_false _ ((Decides-eqb _ _).1 wide)))
