-- The tests of equality pass exactly where the parts are equal.
use Rattle.std.proofs.Common.{◌≡◌, Bool, true, false, ℕ, Option, Some, None, get_or, Decides, refl, sym, ap, ◌∙◌, arith}
use Rattle.std.proofs.lemmas.Bool.{and_parts, and_from, false≢true}
use Rattle.std.proofs.lemmas.Bool.Decides.{Decides-eqb}
use Rattle.std.proofs.lemmas.Slice.Eq.{bytes_eq-Decides}
use Rattle.vocabulary.specs.declared.int_kind.IntKind.{IntKind}
use Rattle.vocabulary.specs.declared.int_kind.IntKind.TheVariants as kinds
use Rattle.meaning_types.specs.Types.{Space, NoSpace, NumberedSpace, NamedSpace, Flags, TypeTree, Typed, BaseTree, VoidTree, IntegerTree, RestrictedTree, PointerTree, ArrayTree, FunctionTree, AggregateTree, TypeTrees, NoTypes, MoreTypes, no_qualifiers, flags_of, bare, bare_base, bare_types}
use Rattle.meaning_types.specs.Equality.{kind_number, all_kinds, are_equal_kinds, are_equal_spaces, are_equal_bools, are_equal_flags, are_equal_lengths, are_same, are_same_bases, are_same_types}

-- a kind is told by its number
pub kind_at-kind_number : (kind : IntKind) → get_or all_kinds (kind_number kind) kinds.Bool ≡ kind
kind_at-kind_number kinds.Bool = refl
kind_at-kind_number other = refl

-- two kinds are equal
pub are_equal_kinds-Decides : (kind other : IntKind) → Decides (are_equal_kinds kind other) (kind ≡ other)
are_equal_kinds-Decides kind other = (
  λ same. sym (kind_at-kind_number kind) ∙ ap (λ n. get_or all_kinds n kinds.Bool) ((Decides-eqb (kind_number kind) (kind_number other)).0 same) ∙ kind_at-kind_number other,
  λ same. (Decides-eqb (kind_number kind) (kind_number other)).1 (ap kind_number same),
)

-- two tests are equal
pub are_equal_bools-Decides : (a b : Bool) → Decides (are_equal_bools a b) (a ≡ b)
are_equal_bools-Decides true true = (λ h. refl, λ h. refl)
are_equal_bools-Decides true false = grind arith
are_equal_bools-Decides false true = grind arith
are_equal_bools-Decides false false = (λ h. refl, λ h. refl)

-- two spaces are equal
pub are_equal_spaces-Decides : (a b : Space) → Decides (are_equal_spaces a b) (a ≡ b)
are_equal_spaces-Decides NoSpace NoSpace = (λ h. refl, λ h. refl)
are_equal_spaces-Decides NoSpace (NumberedSpace n) = grind arith
are_equal_spaces-Decides NoSpace (NamedSpace y) = grind arith
are_equal_spaces-Decides (NumberedSpace m) NoSpace = grind arith
are_equal_spaces-Decides (NumberedSpace m) (NumberedSpace n) = (λ h. ap NumberedSpace ((Decides-eqb m n).0 h), λ e. (Decides-eqb m n).1 (cc e))
are_equal_spaces-Decides (NumberedSpace m) (NamedSpace y) = grind arith
are_equal_spaces-Decides (NamedSpace x) NoSpace = grind arith
are_equal_spaces-Decides (NamedSpace x) (NumberedSpace n) = grind arith
are_equal_spaces-Decides (NamedSpace x) (NamedSpace y) = (λ h. ap NamedSpace ((bytes_eq-Decides x y).0 h), λ e. (bytes_eq-Decides x y).1 (cc e))

-- flags pass the test exactly where they are equal
pub are_equal_flags-Decides : (f g : Flags) → Decides (are_equal_flags f g) (f ≡ g)
are_equal_flags-Decides f g = (
  λ h. same (and_parts _ _ h).0 (and_parts _ _ h).1,
  λ e. and_from _ _ ((are_equal_bools-Decides f.noderef g.noderef).1 (ap (λ x. x.noderef) e)) ((are_equal_spaces-Decides f.space g.space).1 (ap (λ x. x.space) e)),
)
  where
    same : are_equal_bools f.noderef g.noderef ≡ true → are_equal_spaces f.space g.space ≡ true → f ≡ g
    same h k = λ i. record { noderef = (are_equal_bools-Decides f.noderef g.noderef).0 h i; space = (are_equal_spaces-Decides f.space g.space).0 k i }

-- two lengths are equal
pub are_equal_lengths-Decides : (a b : Option ℕ) → Decides (are_equal_lengths a b) (a ≡ b)
are_equal_lengths-Decides None None = (λ h. refl, λ h. refl)
are_equal_lengths-Decides None (Some n) = grind arith
are_equal_lengths-Decides (Some m) None = grind arith
are_equal_lengths-Decides (Some m) (Some n) = (λ h. ap Some ((Decides-eqb m n).0 h), λ e. (Decides-eqb m n).1 (cc e))

-- the base of a type
abbrev base_of : TypeTree → BaseTree
base_of (Typed base qualifiers flags) = base

-- types that pass are equal but for const and volatile
mutual
  bare-from_same : (type_ other : TypeTree) → are_same type_ other ≡ true → bare type_ ≡ bare other
  bare-from_same (Typed base _ flags) (Typed other _ others) passed =
      let parts = and_parts _ _ passed in
      let equal = (are_equal_flags-Decides flags others).0 parts.0 in
      λ i. Typed (bare_bases-from_same base other parts.1 i) no_qualifiers (equal i)

  bare_bases-from_same : (base other : BaseTree) → are_same_bases base other ≡ true → bare_base base ≡ bare_base other
  bare_bases-from_same VoidTree VoidTree passed = refl
  bare_bases-from_same (IntegerTree kind) (IntegerTree other) passed = ap IntegerTree ((are_equal_kinds-Decides kind other).0 passed)
  bare_bases-from_same (RestrictedTree kind identity) (RestrictedTree other another) passed =
      let parts = and_parts _ _ passed in
      let kinds_equal = (are_equal_kinds-Decides kind other).0 parts.0 in
      let identities_equal = (Decides-eqb identity another).0 parts.1 in
      λ i. RestrictedTree (kinds_equal i) (identities_equal i)
  bare_bases-from_same (PointerTree target) (PointerTree other) passed = ap PointerTree (bare-from_same target other passed)
  bare_bases-from_same (ArrayTree element length) (ArrayTree other another) passed =
      let parts = and_parts _ _ passed in
      let elements = bare-from_same element other parts.0 in
      let lengths = (are_equal_lengths-Decides length another).0 parts.1 in
      λ i. ArrayTree (elements i) (lengths i)
  bare_bases-from_same (FunctionTree result parameters variadic) (FunctionTree other others another) passed =
      let parts = and_parts _ _ passed in
      let more = and_parts _ _ parts.1 in
      let results = bare-from_same result other parts.0 in
      let all = bare_types-from_same parameters others more.0 in
      let marks = (are_equal_bools-Decides variadic another).0 more.1 in
      λ i. FunctionTree (results i) (all i) (marks i)
  bare_bases-from_same (AggregateTree number is_union) (AggregateTree other another) passed =
      let parts = and_parts _ _ passed in
      let numbers = (Decides-eqb number other).0 parts.0 in
      let unions = (are_equal_bools-Decides is_union another).0 parts.1 in
      λ i. AggregateTree (numbers i) (unions i)
  bare_bases-from_same base other passed = absurd (false≢true passed)

  bare_types-from_same : (types others : TypeTrees) → are_same_types types others ≡ true → bare_types types ≡ bare_types others
  bare_types-from_same NoTypes NoTypes passed = refl
  bare_types-from_same (MoreTypes type_ types) (MoreTypes other others) passed =
      let parts = and_parts _ _ passed in
      let first = bare-from_same type_ other parts.0 in
      let rest = bare_types-from_same types others parts.1 in
      λ i. MoreTypes (first i) (rest i)
  bare_types-from_same types others passed = absurd (false≢true passed)

-- types that are equal without const and volatile pass the test
mutual
  same-bare : (type_ other : TypeTree) → bare type_ ≡ bare other → are_same type_ other ≡ true
  same-bare (Typed base qualifiers flags) (Typed other others_qualifiers others) same =
      and_from _ _ ((are_equal_flags-Decides flags others).1 (ap flags_of same)) (same-bases base other (ap base_of same))

  same-bases : (base other : BaseTree) → bare_base base ≡ bare_base other → are_same_bases base other ≡ true
  same-bases VoidTree VoidTree same = refl
  same-bases (IntegerTree kind) (IntegerTree other) same = (are_equal_kinds-Decides kind other).1 (cc same)
  same-bases (RestrictedTree kind identity) (RestrictedTree other another) same =
      and_from _ _ ((are_equal_kinds-Decides kind other).1 (cc same)) ((Decides-eqb identity another).1 (cc same))
  same-bases (PointerTree target) (PointerTree other) same = same-bare target other (cc same)
  same-bases (ArrayTree element length) (ArrayTree other another) same =
      and_from _ _ (same-bare element other (cc same)) ((are_equal_lengths-Decides length another).1 (cc same))
  same-bases (FunctionTree result parameters variadic) (FunctionTree other others another) same =
      and_from _ _ (same-bare result other (cc same))
      (and_from _ _ (same-types parameters others (cc same)) ((are_equal_bools-Decides variadic another).1 (cc same)))
  same-bases (AggregateTree number is_union) (AggregateTree other another) same =
      and_from _ _ ((Decides-eqb number other).1 (cc same)) ((are_equal_bools-Decides is_union another).1 (cc same))
  same-bases base other same = cc same

  same-types : (types others : TypeTrees) → bare_types types ≡ bare_types others → are_same_types types others ≡ true
  same-types NoTypes NoTypes same = refl
  same-types (MoreTypes type_ types) (MoreTypes other others) same =
      and_from _ _ (same-bare type_ other (cc same)) (same-types types others (cc same))
  same-types types others same = cc same

-- two types are equal but for const and volatile
pub are_same-Decides : (type_ other : TypeTree) → Decides (are_same type_ other) (bare type_ ≡ bare other)
are_same-Decides type_ other = (bare-from_same type_ other, same-bare type_ other)
