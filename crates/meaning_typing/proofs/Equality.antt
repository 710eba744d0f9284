-- The test of types passes exactly where they are equal.
use Rattle.std.proofs.Common.{◌≡◌, true, Decides, refl, ap, subst}
use Rattle.std.proofs.lemmas.Bool.{and_parts, and_from, false≢true}
use Rattle.std.proofs.lemmas.Bool.Decides.{Decides-eqb}
use Rattle.meaning_types.specs.Types.{Qualifiers, TypeTree, Typed, BaseTree, VoidTree, IntegerTree, RestrictedTree, PointerTree, ArrayTree, FunctionTree, AggregateTree, TypeTrees, NoTypes, MoreTypes}
use Rattle.meaning_types.specs.Equality.{are_equal_bools}
use Rattle.meaning_types.proofs.Equality.{are_equal_kinds-Decides, are_equal_bools-Decides, are_equal_flags-Decides, are_equal_lengths-Decides}
use Rattle.meaning_typing.specs.Equality.{are_equal_qualifiers, are_equal_types, are_equal_bases, are_equal_lists}
use Rattle.meaning_typing.specs.laws.Equality.{EqualTypesPass}

qualifiers-Decides : (one other : Qualifiers) → Decides (are_equal_qualifiers one other) (one ≡ other)
qualifiers-Decides one other = (
  λ passed. same (and_parts _ _ passed).0 (and_parts _ _ passed).1,
  λ equal. and_from _ _ ((are_equal_bools-Decides one.is_const other.is_const).1 (ap (λ q. q.is_const) equal)) ((are_equal_bools-Decides one.is_volatile other.is_volatile).1 (ap (λ q. q.is_volatile) equal)),
)
  where
    same : are_equal_bools one.is_const other.is_const ≡ true → are_equal_bools one.is_volatile other.is_volatile ≡ true → one ≡ other
    same h k = λ i. record { is_const = (are_equal_bools-Decides one.is_const other.is_const).0 h i; is_volatile = (are_equal_bools-Decides one.is_volatile other.is_volatile).0 k i }

-- types that pass are equal
mutual
  equal-passed : (type_ other : TypeTree) → are_equal_types type_ other ≡ true → type_ ≡ other
  equal-passed (Typed base qualifiers flags) (Typed other others marks) passed =
      let parts = and_parts _ _ passed in
      let more = and_parts _ _ parts.1 in
      let same_qualifiers = (qualifiers-Decides qualifiers others).0 parts.0 in
      let same_flags = (are_equal_flags-Decides flags marks).0 more.0 in
      let same = bases-passed base other more.1 in
      λ i. Typed (same i) (same_qualifiers i) (same_flags i)

  bases-passed : (base other : BaseTree) → are_equal_bases base other ≡ true → base ≡ other
  bases-passed VoidTree VoidTree passed = refl
  bases-passed (IntegerTree kind) (IntegerTree other) passed = ap IntegerTree ((are_equal_kinds-Decides kind other).0 passed)
  bases-passed (RestrictedTree kind identity) (RestrictedTree other another) passed =
      let parts = and_parts _ _ passed in
      let kinds_equal = (are_equal_kinds-Decides kind other).0 parts.0 in
      let identities_equal = (Decides-eqb identity another).0 parts.1 in
      λ i. RestrictedTree (kinds_equal i) (identities_equal i)
  bases-passed (PointerTree target) (PointerTree other) passed = ap PointerTree (equal-passed target other passed)
  bases-passed (ArrayTree element length) (ArrayTree other another) passed =
      let parts = and_parts _ _ passed in
      let elements = equal-passed element other parts.0 in
      let lengths = (are_equal_lengths-Decides length another).0 parts.1 in
      λ i. ArrayTree (elements i) (lengths i)
  bases-passed (FunctionTree result parameters variadic) (FunctionTree other others another) passed =
      let parts = and_parts _ _ passed in
      let more = and_parts _ _ parts.1 in
      let results = equal-passed result other parts.0 in
      let all = lists-passed parameters others more.0 in
      let marks = (are_equal_bools-Decides variadic another).0 more.1 in
      λ i. FunctionTree (results i) (all i) (marks i)
  bases-passed (AggregateTree number is_union) (AggregateTree other another) passed =
      let parts = and_parts _ _ passed in
      let numbers = (Decides-eqb number other).0 parts.0 in
      let unions = (are_equal_bools-Decides is_union another).0 parts.1 in
      λ i. AggregateTree (numbers i) (unions i)
  bases-passed base other passed = absurd (false≢true passed)

  lists-passed : (types others : TypeTrees) → are_equal_lists types others ≡ true → types ≡ others
  lists-passed NoTypes NoTypes passed = refl
  lists-passed (MoreTypes type_ types) (MoreTypes other others) passed =
      let parts = and_parts _ _ passed in
      let first = equal-passed type_ other parts.0 in
      let rest = lists-passed types others parts.1 in
      λ i. MoreTypes (first i) (rest i)
  lists-passed types others passed = absurd (false≢true passed)

-- and each type passes beside itself
mutual
  passed-itself : (type_ : TypeTree) → are_equal_types type_ type_ ≡ true
  passed-itself (Typed base qualifiers flags) =
      and_from _ _ ((qualifiers-Decides qualifiers qualifiers).1 refl)
      (and_from _ _ ((are_equal_flags-Decides flags flags).1 refl) (base-itself base))

  base-itself : (base : BaseTree) → are_equal_bases base base ≡ true
  base-itself VoidTree = refl
  base-itself (IntegerTree kind) = (are_equal_kinds-Decides kind kind).1 refl
  base-itself (RestrictedTree kind identity) = and_from _ _ ((are_equal_kinds-Decides kind kind).1 refl) ((Decides-eqb identity identity).1 refl)
  base-itself (PointerTree target) = passed-itself target
  base-itself (ArrayTree element length) = and_from _ _ (passed-itself element) ((are_equal_lengths-Decides length length).1 refl)
  base-itself (FunctionTree result parameters variadic) =
      and_from _ _ (passed-itself result) (and_from _ _ (list-itself parameters) ((are_equal_bools-Decides variadic variadic).1 refl))
  base-itself (AggregateTree number is_union) = and_from _ _ ((Decides-eqb number number).1 refl) ((are_equal_bools-Decides is_union is_union).1 refl)

  list-itself : (types : TypeTrees) → are_equal_lists types types ≡ true
  list-itself NoTypes = refl
  list-itself (MoreTypes type_ types) = and_from _ _ (passed-itself type_) (list-itself types)

pub equal_types_pass : EqualTypesPass
equal_types_pass type_ other = (equal-passed type_ other, λ equal. subst (λ t. are_equal_types type_ t ≡ true) equal (passed-itself type_))
