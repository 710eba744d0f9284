-- What is left of types at every level, and types that are normal.
use Rattle.std.proofs.Common.{◌≡◌, refl, ap}
use Rattle.meaning_types.specs.Types.{Flags, Qualifiers, TypeTree, Typed, BaseTree, VoidTree, IntegerTree, RestrictedTree, PointerTree, ArrayTree, FunctionTree, AggregateTree, TypeTrees, NoTypes, MoreTypes, no_qualifiers, no_flags, bare, bare_base, bare_types, without_flags, base_without_flags, types_without_flags}
use Rattle.meaning_types.specs.Marks.{IsNormal, IsNormalBase, AreNormal, remarked, remarked_base}

-- flags and qualifiers go in either order
mutual
  pub bare-without_flags : (type_ : TypeTree) → bare (without_flags type_) ≡ without_flags (bare type_)
  bare-without_flags (Typed base qualifiers flags) = ap (λ b. Typed b no_qualifiers no_flags) (bare-base_without_flags base)

  bare-base_without_flags : (base : BaseTree) → bare_base (base_without_flags base) ≡ base_without_flags (bare_base base)
  bare-base_without_flags VoidTree = refl
  bare-base_without_flags (IntegerTree kind) = refl
  bare-base_without_flags (RestrictedTree kind identity) = refl
  bare-base_without_flags (PointerTree target) = ap PointerTree (bare-without_flags target)
  bare-base_without_flags (ArrayTree element length) = ap (λ e. ArrayTree e length) (bare-without_flags element)
  bare-base_without_flags (FunctionTree result parameters variadic) =
      let results = bare-without_flags result in
      let all = bare-types_without_flags parameters in
      λ i. FunctionTree (results i) (all i) variadic
  bare-base_without_flags (AggregateTree number is_union) = refl

  bare-types_without_flags : (types : TypeTrees) → bare_types (types_without_flags types) ≡ types_without_flags (bare_types types)
  bare-types_without_flags NoTypes = refl
  bare-types_without_flags (MoreTypes type_ types) =
      let first = bare-without_flags type_ in
      let rest = bare-types_without_flags types in
      λ i. MoreTypes (first i) (rest i)

-- what is bare is bare already
mutual
  pub bare-bare : (type_ : TypeTree) → bare (bare type_) ≡ bare type_
  bare-bare (Typed base qualifiers flags) = ap (λ b. Typed b no_qualifiers flags) (bare-bare_base base)

  bare-bare_base : (base : BaseTree) → bare_base (bare_base base) ≡ bare_base base
  bare-bare_base VoidTree = refl
  bare-bare_base (IntegerTree kind) = refl
  bare-bare_base (RestrictedTree kind identity) = refl
  bare-bare_base (PointerTree target) = ap PointerTree (bare-bare target)
  bare-bare_base (ArrayTree element length) = ap (λ e. ArrayTree e length) (bare-bare element)
  bare-bare_base (FunctionTree result parameters variadic) =
      let results = bare-bare result in
      let all = bare-bare_types parameters in
      λ i. FunctionTree (results i) (all i) variadic
  bare-bare_base (AggregateTree number is_union) = refl

  bare-bare_types : (types : TypeTrees) → bare_types (bare_types types) ≡ bare_types types
  bare-bare_types NoTypes = refl
  bare-bare_types (MoreTypes type_ types) =
      let first = bare-bare type_ in
      let rest = bare-bare_types types in
      λ i. MoreTypes (first i) (rest i)

-- and so is what has no flags
mutual
  pub without_flags-twice : (type_ : TypeTree) → without_flags (without_flags type_) ≡ without_flags type_
  without_flags-twice (Typed base qualifiers flags) = ap (λ b. Typed b qualifiers no_flags) (base_without_flags-twice base)

  base_without_flags-twice : (base : BaseTree) → base_without_flags (base_without_flags base) ≡ base_without_flags base
  base_without_flags-twice VoidTree = refl
  base_without_flags-twice (IntegerTree kind) = refl
  base_without_flags-twice (RestrictedTree kind identity) = refl
  base_without_flags-twice (PointerTree target) = ap PointerTree (without_flags-twice target)
  base_without_flags-twice (ArrayTree element length) = ap (λ e. ArrayTree e length) (without_flags-twice element)
  base_without_flags-twice (FunctionTree result parameters variadic) =
      let results = without_flags-twice result in
      let all = types_without_flags-twice parameters in
      λ i. FunctionTree (results i) (all i) variadic
  base_without_flags-twice (AggregateTree number is_union) = refl

  types_without_flags-twice : (types : TypeTrees) → types_without_flags (types_without_flags types) ≡ types_without_flags types
  types_without_flags-twice NoTypes = refl
  types_without_flags-twice (MoreTypes type_ types) =
      let first = without_flags-twice type_ in
      let rest = types_without_flags-twice types in
      λ i. MoreTypes (first i) (rest i)

-- normal types stay normal
mutual
  pub IsNormal-bare : (type_ : TypeTree) → IsNormal type_ → IsNormal (bare type_)
  IsNormal-bare (Typed base qualifiers flags) normal = IsNormalBase-bare qualifiers flags base normal

  IsNormalBase-bare : (qualifiers : Qualifiers) (flags : Flags) (base : BaseTree) → IsNormalBase qualifiers flags base → IsNormalBase no_qualifiers flags (bare_base base)
  IsNormalBase-bare qualifiers flags VoidTree normal = tt
  IsNormalBase-bare qualifiers flags (IntegerTree kind) normal = tt
  IsNormalBase-bare qualifiers flags (RestrictedTree kind identity) normal = tt
  IsNormalBase-bare qualifiers flags (PointerTree target) normal = IsNormal-bare target normal
  IsNormalBase-bare qualifiers flags (ArrayTree element length) normal = (refl, normal.1, IsNormal-bare element normal.2)
  IsNormalBase-bare qualifiers flags (FunctionTree result parameters variadic) normal =
      (refl, normal.1, IsNormal-bare result normal.2, AreNormal-bare parameters normal.3)
  IsNormalBase-bare qualifiers flags (AggregateTree number is_union) normal = tt

  AreNormal-bare : (types : TypeTrees) → AreNormal types → AreNormal (bare_types types)
  AreNormal-bare NoTypes normal = tt
  AreNormal-bare (MoreTypes type_ types) normal = (IsNormal-bare type_ normal.0, AreNormal-bare types normal.1)

mutual
  pub IsNormal-without_flags : (type_ : TypeTree) → IsNormal type_ → IsNormal (without_flags type_)
  IsNormal-without_flags (Typed base qualifiers flags) normal = IsNormalBase-without_flags qualifiers flags base normal

  IsNormalBase-without_flags : (qualifiers : Qualifiers) (flags : Flags) (base : BaseTree) → IsNormalBase qualifiers flags base → IsNormalBase qualifiers no_flags (base_without_flags base)
  IsNormalBase-without_flags qualifiers flags VoidTree normal = tt
  IsNormalBase-without_flags qualifiers flags (IntegerTree kind) normal = tt
  IsNormalBase-without_flags qualifiers flags (RestrictedTree kind identity) normal = tt
  IsNormalBase-without_flags qualifiers flags (PointerTree target) normal = IsNormal-without_flags target normal
  IsNormalBase-without_flags qualifiers flags (ArrayTree element length) normal = (normal.0, refl, IsNormal-without_flags element normal.2)
  IsNormalBase-without_flags qualifiers flags (FunctionTree result parameters variadic) normal =
      (normal.0, refl, IsNormal-without_flags result normal.2, AreNormal-without_flags parameters normal.3)
  IsNormalBase-without_flags qualifiers flags (AggregateTree number is_union) normal = tt

  AreNormal-without_flags : (types : TypeTrees) → AreNormal types → AreNormal (types_without_flags types)
  AreNormal-without_flags NoTypes normal = tt
  AreNormal-without_flags (MoreTypes type_ types) normal = (IsNormal-without_flags type_ normal.0, AreNormal-without_flags types normal.1)

-- so do those to which qualifiers and flags are added
module _ (added : Qualifiers) (changed : Flags → Flags) where
  mutual
    pub IsNormal-remarked : (type_ : TypeTree) → IsNormal type_ → IsNormal (remarked added changed type_)
    IsNormal-remarked (Typed base qualifiers flags) normal = IsNormal-remarked_base qualifiers flags base normal

    IsNormal-remarked_base : (qualifiers : Qualifiers) (flags : Flags) (base : BaseTree) → IsNormalBase qualifiers flags base
        → IsNormal (remarked_base added changed qualifiers flags base)
    IsNormal-remarked_base qualifiers flags VoidTree normal = tt
    IsNormal-remarked_base qualifiers flags (IntegerTree kind) normal = tt
    IsNormal-remarked_base qualifiers flags (RestrictedTree kind identity) normal = tt
    IsNormal-remarked_base qualifiers flags (PointerTree target) normal = normal
    IsNormal-remarked_base qualifiers flags (ArrayTree element length) normal = (normal.0, normal.1, IsNormal-remarked element normal.2)
    IsNormal-remarked_base qualifiers flags (FunctionTree result parameters variadic) normal = normal
    IsNormal-remarked_base qualifiers flags (AggregateTree number is_union) normal = tt
