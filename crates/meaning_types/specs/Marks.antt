-- Qualifiers and flags that are added to a type (C11 6.7.3), and types that are normal.
use Rattle.std.specs.Prelude.{◌≡◌, ◌||◌}
use Rattle.meaning_types.specs.Types.{Space, NoSpace, NumberedSpace, NamedSpace, Qualifiers, Flags, TypeTree, Typed, BaseTree, VoidTree, IntegerTree, RestrictedTree, PointerTree, ArrayTree, FunctionTree, AggregateTree, TypeTrees, NoTypes, MoreTypes, no_qualifiers, no_flags}

-- those that either has
abbrev pub both : Qualifiers → Qualifiers → Qualifiers
both own added =
    record {
      is_const = own.is_const || added.is_const;
      is_volatile = own.is_volatile || added.is_volatile;
    }

-- the later space, if it is one
abbrev pub later_space : Space → Space → Space
later_space earlier NoSpace = earlier
later_space earlier (NumberedSpace number) = NumberedSpace number
later_space earlier (NamedSpace name) = NamedSpace name

-- flags and later ones: noderef stays, and a later space replaces an earlier one
abbrev pub with_flags : Flags → Flags → Flags
with_flags earlier later = record { noderef = earlier.noderef || later.noderef; space = later_space earlier.space later.space }

-- Qualifiers are added to a type, and its flags change. What is said of an array is said of its element, and what
-- is said of a function is dropped (6.7.3 p9).
module _ (added : Qualifiers) (changed : Flags → Flags) where
  abbrev mutual
    -- the whole type
    pub remarked : TypeTree → TypeTree
    remarked (Typed base qualifiers flags) = remarked_base qualifiers flags base

    -- by its base
    pub remarked_base : Qualifiers → Flags → BaseTree → TypeTree
    remarked_base qualifiers flags (ArrayTree element length) = Typed (ArrayTree (remarked element) length) qualifiers flags
    remarked_base qualifiers flags (FunctionTree result parameters variadic) =
        Typed (FunctionTree result parameters variadic) qualifiers flags
    remarked_base qualifiers flags base = Typed base (both qualifiers added) (changed flags)

-- a type with these qualifiers and flags besides: a later space replaces its own
abbrev pub marked : Qualifiers → Flags → TypeTree → TypeTree
marked qualifiers flags type_ = remarked qualifiers (λ own. with_flags own flags) type_

-- a member's type in a place with these qualifiers and flags: a space of its own stays (6.5.2.3 p3)
abbrev pub member_type : Qualifiers → Flags → TypeTree → TypeTree
member_type qualifiers flags type_ = remarked qualifiers (λ own. with_flags flags own) type_

-- no array and no function in the type has qualifiers or flags of its own
abbrev mutual
  pub IsNormal : TypeTree → Type 0
  IsNormal (Typed base qualifiers flags) = IsNormalBase qualifiers flags base

  -- of a base with these qualifiers and flags
  pub IsNormalBase : Qualifiers → Flags → BaseTree → Type 0
  IsNormalBase qualifiers flags VoidTree = Unit {0}
  IsNormalBase qualifiers flags (IntegerTree kind) = Unit {0}
  IsNormalBase qualifiers flags (RestrictedTree kind identity) = Unit {0}
  IsNormalBase qualifiers flags (PointerTree target) = IsNormal target
  IsNormalBase qualifiers flags (ArrayTree element length) = (qualifiers ≡ no_qualifiers) × (flags ≡ no_flags) × IsNormal element
  IsNormalBase qualifiers flags (FunctionTree result parameters variadic) =
      (qualifiers ≡ no_qualifiers) × (flags ≡ no_flags) × IsNormal result × AreNormal parameters
  IsNormalBase qualifiers flags (AggregateTree number is_union) = Unit {0}

  -- of each of the types
  pub AreNormal : TypeTrees → Type 0
  AreNormal NoTypes = Unit {0}
  AreNormal (MoreTypes type_ types) = IsNormal type_ × AreNormal types
