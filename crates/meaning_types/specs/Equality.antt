-- Which parts of types are equal, as tests.
use Rattle.std.specs.Prelude.{ℕ, Bool, true, false, ◌&&◌, not, nat_eq, Option, Some, None, List, [], ◌∷◌}
use Rattle.std.specs.Str.{bytes_eq}
use Rattle.vocabulary.specs.declared.int_kind.IntKind.{IntKind}
use Rattle.vocabulary.specs.declared.int_kind.IntKind.TheVariants as kinds
use Rattle.meaning_types.specs.Types.{Space, NoSpace, NumberedSpace, NamedSpace, Flags, TypeTree, Typed, BaseTree, VoidTree, IntegerTree, RestrictedTree, PointerTree, ArrayTree, FunctionTree, AggregateTree, TypeTrees, NoTypes, MoreTypes}

-- a number for each kind
abbrev pub kind_number : IntKind → ℕ
kind_number kinds.Bool = 0
kind_number kinds.Char = 1
kind_number kinds.SChar = 2
kind_number kinds.UChar = 3
kind_number kinds.Short = 4
kind_number kinds.UShort = 5
kind_number kinds.Int = 6
kind_number kinds.UInt = 7
kind_number kinds.Long = 8
kind_number kinds.ULong = 9
kind_number kinds.LLong = 10
kind_number kinds.ULLong = 11

-- the kinds in the order of their numbers
abbrev pub all_kinds : List IntKind
all_kinds =
    kinds.Bool ∷ kinds.Char ∷ kinds.SChar ∷ kinds.UChar ∷ kinds.Short ∷ kinds.UShort
    ∷ kinds.Int ∷ kinds.UInt ∷ kinds.Long ∷ kinds.ULong ∷ kinds.LLong ∷ kinds.ULLong ∷ []

-- both are one kind
abbrev pub are_equal_kinds : IntKind → IntKind → Bool
are_equal_kinds kind other = nat_eq (kind_number kind) (kind_number other)

-- both are no space, or of one number, or of one name
abbrev pub are_equal_spaces : Space → Space → Bool
are_equal_spaces NoSpace NoSpace = true
are_equal_spaces (NumberedSpace m) (NumberedSpace n) = nat_eq m n
are_equal_spaces (NamedSpace x) (NamedSpace y) = bytes_eq x y
are_equal_spaces _ _ = false

-- both are true, or both false
abbrev pub are_equal_bools : Bool → Bool → Bool
are_equal_bools true b = b
are_equal_bools false b = not b

-- both have noderef or neither has, and both have one space
abbrev pub are_equal_flags : Flags → Flags → Bool
are_equal_flags f g = are_equal_bools f.noderef g.noderef && are_equal_spaces f.space g.space

-- both are unknown, or one number
abbrev pub are_equal_lengths : Option ℕ → Option ℕ → Bool
are_equal_lengths None None = true
are_equal_lengths (Some m) (Some n) = nat_eq m n
are_equal_lengths _ _ = false

-- equal but for const and volatile at every level
abbrev mutual
  -- their flags are equal, and their bases the same
  pub are_same : TypeTree → TypeTree → Bool
  are_same (Typed base _ flags) (Typed other _ others) = are_equal_flags flags others && are_same_bases base other

  -- both bases are of one form, with the same types in it and all else equal
  pub are_same_bases : BaseTree → BaseTree → Bool
  are_same_bases VoidTree VoidTree = true
  are_same_bases (IntegerTree kind) (IntegerTree other) = are_equal_kinds kind other
  are_same_bases (RestrictedTree kind identity) (RestrictedTree other another) = are_equal_kinds kind other && nat_eq identity another
  are_same_bases (PointerTree target) (PointerTree other) = are_same target other
  are_same_bases (ArrayTree element length) (ArrayTree other another) = are_same element other && are_equal_lengths length another
  are_same_bases (FunctionTree result parameters variadic) (FunctionTree other others another) =
      are_same result other && (are_same_types parameters others && are_equal_bools variadic another)
  are_same_bases (AggregateTree number is_union) (AggregateTree other another) = nat_eq number other && are_equal_bools is_union another
  are_same_bases _ _ = false

  -- both are as many, and the same in order
  pub are_same_types : TypeTrees → TypeTrees → Bool
  are_same_types NoTypes NoTypes = true
  are_same_types (MoreTypes type_ types) (MoreTypes other others) = are_same type_ other && are_same_types types others
  are_same_types _ _ = false
