-- Types as trees (C11 6.2.5), each level with its qualifiers and flags.
use Rattle.std.specs.Prelude.{ℕ, Bool, false, ◌||◌, true, List, Option}
use Rattle.vocabulary.specs.declared.int_kind.IntKind.{IntKind}

-- an address space: none, or one with a number or a name; space 0 is one like another
pub data Space : Type 0 where
  NoSpace : Space
  NumberedSpace : ℕ → Space
  NamedSpace : List ℕ → Space

-- const and volatile (6.7.3)
pub record Qualifiers : Type 0 where
  pub is_const : Bool
  pub is_volatile : Bool

-- the marks that sparse adds to a type
pub record Flags : Type 0 where
  pub noderef : Bool
  pub space : Space

mutual
  -- a type: its base, its qualifiers and its flags
  pub data TypeTree : Type 0 where
    Typed : BaseTree → Qualifiers → Flags → TypeTree

  -- what a type is, apart from its qualifiers and flags
  pub data BaseTree : Type 0 where
    VoidTree : BaseTree
    IntegerTree : IntKind → BaseTree
    -- a restricted integer: its kind, and its identity, which is told by the token at which its declaration begins
    RestrictedTree : IntKind → ℕ → BaseTree
    PointerTree : TypeTree → BaseTree
    -- an element, and the length where it is known (6.2.5 p20)
    ArrayTree : TypeTree → Option ℕ → BaseTree
    -- a result, the parameters, and whether more arguments may follow
    FunctionTree : TypeTree → TypeTrees → Bool → BaseTree
    -- a structure or a union, by the token that names it first, and whether it is a union
    AggregateTree : ℕ → Bool → BaseTree

  -- the types of parameters, in order
  pub data TypeTrees : Type 0 where
    NoTypes : TypeTrees
    MoreTypes : TypeTree → TypeTrees → TypeTrees

-- neither const nor volatile
abbrev pub no_qualifiers : Qualifiers
no_qualifiers = record { is_const = false; is_volatile = false }

-- neither noderef nor a space
abbrev pub no_flags : Flags
no_flags = record { noderef = false; space = NoSpace }

-- the outermost flags of a type
abbrev pub flags_of : TypeTree → Flags
flags_of (Typed base qualifiers flags) = flags

-- it is a space, by number or by name
abbrev pub is_space : Space → Bool
is_space NoSpace = false
is_space (NumberedSpace number) = true
is_space (NamedSpace name) = true

-- noderef or a space
abbrev pub has_flag : Flags → Bool
has_flag flags = flags.noderef || is_space flags.space

-- the type of a value that is loaded from a place: qualifiers and flags stay with the place (6.3.2.1 p2)
abbrev pub value_type : TypeTree → TypeTree
value_type (Typed base qualifiers flags) = Typed base no_qualifiers no_flags

-- a pointer to a type
abbrev pub pointer_to : TypeTree → TypeTree
pointer_to target = Typed (PointerTree target) no_qualifiers no_flags

-- what an array or a function is as a value: a pointer to the first element, or to the function (6.3.2.1 p3, p4)
abbrev pub decayed : TypeTree → TypeTree
decayed (Typed (ArrayTree element length) _ _) = pointer_to element
decayed (Typed (FunctionTree result parameters variadic) qualifiers flags) =
    pointer_to (Typed (FunctionTree result parameters variadic) qualifiers flags)
decayed (Typed base qualifiers flags) = Typed base qualifiers flags

-- the type without const and volatile at every level
abbrev mutual
  -- its flags stay as they are
  pub bare : TypeTree → TypeTree
  bare (Typed base qualifiers flags) = Typed (bare_base base) no_qualifiers flags

  -- the base, with bare types in it
  pub bare_base : BaseTree → BaseTree
  bare_base VoidTree = VoidTree
  bare_base (IntegerTree kind) = IntegerTree kind
  bare_base (RestrictedTree kind identity) = RestrictedTree kind identity
  bare_base (PointerTree target) = PointerTree (bare target)
  bare_base (ArrayTree element length) = ArrayTree (bare element) length
  bare_base (FunctionTree result parameters variadic) = FunctionTree (bare result) (bare_types parameters) variadic
  bare_base (AggregateTree number is_union) = AggregateTree number is_union

  -- each of the types
  pub bare_types : TypeTrees → TypeTrees
  bare_types NoTypes = NoTypes
  bare_types (MoreTypes type_ types) = MoreTypes (bare type_) (bare_types types)

-- the type without flags at every level
abbrev mutual
  -- its qualifiers stay as they are
  pub without_flags : TypeTree → TypeTree
  without_flags (Typed base qualifiers flags) = Typed (base_without_flags base) qualifiers no_flags

  -- the base, with types without flags in it
  pub base_without_flags : BaseTree → BaseTree
  base_without_flags VoidTree = VoidTree
  base_without_flags (IntegerTree kind) = IntegerTree kind
  base_without_flags (RestrictedTree kind identity) = RestrictedTree kind identity
  base_without_flags (PointerTree target) = PointerTree (without_flags target)
  base_without_flags (ArrayTree element length) = ArrayTree (without_flags element) length
  base_without_flags (FunctionTree result parameters variadic) =
      FunctionTree (without_flags result) (types_without_flags parameters) variadic
  base_without_flags (AggregateTree number is_union) = AggregateTree number is_union

  -- each of the types
  pub types_without_flags : TypeTrees → TypeTrees
  types_without_flags NoTypes = NoTypes
  types_without_flags (MoreTypes type_ types) = MoreTypes (without_flags type_) (types_without_flags types)
