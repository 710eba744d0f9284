-- Names that are numbers of spellings, as they are spelled.
use Rattle.std.specs.Prelude.{ℕ, List, [], ◌∷◌, option_map, slice_get, unwrap_or}
use Rattle.meaning_types.specs.Types.{Space, NoSpace, NumberedSpace, NamedSpace, Flags, TypeTree, Typed, BaseTree, VoidTree, IntegerTree, RestrictedTree, PointerTree, ArrayTree, FunctionTree, AggregateTree, TypeTrees, NoTypes, MoreTypes}
use Rattle.meaning_operands.specs.Failures.{Failure}

-- a name is the number of its spelling, and nothing where there is none
abbrev pub spelled_name : (spellings : List (List ℕ)) → (name : List ℕ) → List ℕ
spelled_name spellings [] = []
spelled_name spellings (number ∷ numbers) = unwrap_or (slice_get spellings number) []

-- Types: the names of spaces

abbrev pub spelled_space : List (List ℕ) → Space → Space
spelled_space spellings NoSpace = NoSpace
spelled_space spellings (NumberedSpace number) = NumberedSpace number
spelled_space spellings (NamedSpace name) = NamedSpace (spelled_name spellings name)

abbrev pub spelled_flags : List (List ℕ) → Flags → Flags
spelled_flags spellings flags = record { noderef = flags.noderef; space = spelled_space spellings flags.space }

abbrev mutual
  -- a type, at every level
  pub spelled_type : List (List ℕ) → TypeTree → TypeTree
  spelled_type spellings (Typed base qualifiers flags) = Typed (spelled_base spellings base) qualifiers (spelled_flags spellings flags)

  pub spelled_base : List (List ℕ) → BaseTree → BaseTree
  spelled_base spellings VoidTree = VoidTree
  spelled_base spellings (IntegerTree kind) = IntegerTree kind
  spelled_base spellings (RestrictedTree kind identity) = RestrictedTree kind identity
  spelled_base spellings (PointerTree target) = PointerTree (spelled_type spellings target)
  spelled_base spellings (ArrayTree element count) = ArrayTree (spelled_type spellings element) count
  spelled_base spellings (FunctionTree result parameters variadic) =
      FunctionTree (spelled_type spellings result) (spelled_types spellings parameters) variadic
  spelled_base spellings (AggregateTree number is_union) = AggregateTree number is_union

  pub spelled_types : List (List ℕ) → TypeTrees → TypeTrees
  spelled_types spellings NoTypes = NoTypes
  spelled_types spellings (MoreTypes type_ types) = MoreTypes (spelled_type spellings type_) (spelled_types spellings types)

-- Failures

abbrev pub spelled_failure : List (List ℕ) → Failure → Failure
spelled_failure spellings failure =
    record {
      token = failure.token;
      rule = failure.rule;
      part = failure.part;
      first = option_map (spelled_type spellings) failure.first;
      second = option_map (spelled_type spellings) failure.second;
      name = spelled_name spellings failure.name;
      number = failure.number;
      wanted = failure.wanted;
    }
