-- How units, failures and types are seen by the definitions of `meaning_warnings`.
use Rattle.std.specs.Prelude.{ℕ, List, [], ◌∷◌, ◌++◌, Option, option_map, map, slice_get, unwrap_or}
use Rattle.sparse_model.specs.declared.failure.Failure.{Failure}
use Rattle.sparse_model.specs.declared.ids.TypeId.{TypeId}
use Rattle.meaning_types.specs.Types.{Space, NoSpace, NumberedSpace, NamedSpace, Flags, TypeTree, Typed, BaseTree, VoidTree, IntegerTree, RestrictedTree, PointerTree, ArrayTree, FunctionTree, AggregateTree, TypeTrees, NoTypes, MoreTypes}
use Rattle.meaning_operands.specs.Failures as meaning
use Rattle.meaning_warnings.specs.Places.{ShownUnit}
use Rattle.meaning_warnings.specs.Warnings.{lines_below, warning_line, warning_of}
use Rattle.meaning_text.specs.Places.{At}
use Rattle.c_tokens.specs.Seen.{text_of, toks_of}
use Rattle.c_types.specs.declared.bodies.Named.TheVariants.{Tag, Identity}
use Rattle.c_types.specs.Table.{TypeTable, name_in, type_at}
use Rattle.warn_print.specs.declared.show.Show.{Show}

-- Types as their names are spelled

-- the name of a space, of which a table of types knows the number alone
abbrev pub named_space : List (List ℕ) → Space → Space
named_space names NoSpace = NoSpace
named_space names (NumberedSpace number) = NumberedSpace number
named_space names (NamedSpace []) = NamedSpace []
named_space names (NamedSpace (number ∷ numbers)) = NamedSpace (unwrap_or (slice_get names number) [])

abbrev pub named_flags : List (List ℕ) → Flags → Flags
named_flags names flags = record { noderef = flags.noderef; space = named_space names flags.space }

abbrev mutual
  -- a type with the names of its spaces
  pub named_type : List (List ℕ) → TypeTree → TypeTree
  named_type names (Typed base qualifiers flags) = Typed (named_base names base) qualifiers (named_flags names flags)

  pub named_base : List (List ℕ) → BaseTree → BaseTree
  named_base names VoidTree = VoidTree
  named_base names (IntegerTree kind) = IntegerTree kind
  named_base names (RestrictedTree kind identity) = RestrictedTree kind identity
  named_base names (PointerTree target) = PointerTree (named_type names target)
  named_base names (ArrayTree element count) = ArrayTree (named_type names element) count
  named_base names (FunctionTree result parameters variadic) =
      FunctionTree (named_type names result) (named_types names parameters) variadic
  named_base names (AggregateTree number is_union) = AggregateTree number is_union

  pub named_types : List (List ℕ) → TypeTrees → TypeTrees
  named_types names NoTypes = NoTypes
  named_types names (MoreTypes type_ types) = MoreTypes (named_type names type_) (named_types names types)

-- the type with this id, as its names are spelled
abbrev pub shown_type : List (List ℕ) → TypeTable → TypeId → TypeTree
shown_type names table id = named_type names (type_at table id)

-- the names of tags and of identities
abbrev pub tag_in : List (List ℕ) → TypeTable → ℕ → Option (List ℕ)
tag_in names table number = option_map (text_of names) (name_in table (Tag number))

abbrev pub identity_in : List (List ℕ) → TypeTable → ℕ → Option (List ℕ)
identity_in names table number = option_map (text_of names) (name_in table (Identity (record { 0 = number })))

-- Units

abbrev pub failure_seen : List (List ℕ) → TypeTable → Failure → meaning.Failure
failure_seen names table failure =
    record {
      token = failure.token;
      rule = failure.rule;
      part = failure.part;
      first = option_map (shown_type names table) failure.first;
      second = option_map (shown_type names table) failure.second;
      name = text_of names failure.name;
      number = failure.number;
      wanted = failure.wanted;
    }

abbrev pub failures_seen : Show → List Failure → List meaning.Failure
failures_seen show failures = map (failure_seen show.names.now show.types.now) failures

abbrev pub unit_shown : Show → ShownUnit
unit_shown show =
    record {
      files = map (text_of show.names.now) show.toks.now.files;
      tokens = toks_of show.names.now show.toks.now.tokens;
      undefined = failures_seen show show.toks.now.undefs;
      undefined_tokens = toks_of show.names.now show.toks.now.undef_tokens;
      tags = tag_in show.names.now show.types.now;
      identities = identity_in show.names.now show.types.now;
    }

-- the lines of a failure at this place, with the path of its file, where its token is spelled so
abbrev pub placed_lines : ShownUnit → List ℕ → At → List ℕ → meaning.Failure → List ℕ
placed_lines shown path at spelling failure =
    warning_line path at (warning_of shown spelling failure failure.rule).text
    ++ lines_below shown path at failure (warning_of shown spelling failure failure.rule).below
