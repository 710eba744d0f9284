-- What is shown of a judged unit is what the answer tells of it.
use Rattle.std.proofs.Common.{◌≡◌, ℕ, ◌+◌, if◌then◌else◌, List, [], ◌∷◌, map, Option, Some, None, option_map, slice_get, unwrap_or, nat_eq, Bool, true, false, refl, sym, ap, ap₂, ◌∙◌}
use Rattle.std.proofs.lemmas.Bool.{eqb-true}
use Rattle.sparse_model.specs.declared.failure.Failure.{Failure}
use Rattle.sparse_model.specs.declared.ids.NameId.{NameId}
use Rattle.sparse_model.specs.declared.ids.TypeId.{TypeId}
use Rattle.meaning_operands.specs.Failures as meaning
use Rattle.meaning_types.specs.Types.{Space, NoSpace, NumberedSpace, NamedSpace, Flags, TypeTree, Typed, BaseTree, VoidTree, IntegerTree, RestrictedTree, PointerTree, ArrayTree, FunctionTree, AggregateTree, TypeTrees, NoTypes, MoreTypes}
use Rattle.meaning_typing.specs.Units.{UnitNodes}
use Rattle.meaning_names.specs.Spelled as meaning_names
use Rattle.meaning_names.specs.TypeNames.{identity_of, tag_of}
use Rattle.meaning_answer.specs.Units.{ParsedUnit, name_in, shown_unit, spellings_in, undefined_failure, undefined_failures, warnings_of}
use Rattle.meaning_warnings.specs.Listing.{unit_lines}
use Rattle.vocabulary.specs.declared.class.Class.{Class}
use Rattle.c_tokens.specs.declared.token.Token.{Token}
use Rattle.c_tokens.specs.Seen.{text_of, tok_of, toks_of}
use Rattle.c_types.specs.Table.{TypeTable, is_named, type_at}
use Rattle.c_types.specs.declared.bodies.Named.{Named}
use Rattle.c_types.specs.declared.bodies.Named.TheVariants as named
use Rattle.std.specs.Map.{lookup}
use Rattle.c_preproc.specs.Units.{failures_from}
use Rattle.c_preproc.specs.declared.unit.UnitTokens.{UnitTokens}
use Rattle.node_facts.specs.Facts.{name_seen}
use Rattle.expression_rows.specs.Rows as judge
use Rattle.context_judge.specs.Found.{found_seen}
use Rattle.context_judge.specs.Judged.{Judged}
use Rattle.context_judge.specs.Judging.{IsJudgedSo}
use Rattle.warn_print.specs.Seen as warn
use Rattle.ksparse.specs.Judged.{IsNumberedUnit, listing_shown, shown_over, unit_seen}
use Rattle.ksparse.specs.Written.{paths_of}
use Rattle.ksparse.proofs.TypeNames.{identities-told, tags-told}

-- Types

module _ (names : List (List ℕ)) where
  space-shown : (space : Space) → meaning_names.spelled_space names space ≡ warn.named_space names space
  space-shown NoSpace = refl
  space-shown (NumberedSpace number) = refl
  space-shown (NamedSpace []) = refl
  space-shown (NamedSpace (number ∷ numbers)) = refl

  flags-shown : (flags : Flags) → meaning_names.spelled_flags names flags ≡ warn.named_flags names flags
  flags-shown flags = ap (λ (space : Space). record { noderef = flags.noderef; space = space }) (space-shown flags.space)

  mutual
    pub type-shown : (type_ : TypeTree) → meaning_names.spelled_type names type_ ≡ warn.named_type names type_
    type-shown (Typed base qualifiers flags) =
        ap₂ (λ (b : BaseTree) (f : Flags). Typed b qualifiers f) (base-shown base) (flags-shown flags)

    base-shown : (base : BaseTree) → meaning_names.spelled_base names base ≡ warn.named_base names base
    base-shown VoidTree = refl
    base-shown (IntegerTree kind) = refl
    base-shown (RestrictedTree kind identity) = refl
    base-shown (PointerTree target) = ap PointerTree (type-shown target)
    base-shown (ArrayTree element count) = ap (λ (e : TypeTree). ArrayTree e count) (type-shown element)
    base-shown (FunctionTree result parameters variadic) =
        ap₂ (λ (r : TypeTree) (ps : TypeTrees). FunctionTree r ps variadic) (type-shown result) (types-shown parameters)
    base-shown (AggregateTree number is_union) = refl

    types-shown : (types : TypeTrees) → meaning_names.spelled_types names types ≡ warn.named_types names types
    types-shown NoTypes = refl
    types-shown (MoreTypes type_ types) = ap₂ MoreTypes (type-shown type_) (types-shown types)

-- Failures

module _ (names : List (List ℕ)) (empty : slice_get names 0 ≡ Some []) where
  -- a name without a number is the empty spelling
  name-by : (name : NameId) (nameless : Bool) → nat_eq name.0 0 ≡ nameless
      → meaning_names.spelled_name names (if nameless then [] else name.0 ∷ []) ≡ text_of names name
  name-by name true is =
      sym (ap (λ (n : ℕ). unwrap_or (slice_get names n) []) (eqb-true name.0 0 is) ∙ ap (λ (found : Option (List ℕ)). unwrap_or found []) empty)
  name-by name false is = refl

  pub name-shown : (name : NameId) → meaning_names.spelled_name names (name_seen name) ≡ text_of names name
  name-shown name = name-by name (nat_eq name.0 0) refl

  module _ (types : TypeTable) where
    id-shown : (of : Option TypeId) → option_map (meaning_names.spelled_type names) (option_map (type_at types) of) ≡ option_map (warn.shown_type names types) of
    id-shown None = refl
    id-shown (Some id) = ap Some (type-shown names (type_at types id))

    failure-shown : (failure : Failure) → meaning_names.spelled_failure names (judge.failure_seen types failure) ≡ warn.failure_seen names types failure
    failure-shown failure =
        λ i. record {
          token = failure.token;
          rule = failure.rule;
          part = failure.part;
          first = id-shown failure.first i;
          second = id-shown failure.second i;
          name = name-shown failure.name i;
          number = failure.number;
          wanted = failure.wanted;
        }

    pub failures-shown : (failures : List Failure) → map (meaning_names.spelled_failure names) (found_seen types failures) ≡ map (warn.failure_seen names types) failures
    failures-shown [] = refl
    failures-shown (failure ∷ failures) = ap₂ (λ (f : meaning.Failure) (fs : List meaning.Failure). f ∷ fs) (failure-shown failure) (failures-shown failures)

-- Identifiers that were left in `#if`

undefined-shown : (names : List (List ℕ)) (types : TypeTable) (number : ℕ) (tokens : List Token)
    → map (warn.failure_seen names types) (failures_from number tokens) ≡ undefined_failures number (toks_of names tokens)
undefined-shown names types number [] = refl
undefined-shown names types number (token ∷ tokens) =
    ap (λ (fs : List meaning.Failure). undefined_failure number (tok_of names token) ∷ fs) (undefined-shown names types (number + 1) tokens)

-- The unit

module _ (names : List (List ℕ)) (toks : UnitTokens) (numbered : IsNumberedUnit names toks) (nodes : UnitNodes) (judged : Judged) (is : IsJudgedSo nodes judged) where
  abbrev unit : ParsedUnit
  unit = unit_seen names toks nodes is.surroundings

  tag-shown : (number : ℕ) → warn.tag_in names judged.types number ≡ option_map (name_in unit) (tag_of nodes number)
  tag-shown number =
      ap (λ (told : List (Named × NameId)). option_map (text_of names) (lookup (is_named (named.Tag number)) told)) is.names
      ∙ tags-told names nodes is.surroundings number
      ∙ ap (λ (spellings : List (List ℕ)). option_map (meaning_names.spelled_name spellings) (tag_of nodes number)) numbered.table

  identity-shown : (token : ℕ) → warn.identity_in names judged.types token ≡ option_map (name_in unit) (identity_of nodes is.surroundings token)
  identity-shown token =
      ap (λ (told : List (Named × NameId)). option_map (text_of names) (lookup (is_named (named.Identity (record { 0 = token }))) told)) is.names
      ∙ identities-told names nodes is.surroundings token
      ∙ ap (λ (spellings : List (List ℕ)). option_map (meaning_names.spelled_name spellings) (identity_of nodes is.surroundings token)) numbered.table

  undefined-are : map (warn.failure_seen names judged.types) toks.undefs ≡ undefined_failures 0 (toks_of names toks.undef_tokens)
  undefined-are =
      ap (map (warn.failure_seen names judged.types)) numbered.undefs ∙ undefined-shown names judged.types 0 toks.undef_tokens

  unit-shown : shown_over names toks judged.types ≡ shown_unit unit
  unit-shown =
      λ i. record {
        files = paths_of names toks.files;
        tokens = toks_of names toks.tokens;
        undefined = undefined-are i;
        undefined_tokens = toks_of names toks.undef_tokens;
        tags = λ number. tag-shown number i;
        identities = λ token. identity-shown token i;
      }

  listing-shown : (failures : List Failure) → listing_shown names judged.types failures
      ≡ map (meaning_names.spelled_failure (spellings_in unit)) (found_seen judged.types failures)
  listing-shown failures =
      sym (failures-shown names numbered.empty judged.types failures)
      ∙ ap (λ (spellings : List (List ℕ)). map (meaning_names.spelled_failure spellings) (found_seen judged.types failures)) numbered.table

  pub warnings-shown : (classes : List Class) (failures : List Failure) → unit_lines (shown_over names toks judged.types) classes (listing_shown names judged.types failures)
      ≡ warnings_of classes unit (found_seen judged.types failures)
  warnings-shown classes failures = λ i. unit_lines (unit-shown i) classes (listing-shown failures i)
