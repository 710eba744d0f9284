-- The names of types that the judge tells are the first that the nodes of the unit give them.
use Rattle.std.proofs.Common.{◌≡◌, ℕ, zero, suc, Bool, true, false, nat_eq, cond, if◌then◌else◌, List, [], ◌∷◌, length, Option, Some, None, option_map, refl, sym, ap, ◌∙◌}
use Rattle.std.specs.Map.{lookup}
use Rattle.std.specs.Option.{option_or}
use Rattle.std.proofs.lemmas.Bool.{eqb-true, false≢true}
use Rattle.vocabulary.specs.declared.node_kind.NodeKind.{NodeKind}
use Rattle.vocabulary.specs.declared.node_kind.NodeKind.TheVariants as kinds
use Rattle.sparse_model.specs.declared.ids.NameId.{NameId}
use Rattle.meaning_names.specs.Spelled.{spelled_name}
use Rattle.meaning_names.specs.TypeNames.{first_given, name_if, tag_at, tag_by, tag_of, identity_at, identity_by, identity_of}
use Rattle.meaning_typing.specs.Surroundings.{Surrounding, surrounding_at}
use Rattle.meaning_typing.specs.Units.{UnitNodes, kind_at, node_at}
use Rattle.c_tokens.specs.Seen.{text_of}
use Rattle.c_types.specs.declared.bodies.Named.{Named}
use Rattle.c_types.specs.declared.bodies.Named.TheVariants as named
use Rattle.c_types.specs.Table.{is_named, with_name}
use Rattle.context_judge.specs.NamedTypes.{named_by, names_told, with_name_of}

-- What is named, told apart

same-named : (what other : Named) → is_named what other ≡ true → what ≡ other
same-named (named.Tag number) (named.Tag other) is = ap named.Tag (eqb-true number other is)
same-named (named.Identity identity) (named.Identity other) is = ap (λ (n : ℕ). named.Identity (record { 0 = n })) (eqb-true identity.0 other.0 is)
same-named (named.Tag number) (named.Identity other) is = absurd (false≢true is)
same-named (named.Identity identity) (named.Tag other) is = absurd (false≢true is)

or-none : (found : Option NameId) → option_or found None ≡ found
or-none None = refl
or-none (Some name) = refl

module _ (asked what : Named) (name : NameId) where
  -- what is told of it besides
  abbrev told : Option NameId
  told = if is_named asked what then Some name else None

  abbrev found : List (Named × NameId) → Option NameId
  found names = lookup (is_named asked) names

  -- another name of what has one changes nothing
  stays-by : (entry : Named × NameId) (names : List (Named × NameId)) (asks same : Bool) → is_named asked entry.0 ≡ asks → is_named asked what ≡ same
      → what ≡ entry.0
      → cond asks (Some entry.1) (found names) ≡ option_or (cond asks (Some entry.1) (found names)) (if same then Some name else None)
  stays-by entry names true same asks-is same-is is = refl
  stays-by entry names false false asks-is same-is is = sym (or-none (found names))
  stays-by entry names false true asks-is same-is is = absurd (false≢true (sym asks-is ∙ ap (is_named asked) (sym is) ∙ same-is))

  more-by : (entry : Named × NameId) (names : List (Named × NameId)) (asks : Bool) → found (with_name names what name) ≡ option_or (found names) told
      → cond asks (Some entry.1) (found (with_name names what name)) ≡ option_or (cond asks (Some entry.1) (found names)) told
  more-by entry names true rest = refl
  more-by entry names false rest = rest

  next-by : (entry : Named × NameId) (names : List (Named × NameId)) (here : Bool) → is_named what entry.0 ≡ here
      → found (with_name names what name) ≡ option_or (found names) told
      → found (if here then entry ∷ names else entry ∷ with_name names what name) ≡ option_or (found (entry ∷ names)) told
  next-by entry names true here rest = stays-by entry names (is_named asked entry.0) (is_named asked what) refl refl (same-named what entry.0 here)
  next-by entry names false here rest = more-by entry names (is_named asked entry.0) rest

  alone-by : (same : Bool) → cond same (Some name) None ≡ option_or None (if same then Some name else None)
  alone-by true = refl
  alone-by false = refl

  pub with-name-found : (names : List (Named × NameId)) → found (with_name names what name) ≡ option_or (found names) told
  with-name-found [] = alone-by (is_named asked what)
  with-name-found (entry ∷ names) = next-by entry names (is_named what entry.0) refl (with-name-found names)

-- As they are spelled

module _ (spellings : List (List ℕ)) where
  abbrev texts : Option NameId → Option (List ℕ)
  texts name = option_map (text_of spellings) name

  abbrev spelled : Option (List ℕ) → Option (List ℕ)
  spelled name = option_map (spelled_name spellings) name

  texts-or : (name other : Option NameId) → texts (option_or name other) ≡ option_or (texts name) (texts other)
  texts-or None other = refl
  texts-or (Some name) other = refl

  spelled-or : (name other : Option (List ℕ)) → spelled (option_or name other) ≡ option_or (spelled name) (spelled other)
  spelled-or None other = refl
  spelled-or (Some name) other = refl

  or-nothing : (name : Option (List ℕ)) → name ≡ option_or name None
  or-nothing None = refl
  or-nothing (Some name) = refl

  -- the name that a node has, where it names what is asked for
  given-by : (same : Bool) (number : ℕ) (numbers : List ℕ)
      → texts (if same then Some (record { 0 = number }) else None) ≡ spelled (name_if same (number ∷ numbers))
  given-by true number numbers = refl
  given-by false number numbers = refl

  no-name-given : (same : Bool) → None ≡ spelled (name_if same [])
  no-name-given true = refl
  no-name-given false = refl

  -- what is told behind a node with this name, which names this
  named-found : (asked what : Named) (names : List (Named × NameId)) (name : List ℕ)
      → texts (lookup (is_named asked) (with_name_of names (Some what) name))
      ≡ option_or (texts (lookup (is_named asked) names)) (spelled (name_if (is_named asked what) name))
  named-found asked what names [] =
      or-nothing (texts (lookup (is_named asked) names))
      ∙ ap (option_or (texts (lookup (is_named asked) names))) (no-name-given (is_named asked what))
  named-found asked what names (number ∷ numbers) =
      ap texts (with-name-found asked what (record { 0 = number }) names)
      ∙ texts-or (lookup (is_named asked) names) (if is_named asked what then Some (record { 0 = number }) else None)
      ∙ ap (option_or (texts (lookup (is_named asked) names))) (given-by (is_named asked what) number numbers)

  -- a node that names something else tells nothing of it
  other-found : (asked what : Named) (names : List (Named × NameId)) (name : List ℕ) → is_named asked what ≡ false
      → texts (lookup (is_named asked) (with_name_of names (Some what) name)) ≡ option_or (texts (lookup (is_named asked) names)) None
  other-found asked what names [] differs = or-nothing (texts (lookup (is_named asked) names))
  other-found asked what names (number ∷ numbers) differs =
      ap texts (with-name-found asked what (record { 0 = number }) names)
      ∙ texts-or (lookup (is_named asked) names) (if is_named asked what then Some (record { 0 = number }) else None)
      ∙ ap (λ (same : Bool). option_or (texts (lookup (is_named asked) names)) (texts (if same then Some (record { 0 = number }) else None))) differs

  module _ (nodes : UnitNodes) (surroundings : List Surrounding) where
    -- Tags

    tag-by : (number handle : ℕ) (names : List (Named × NameId)) (name : List ℕ) (kind : NodeKind) → (node_at nodes handle).name ≡ name
        → texts (lookup (is_named (named.Tag number)) (with_name_of names (named_by nodes surroundings handle kind) name))
        ≡ option_or (texts (lookup (is_named (named.Tag number)) names)) (spelled (tag_by nodes number handle kind))
    tag-by number handle names name kinds.StructSpecifier is =
        named-found (named.Tag number) (named.Tag (node_at nodes handle).number) names name
        ∙ ap (λ n. option_or (texts (lookup (is_named (named.Tag number)) names)) (spelled (name_if (nat_eq number (node_at nodes handle).number) n))) (sym is)
    tag-by number handle names name kinds.UnionSpecifier is =
        named-found (named.Tag number) (named.Tag (node_at nodes handle).number) names name
        ∙ ap (λ n. option_or (texts (lookup (is_named (named.Tag number)) names)) (spelled (name_if (nat_eq number (node_at nodes handle).number) n))) (sym is)
    tag-by number handle names name kinds.Declarator is =
        other-found (named.Tag number) (named.Identity (record { 0 = (node_at nodes (surrounding_at surroundings handle).parent).token })) names name refl
    tag-by number handle names name kind is = or-nothing (texts (lookup (is_named (named.Tag number)) names))

    tags-so-far : (number count : ℕ)
        → texts (lookup (is_named (named.Tag number)) (names_told nodes surroundings count)) ≡ spelled (first_given (tag_at nodes number) count)
    tags-so-far number zero = refl
    tags-so-far number (suc count) =
        tag-by number count (names_told nodes surroundings count) (node_at nodes count).name (kind_at nodes count) refl
        ∙ ap (λ earlier. option_or earlier (spelled (tag_at nodes number count))) (tags-so-far number count)
        ∙ sym (spelled-or (first_given (tag_at nodes number) count) (tag_at nodes number count))

    pub tags-told : (number : ℕ)
        → texts (lookup (is_named (named.Tag number)) (names_told nodes surroundings (length nodes))) ≡ spelled (tag_of nodes number)
    tags-told number = tags-so-far number (length nodes)

    -- Restricted types

    identity-by : (token handle : ℕ) (names : List (Named × NameId)) (name : List ℕ) (kind : NodeKind) → (node_at nodes handle).name ≡ name
        → texts (lookup (is_named (named.Identity (record { 0 = token }))) (with_name_of names (named_by nodes surroundings handle kind) name))
        ≡ option_or (texts (lookup (is_named (named.Identity (record { 0 = token }))) names)) (spelled (identity_by nodes surroundings token handle kind))
    identity-by token handle names name kinds.Declarator is =
        let at = (node_at nodes (surrounding_at surroundings handle).parent).token in
        named-found (named.Identity (record { 0 = token })) (named.Identity (record { 0 = at })) names name
        ∙ ap (λ n. option_or (texts (lookup (is_named (named.Identity (record { 0 = token }))) names)) (spelled (name_if (nat_eq token at) n))) (sym is)
    identity-by token handle names name kinds.StructSpecifier is =
        other-found (named.Identity (record { 0 = token })) (named.Tag (node_at nodes handle).number) names name refl
    identity-by token handle names name kinds.UnionSpecifier is =
        other-found (named.Identity (record { 0 = token })) (named.Tag (node_at nodes handle).number) names name refl
    identity-by token handle names name kind is = or-nothing (texts (lookup (is_named (named.Identity (record { 0 = token }))) names))

    identities-so-far : (token count : ℕ)
        → texts (lookup (is_named (named.Identity (record { 0 = token }))) (names_told nodes surroundings count))
        ≡ spelled (first_given (identity_at nodes surroundings token) count)
    identities-so-far token zero = refl
    identities-so-far token (suc count) =
        identity-by token count (names_told nodes surroundings count) (node_at nodes count).name (kind_at nodes count) refl
        ∙ ap (λ earlier. option_or earlier (spelled (identity_at nodes surroundings token count))) (identities-so-far token count)
        ∙ sym (spelled-or (first_given (identity_at nodes surroundings token) count) (identity_at nodes surroundings token count))

    pub identities-told : (token : ℕ)
        → texts (lookup (is_named (named.Identity (record { 0 = token }))) (names_told nodes surroundings (length nodes)))
        ≡ spelled (identity_of nodes surroundings token)
    identities-told token = identities-so-far token (length nodes)
