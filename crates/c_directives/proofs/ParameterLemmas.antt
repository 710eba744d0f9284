-- Parameter lists that are read one by one.
use Rattle.std.proofs.Common.{◌≡◌, ℕ, Bool, true, false, List, [], ◌∷◌, ◌++◌, map, Option, None, Some, option_map, refl, sym, ap, ◌∙◌, append_assoc}
use Rattle.std.proofs.lemmas.List.{map-append}
use Rattle.meaning_macros.specs.Signs.{is_comma}
use Rattle.meaning_preprocessing.specs.DefinitionLines.{Parameters, is_ellipsis_kind, is_parameter_name, last_parameter, parameter_before, parameters_from, rest_name}
use Rattle.c_tokens.specs.declared.token.Token.{Token}
use Rattle.c_tokens.specs.Seen.{text_of, tok_of, toks_of}

-- with parameters before
abbrev pub names_before : List (List ℕ) → Parameters → Parameters
names_before names found = record found { names = names ++ found.names }

pub list_begins : (list : Option Parameters) → option_map (names_before []) list ≡ list
list_begins None = refl
list_begins (Some found) = refl

-- one parameter more
list_more : (names : List (List ℕ)) (name : List ℕ) (list : Option Parameters) → option_map (names_before (names ++ name ∷ [])) list ≡ option_map (names_before names) (option_map (parameter_before name) list)
list_more names name None = refl
list_more names name (Some found) = λ i. Some (record found { names = append_assoc names (name ∷ []) found.names i })

module _ {X : Type 0} (f : X → List ℕ) where
  pub one_read : (before new : List X) (name : X) (seen list all : Option Parameters) → new ≡ before ++ name ∷ [] → option_map (parameter_before (f name)) list ≡ seen
      → option_map (names_before (map f before)) seen ≡ all → option_map (names_before (map f new)) list ≡ all
  one_read before new name seen list all pushed is given =
      ap (λ names. option_map (names_before names) list) (ap (map f) pushed ∙ map-append f before (name ∷ []))
      ∙ list_more (map f before) (f name) list ∙ ap (option_map (names_before (map f before))) is ∙ given

  -- the last one
  pub all_read : (before new : List X) (name : X) (last : Parameters) (seen all : Option Parameters) → new ≡ before ++ name ∷ [] → last.names ≡ f name ∷ [] → Some last ≡ seen
      → option_map (names_before (map f before)) seen ≡ all → Some (record last { names = map f new }) ≡ all
  all_read before new name last seen all pushed named is given =
      (λ i. Some (record last { names = (ap (map f) pushed ∙ map-append f before (name ∷ []) ∙ ap (λ names. map f before ++ names) (sym named)) i }))
      ∙ ap (option_map (names_before (map f before))) is ∙ given

-- What stands at the front, by the kinds of its first two tokens.
abbrev by_kinds : (names : List (List ℕ)) (rest name dots comma : Bool) → Token → (others behind : List Token) → Option Parameters
by_kinds names rest name dots comma first others behind = elim rest as (λ _. Option Parameters) [
  | true ↦ last_parameter true rest_name (toks_of names others)
  | false ↦ elim name as (λ _. Option Parameters) [
    | false ↦ None
    | true ↦ elim dots as (λ _. Option Parameters) [
      | true ↦ last_parameter true (text_of names first.name) (toks_of names behind)
      | false ↦ elim comma as (λ _. Option Parameters) [
        | true ↦ option_map (parameter_before (text_of names first.name)) (parameters_from (toks_of names behind))
        | false ↦ last_parameter false (text_of names first.name) (toks_of names others)
      ]
    ]
  ]
]

pub read_as : (names : List (List ℕ)) (tokens others behind : List Token) (first second : Token) (rest name dots comma : Bool) → tokens ≡ first ∷ others → others ≡ second ∷ behind
    → rest ≡ is_ellipsis_kind first.kind → name ≡ is_parameter_name (tok_of names first) → dots ≡ is_ellipsis_kind second.kind → comma ≡ is_comma second.kind
    → by_kinds names rest name dots comma first others behind ≡ parameters_from (toks_of names tokens)
read_as names tokens others behind first second rest name dots comma front next rest_is name_is dots_is comma_is =
    (λ i. by_kinds names (rest_is i) (name_is i) (dots_is i) (comma_is i) first (next i) behind)
    ∙ sym (ap (λ ts. parameters_from (toks_of names ts)) (front ∙ ap (λ ts. first ∷ ts) next))
