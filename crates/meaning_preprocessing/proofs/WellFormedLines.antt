-- What a line defines can be defined.
use Rattle.std.proofs.Common.{◌≡◌, ℕ, ◌<◌, Bool, true, false, not, ◌&&◌, ◌||◌, List, [], ◌∷◌, length, Option, Some, None, option_map, Result, Ok, Err, if◌then◌else◌, refl, sym, subst, arith, true≢false}
use Rattle.std.specs.Prelude.{⊤}
use Rattle.std.proofs.lemmas.Bool.{and_parts, not-true}
use Rattle.vocabulary.specs.declared.error_kind.ErrorKind.{ErrorKind}
use Rattle.vocabulary.specs.declared.error_kind.ErrorKind.TheVariants.{MalformedDirective, BadMacroDefinition}
use Rattle.meaning_text.specs.Tokens.{Tok}
use Rattle.meaning_macros.specs.Signs.{is_identifier_kind, is_left_parenthesis, is_right_parenthesis, is_comma}
use Rattle.meaning_macros.specs.Macros.{Macro, Definition, is_function_like, parameters_of}
use Rattle.meaning_macros.specs.WellFormed.{are_different, begins_with_paste, ends_with_paste, hashes_are_followed, IsWellFormed}
use Rattle.meaning_preprocessing.specs.DefinitionLines.{is_ellipsis_kind, rest_name, Parameters, parameter_before, last_parameter, is_parameter_name, parameters_from, parameters_behind, macro_without_list, macro_with_list, macro_behind, has_rest_name_rightly, can_be_defined, is_reserved_name, definition_with, definition_behind}
use Rattle.meaning_preprocessing.specs.laws.Macros.{DefinitionsAreWellFormed}

-- a list that is variadic has a parameter
abbrev HasRest : Option Parameters → Type 0
HasRest None = ⊤
HasRest (Some found) = found.variadic ≡ true → 0 < length found.names

last_parameter-HasRest : (variadic : Bool) (name : List ℕ) (ts : List Tok) → HasRest (last_parameter variadic name ts)
last_parameter-HasRest variadic name [] = tt
last_parameter-HasRest variadic name (t ∷ ts) =
    elim (is_right_parenthesis t.kind) as (λ v. HasRest (if v then Some (record { names = name ∷ []; variadic = variadic; body = ts }) else None)) [
      | true ↦ λ e. omega arith
      | false ↦ tt
    ]

parameter_before-HasRest : (name : List ℕ) (found : Option Parameters) → HasRest (option_map (parameter_before name) found)
parameter_before-HasRest name None = tt
parameter_before-HasRest name (Some found) = λ e. omega arith

parameters_from-HasRest : (ts : List Tok) → HasRest (parameters_from ts)
parameters_from-HasRest [] = tt
parameters_from-HasRest (t ∷ []) = tt
parameters_from-HasRest (t ∷ u ∷ rest) =
    elim (is_ellipsis_kind t.kind) as (λ v. HasRest (elim v as (λ _. Option Parameters) [
      | true ↦ last_parameter true rest_name (u ∷ rest)
      | false ↦ elim (is_parameter_name t) as (λ _. Option Parameters) [
        | false ↦ None
        | true ↦ elim (is_ellipsis_kind u.kind) as (λ _. Option Parameters) [
          | true ↦ last_parameter true t.text rest
          | false ↦ elim (is_comma u.kind) as (λ _. Option Parameters) [
            | true ↦ option_map (parameter_before t.text) (parameters_from rest)
            | false ↦ last_parameter false t.text (u ∷ rest)
          ]
        ]
      ]
    ])) [
      | true ↦ last_parameter-HasRest true rest_name (u ∷ rest)
      | false ↦
          elim (is_parameter_name t) as (λ v. HasRest (elim v as (λ _. Option Parameters) [
            | false ↦ None
            | true ↦ elim (is_ellipsis_kind u.kind) as (λ _. Option Parameters) [
              | true ↦ last_parameter true t.text rest
              | false ↦ elim (is_comma u.kind) as (λ _. Option Parameters) [
                | true ↦ option_map (parameter_before t.text) (parameters_from rest)
                | false ↦ last_parameter false t.text (u ∷ rest)
              ]
            ]
          ])) [
            | false ↦ tt
            | true ↦
                elim (is_ellipsis_kind u.kind) as (λ v. HasRest (elim v as (λ _. Option Parameters) [
                  | true ↦ last_parameter true t.text rest
                  | false ↦ elim (is_comma u.kind) as (λ _. Option Parameters) [
                    | true ↦ option_map (parameter_before t.text) (parameters_from rest)
                    | false ↦ last_parameter false t.text (u ∷ rest)
                  ]
                ])) [
                  | true ↦ last_parameter-HasRest true t.text rest
                  | false ↦
                      elim (is_comma u.kind) as (λ v. HasRest (elim v as (λ _. Option Parameters) [
                        | true ↦ option_map (parameter_before t.text) (parameters_from rest)
                        | false ↦ last_parameter false t.text (u ∷ rest)
                      ])) [
                        | true ↦ parameter_before-HasRest t.text (parameters_from rest)
                        | false ↦ last_parameter-HasRest false t.text (u ∷ rest)
                      ]
                ]
          ]
    ]

parameters_behind-HasRest : (ts : List Tok) → HasRest (parameters_behind ts)
parameters_behind-HasRest [] = tt
parameters_behind-HasRest (t ∷ ts) =
    elim (is_right_parenthesis t.kind) as (λ v. HasRest (elim v as (λ _. Option Parameters) [
      | true ↦ Some (record { names = []; variadic = false; body = ts })
      | false ↦ parameters_from (t ∷ ts)
    ])) [
      | true ↦ λ e. absurd (true≢false (sym e))
      | false ↦ parameters_from-HasRest (t ∷ ts)
    ]

-- a macro that is variadic has a parameter
abbrev MacroHasRest : Option Macro → Type 0
MacroHasRest None = ⊤
MacroHasRest (Some m) = m.variadic ≡ true → 0 < length (parameters_of m)

with_list-MacroHasRest : (found : Option Parameters) → HasRest found → MacroHasRest (option_map macro_with_list found)
with_list-MacroHasRest None h = tt
with_list-MacroHasRest (Some found) h = h

macro_behind-MacroHasRest : (ts : List Tok) → MacroHasRest (macro_behind ts)
macro_behind-MacroHasRest [] = λ e. absurd (true≢false (sym e))
macro_behind-MacroHasRest (t ∷ ts) =
    elim (is_left_parenthesis t.kind && not t.space_before) as (λ v. MacroHasRest (elim v as (λ _. Option Macro) [
      | true ↦ option_map macro_with_list (parameters_behind ts)
      | false ↦ Some (macro_without_list (t ∷ ts))
    ])) [
      | true ↦ with_list-MacroHasRest (parameters_behind ts) (parameters_behind-HasRest ts)
      | false ↦ λ e. absurd (true≢false (sym e))
    ]

followed_where_called : (called followed : Bool) → (not called || followed) ≡ true → called ≡ true → followed ≡ true
followed_where_called true followed h e = h
followed_where_called false followed h e = absurd (true≢false (sym e))

can_be_defined-IsWellFormed : (m : Macro) → (m.variadic ≡ true → 0 < length (parameters_of m)) → can_be_defined m ≡ true → IsWellFormed m
can_be_defined-IsWellFormed m last h =
    let a = and_parts (are_different (parameters_of m) && not (begins_with_paste m.body) && not (ends_with_paste m.body)
    && (not (is_function_like m) || hashes_are_followed (parameters_of m) m.body)) (has_rest_name_rightly m) h in
    let b = and_parts (are_different (parameters_of m) && not (begins_with_paste m.body) && not (ends_with_paste m.body))
    (not (is_function_like m) || hashes_are_followed (parameters_of m) m.body) a.0 in
    let d = and_parts (are_different (parameters_of m) && not (begins_with_paste m.body)) (not (ends_with_paste m.body)) b.0 in
    let f = and_parts (are_different (parameters_of m)) (not (begins_with_paste m.body)) d.0 in
    record {
      different = f.0;
      last = last;
      begins = not-true _ f.1;
      ends = not-true _ d.1;
      followed = followed_where_called (is_function_like m) _ b.1;
    }

-- the definition, where there is one, is of a macro that is well formed
abbrev DefinesRightly : Result Definition ErrorKind → Type 0
DefinesRightly (Ok definition) = IsWellFormed definition.macro
DefinesRightly (Err kind) = ⊤

definition_with-DefinesRightly : (name : List ℕ) (m : Option Macro) → MacroHasRest m → DefinesRightly (definition_with name m)
definition_with-DefinesRightly name None h = tt
definition_with-DefinesRightly name (Some m) h =
    elim (can_be_defined m && not (is_reserved_name name)) as (λ v. (can_be_defined m && not (is_reserved_name name)) ≡ v
    → DefinesRightly (if v then Ok (record { name = name; macro = m }) else Err BadMacroDefinition)) [
      | true ↦ λ e. can_be_defined-IsWellFormed m h (and_parts (can_be_defined m) (not (is_reserved_name name)) e).0
      | false ↦ λ e. tt
    ] refl

definition_behind-DefinesRightly : (ts : List Tok) → DefinesRightly (definition_behind ts)
definition_behind-DefinesRightly [] = tt
definition_behind-DefinesRightly (t ∷ ts) =
    elim (is_identifier_kind t.kind) as (λ v. DefinesRightly (elim v as (λ _. Result Definition ErrorKind) [
      | true ↦ definition_with t.text (macro_behind ts)
      | false ↦ Err MalformedDirective
    ])) [
      | true ↦ definition_with-DefinesRightly t.text (macro_behind ts) (macro_behind-MacroHasRest ts)
      | false ↦ tt
    ]

pub definitions_are_well_formed : DefinitionsAreWellFormed
definitions_are_well_formed tokens definition e = subst DefinesRightly e (definition_behind-DefinesRightly tokens)
