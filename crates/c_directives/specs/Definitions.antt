-- How the line of a `#define` is seen by the definitions of `meaning_preprocessing`.
use Rattle.std.specs.Prelude.{◌≡◌, ℕ, Bool, false, not, ◌&&◌, ◌||◌, List, [], ◌∷◌, All, map, Option, Some, None, option_map, is_some, Result, Ok, Err, ⊤}
use Rattle.vocabulary.specs.declared.error_kind.ErrorKind.{ErrorKind}
use Rattle.meaning_text.specs.Tokens.{Tok}
use Rattle.meaning_macros.specs.Bodies.{parameter_of}
use Rattle.meaning_macros.specs.Macros.{Definition}
use Rattle.meaning_macros.specs.WellFormed.{begins_with_paste, ends_with_paste, hashes_are_followed}
use Rattle.meaning_preprocessing.specs.DefinitionLines.{Parameters, parameter_before, parameters_from}
use Rattle.sparse_model.specs.declared.ids.NameId.{NameId}
use Rattle.c_tokens.specs.declared.token.Token.{Token}
use Rattle.c_tokens.specs.Seen.{IsKnown, text_of, toks_of}
use Rattle.c_macros.specs.declared.definition.Macro.{Macro}
use Rattle.c_macros.specs.Seen.{macro_of}
use Rattle.c_directives.specs.declared.fault.LineFault.{LineFault}
use Rattle.c_directives.specs.declared.fault.LineFault.TheVariants as fault
use Rattle.c_directives.specs.declared.parameters.Parameter.{Parameter}
use Rattle.c_directives.specs.declared.parameters.Parameter.TheVariants.{Followed, Last}
use Rattle.c_directives.specs.declared.parameters.ParameterList.{ParameterList}

-- what a parameter at the front makes of a list
abbrev pub parameter_seen : List (List ℕ) → Option Parameter → Option Parameters
parameter_seen names None = None
parameter_seen names (Some (Followed name behind)) = option_map (parameter_before (text_of names name)) (parameters_from (toks_of names behind.now))
parameter_seen names (Some (Last name variadic body)) =
    Some (record { names = text_of names name ∷ []; variadic = variadic; body = toks_of names body.now })

-- the tokens behind a parameter
abbrev pub behind_parameter : Parameter → List Token
behind_parameter (Followed name behind) = behind.now
behind_parameter (Last name variadic body) = body.now

-- each id of a parameter is one of the table
abbrev pub IsKnownParameter : List (List ℕ) → Parameter → Type 0
IsKnownParameter names (Followed name behind) = IsKnown names name × All (λ (token : Token). IsKnown names token.name) behind.now
IsKnownParameter names (Last name variadic body) = IsKnown names name × All (λ (token : Token). IsKnown names token.name) body.now

-- a parameter list through a table of names
abbrev pub list_seen : List (List ℕ) → ParameterList → Parameters
list_seen names found =
    record { names = map (text_of names) found.names.items; variadic = found.variadic; body = toks_of names found.body.now }

-- each of its ids is one of the table
abbrev pub IsKnownList : List (List ℕ) → ParameterList → Type 0
IsKnownList names found = All (IsKnown names) found.names.items × All (λ (token : Token). IsKnown names token.name) found.body.now

-- the first token is one of the parameters
abbrev pub begins_with_parameter : List (List ℕ) → List Tok → Bool
begins_with_parameter names [] = false
begins_with_parameter names (t ∷ ts) = is_some (parameter_of names t)

-- `#` and `##` stand rightly in a body
abbrev pub is_body_right : (called : Bool) → List (List ℕ) → List Tok → Bool
is_body_right called names body =
    not (begins_with_paste body) && not (ends_with_paste body) && (not called || hashes_are_followed names body)

-- the result tells the definition, or why there is none, or that memory is wanting
abbrev pub IsDefinition : List (List ℕ) → Result Definition ErrorKind → Result (NameId × Macro) LineFault → Type 0
IsDefinition names defined (Ok (name, m)) = defined ≡ Ok (record { name = text_of names name; macro = macro_of names m })
IsDefinition names defined (Err (fault.Refused kind None)) = defined ≡ Err kind
IsDefinition names defined (Err (fault.Refused kind (Some word))) = ⊥
IsDefinition names defined (Err fault.Memory) = ⊤
