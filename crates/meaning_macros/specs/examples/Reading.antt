-- A small reader of texts, for the examples: tokens are those of meaning_text, and definitions are read where they are well
-- formed.
use Rattle.std.specs.Prelude.{ℕ, Bool, true, false, not, ◌&&◌, List, [], ◌∷◌, map, Some, None, codes}
use Rattle.vocabulary.specs.declared.token_kind.TokenKind.{TokenKind}
use Rattle.vocabulary.specs.declared.token_kind.TokenKind.TheVariants.{Ellipsis}
use Rattle.meaning_text.specs.Tokens.{Tok}
use Rattle.meaning_text.specs.Lexing.{Lexed, Tokens, Refused, lexed_file}
use Rattle.meaning_macros.specs.Signs.{is_left_parenthesis, is_right_parenthesis, is_comma}
use Rattle.meaning_macros.specs.Macros.{Macro, Definition}
use Rattle.meaning_macros.specs.Hiding.{Hiding, hides_nothing}

-- the number of the file in each example
abbrev pub example_file : ℕ
example_file = 1

abbrev pub tokens_found : Lexed → List Tok
tokens_found (Tokens tokens) = tokens
tokens_found (Refused fault) = []

-- the tokens of a text
abbrev pub tokens_in : List ℕ → List Tok
tokens_in text = tokens_found (lexed_file example_file text)

-- the same, hiding nothing
abbrev pub hiding_of : List ℕ → List Hiding
hiding_of text = map hides_nothing (tokens_in text)

-- Definitions

abbrev pub is_ellipsis : TokenKind → Bool
is_ellipsis Ellipsis = true
is_ellipsis kind = false

-- parameters that are read, whether the last is a variable one, and the body
abbrev pub with_parameter : List ℕ → Macro → Macro
with_parameter name m = record m { parameters = elim m.parameters [ Some names ↦ Some (name ∷ names) | None ↦ None ] }

abbrev pub as_variadic : Macro → Macro
as_variadic m = record m { variadic = true }

abbrev pub without_parameters : List Tok → Macro
without_parameters body = record { parameters = Some []; variadic = false; body = body }

abbrev pub object_like : List Tok → Macro
object_like body = record { parameters = None; variadic = false; body = body }

-- behind the `(` of a parameter list: `...` is the parameter `__VA_ARGS__`, and `name...` is one of that name
abbrev pub function_like : List Tok → Macro
function_like [] = without_parameters []
function_like (t ∷ []) = without_parameters []
function_like (t ∷ u ∷ rest) = elim (is_right_parenthesis t.kind) [
  | true ↦ without_parameters (u ∷ rest)
  | false ↦ elim (is_comma t.kind) [
    | true ↦ function_like (u ∷ rest)
    | false ↦ elim (is_ellipsis t.kind) [
      | true ↦ as_variadic (with_parameter (codes "__VA_ARGS__") (function_like (u ∷ rest)))
      | false ↦ elim (is_ellipsis u.kind) [
        | true ↦ as_variadic (with_parameter t.text (function_like rest))
        | false ↦ with_parameter t.text (function_like (u ∷ rest))
      ]
    ]
  ]
]

-- behind the name: a parameter list is one where no white space is before it
abbrev pub macro_behind_name : List Tok → Macro
macro_behind_name [] = object_like []
macro_behind_name (t ∷ ts) = elim (is_left_parenthesis t.kind && not t.space_before) [
  | true ↦ function_like ts
  | false ↦ object_like (t ∷ ts)
]

-- the entry of a name that is defined with such a macro
abbrev pub definition_of : List Tok → Definition
definition_of [] = record { name = []; macro = object_like [] }
definition_of (t ∷ ts) = record { name = t.text; macro = macro_behind_name ts }

-- what stands behind `#define`
abbrev pub read_definition : List ℕ → Definition
read_definition text = definition_of (tokens_in text)

-- and its macro alone
abbrev pub read_macro : List ℕ → Macro
read_macro text = (read_definition text).macro
