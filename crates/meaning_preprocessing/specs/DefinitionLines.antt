-- The line of a `#define` (C11 6.10.3), and what definitions do to the table.
use Rattle.std.specs.Prelude.{ℕ, Bool, true, false, not, ◌&&◌, ◌||◌, List, [], ◌∷◌, Option, Some, None, option_map, Result, Ok, Err, codes, if◌then◌else◌}
use Rattle.std.specs.List.{list_any, filter}
use Rattle.std.specs.Str.{bytes_eq}
use Rattle.vocabulary.specs.declared.token_kind.TokenKind.{TokenKind}
use Rattle.vocabulary.specs.declared.token_kind.TokenKind.TheVariants.{Ellipsis}
use Rattle.vocabulary.specs.declared.error_kind.ErrorKind.{ErrorKind}
use Rattle.vocabulary.specs.declared.error_kind.ErrorKind.TheVariants.{MalformedDirective, BadMacroDefinition, MacroRedefined}
use Rattle.meaning_text.specs.Tokens.{Tok}
use Rattle.meaning_macros.specs.Signs.{is_identifier_kind, is_left_parenthesis, is_right_parenthesis, is_comma}
use Rattle.meaning_macros.specs.Macros.{Macro, Definition, macro_of, is_function_like, parameters_of}
use Rattle.meaning_macros.specs.Agreement.{agree}
use Rattle.meaning_macros.specs.WellFormed.{are_different, begins_with_paste, ends_with_paste, hashes_are_followed}

-- `...`
abbrev pub is_ellipsis_kind : TokenKind → Bool
is_ellipsis_kind Ellipsis = true
is_ellipsis_kind kind = false

-- the name of the parameter `...`
abbrev pub rest_name : List ℕ
rest_name = codes "__VA_ARGS__"

-- A parameter list, and the body behind its `)`.
pub record Parameters : Type 0 where
  pub names : List (List ℕ)
  pub variadic : Bool
  pub body : List Tok

-- with a parameter before
abbrev pub parameter_before : List ℕ → Parameters → Parameters
parameter_before name found = record found { names = name ∷ found.names }

-- the last parameter has this name, where a `)` is behind it
abbrev pub last_parameter : Bool → List ℕ → List Tok → Option Parameters
last_parameter variadic name [] = None
last_parameter variadic name (t ∷ ts) =
    if is_right_parenthesis t.kind then Some (record { names = name ∷ []; variadic = variadic; body = ts }) else None

-- an identifier but `__VA_ARGS__` (p5)
abbrev pub is_parameter_name : Tok → Bool
is_parameter_name t = is_identifier_kind t.kind && not (bytes_eq t.text rest_name)

-- One parameter or more, behind `(` or a comma: names, and at the end `...`, or `name...` as compilers have it. Behind
-- either of the last two only `)` may stand.
abbrev pub parameters_from : List Tok → Option Parameters
parameters_from [] = None
parameters_from (t ∷ []) = None
parameters_from (t ∷ u ∷ rest) = elim (is_ellipsis_kind t.kind) [
  | true ↦ last_parameter true rest_name (u ∷ rest)
  | false ↦ elim (is_parameter_name t) [
    | false ↦ None
    | true ↦ elim (is_ellipsis_kind u.kind) [
      | true ↦ last_parameter true t.text rest
      | false ↦ elim (is_comma u.kind) [
        | true ↦ option_map (parameter_before t.text) (parameters_from rest)
        | false ↦ last_parameter false t.text (u ∷ rest)
      ]
    ]
  ]
]

-- a parameter list behind its `(`
abbrev pub parameters_behind : List Tok → Option Parameters
parameters_behind [] = None
parameters_behind (t ∷ ts) = elim (is_right_parenthesis t.kind) [
  | true ↦ Some (record { names = []; variadic = false; body = ts })
  | false ↦ parameters_from (t ∷ ts)
]

-- the macro that has no parameter list (p9)
abbrev pub macro_without_list : List Tok → Macro
macro_without_list body = record { parameters = None; variadic = false; body = body }

-- the macro that has this one (p10)
abbrev pub macro_with_list : Parameters → Macro
macro_with_list found = record { parameters = Some found.names; variadic = found.variadic; body = found.body }

-- What stands behind a name. A `(` opens a parameter list where no white space is before it (p10).
abbrev pub macro_behind : List Tok → Option Macro
macro_behind [] = Some (macro_without_list [])
macro_behind (t ∷ ts) = elim (is_left_parenthesis t.kind && not t.space_before) [
  | true ↦ option_map macro_with_list (parameters_behind ts)
  | false ↦ Some (macro_without_list (t ∷ ts))
]

-- a token is spelled so
abbrev pub is_spelled : List ℕ → Tok → Bool
is_spelled text t = bytes_eq t.text text

-- `__VA_ARGS__` stands in no body but where `...` is a parameter (p5)
abbrev pub has_rest_name_rightly : Macro → Bool
has_rest_name_rightly m = list_any (bytes_eq rest_name) (parameters_of m) || not (list_any (is_spelled rest_name) m.body)

-- what is asked of parameters and body: p5, p6, 6.10.3.2 p1, 6.10.3.3 p1
abbrev pub can_be_defined : Macro → Bool
can_be_defined m =
    are_different (parameters_of m) && not (begins_with_paste m.body) && not (ends_with_paste m.body)
    && (not (is_function_like m) || hashes_are_followed (parameters_of m) m.body) && has_rest_name_rightly m

-- `defined` and `__VA_ARGS__` are no names of macros (6.10.8 p4, 6.10.3 p5)
abbrev pub is_reserved_name : List ℕ → Bool
is_reserved_name name = bytes_eq name (codes "defined") || bytes_eq name rest_name

-- the definition of this name, if that can be one
abbrev pub definition_with : List ℕ → Option Macro → Result Definition ErrorKind
definition_with name None = Err BadMacroDefinition
definition_with name (Some m) =
    if can_be_defined m && not (is_reserved_name name) then Ok (record { name = name; macro = m }) else Err BadMacroDefinition

-- what stands behind `define`: a definition, or why there is none; a missing name goes first
abbrev pub definition_behind : List Tok → Result Definition ErrorKind
definition_behind [] = Err MalformedDirective
definition_behind (t ∷ ts) = elim (is_identifier_kind t.kind) [
  | true ↦ definition_with t.text (macro_behind ts)
  | false ↦ Err MalformedDirective
]

-- the definitions with one more, where the name has this one
abbrev pub defined_beside : Definition → Option Macro → List Definition → Result (List Definition) ErrorKind
defined_beside definition None definitions = Ok (definition ∷ definitions)
defined_beside definition (Some m) definitions = if agree m definition.macro then Ok definitions else Err MacroRedefined

-- a name may be defined again, but not differently (6.10.3 p1, p2)
abbrev pub with_definition : Definition → List Definition → Result (List Definition) ErrorKind
with_definition definition definitions = defined_beside definition (macro_of definitions definition.name) definitions

-- the entry is of another name
abbrev pub is_not_of : List ℕ → Definition → Bool
is_not_of name definition = not (bytes_eq definition.name name)

-- the definitions without that of a name, where it has one (6.10.3.5 p2)
abbrev pub without_definition : List ℕ → List Definition → List Definition
without_definition name definitions = filter (is_not_of name) definitions
