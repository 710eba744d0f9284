-- Macros, and the table of them (C11 6.10.3).
use Rattle.std.specs.Prelude.{ℕ, Bool, false, nat_eq, List, [], ◌∷◌, Option, Some, None, is_some, codes, if◌then◌else◌}
use Rattle.std.specs.Str.{bytes_eq}
use Rattle.meaning_text.specs.Tokens.{Tok}

-- What a name stands for.
pub record Macro : Type 0 where
  -- the names of its parameters in order (p10), `__VA_ARGS__` for `...` (p5); none of an object-like macro (p9)
  pub parameters : Option (List (List ℕ))
  -- the last parameter takes the rest of the arguments, with their commas (p12)
  pub variadic : Bool
  -- what comes in place of the name, or of the call
  pub body : List Tok

-- an entry of the table
pub record Definition : Type 0 where
  pub name : List ℕ
  pub macro : Macro

-- the macro that a name stands for: that of its first entry
abbrev pub macro_of : List Definition → List ℕ → Option Macro
macro_of [] name = None
macro_of (definition ∷ others) name = if bytes_eq definition.name name then Some definition.macro else macro_of others name

-- The three names that aren't entries of the table, and have another value at each place (6.10.8.1).
pub data Predefined : Type 0 where
  -- `__FILE__`
  FileName : Predefined
  -- `__LINE__`
  LineNumber : Predefined
  -- `__COUNTER__`, which compilers have beside the standard's: how often it was replaced before
  CounterNumber : Predefined

abbrev pub predefined_of : List ℕ → Option Predefined
predefined_of name =
    if bytes_eq name (codes "__FILE__") then Some FileName
    else (if bytes_eq name (codes "__LINE__") then Some LineNumber
    else (if bytes_eq name (codes "__COUNTER__") then Some CounterNumber
    else None))

-- how `__FILE__` is spelled in the file with this number
pub record FileSpelling : Type 0 where
  pub file : ℕ
  pub spelled : List ℕ

-- that of the first entry of the file; an empty string literal where there is none
abbrev pub spelled_file : List FileSpelling → ℕ → List ℕ
spelled_file [] file = codes "\"\""
spelled_file (entry ∷ others) file = if nat_eq entry.file file then entry.spelled else spelled_file others file

-- the definitions that hold, and what `__FILE__` is
pub record MacroTable : Type 0 where
  pub definitions : List Definition
  pub files : List FileSpelling

-- it is defined with a parameter list, also an empty one (p10)
abbrev pub is_function_like : Macro → Bool
is_function_like m = is_some m.parameters

-- the names in a parameter list
abbrev pub names_in : Option (List (List ℕ)) → List (List ℕ)
names_in (Some names) = names
names_in None = []

-- the names of its parameters: an object-like macro has none
abbrev pub parameters_of : Macro → List (List ℕ)
parameters_of m = names_in m.parameters

-- the first token without its white space
abbrev pub without_first_space : List Tok → List Tok
without_first_space [] = []
without_first_space (t ∷ ts) = record t { space_before = false } ∷ ts

-- white space before a body is no part of it (p7)
abbrev pub inner_body : Macro → List Tok
inner_body m = without_first_space m.body
