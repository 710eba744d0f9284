-- How the values of this crate are seen by the definitions of `meaning_macros`.
use Rattle.std.specs.Prelude.{◌≡◌, ℕ, List, [], ◌∷◌, Option, Some, All, map, nat_eq, option_map}
use Rattle.std.specs.Str.{bytes_eq}
use Rattle.meaning_text.specs.Tokens.{Tok}
use Rattle.meaning_macros.specs.Macros as macros
use Rattle.sparse_model.specs.declared.ids.NameId.{NameId}
use Rattle.c_tokens.specs.declared.token.Token.{Token}
use Rattle.c_tokens.specs.Seen.{IsKnown, at_of, text_of}
use Rattle.c_macros.specs.declared.definition.Macro.{Macro}
use Rattle.c_macros.specs.Parameters.{params_in}
use Rattle.c_macros.specs.Table.{Table, macro_at, spelling_of_file}

-- what each id stands for
abbrev pub Spelling : Type 0
Spelling = NameId → List ℕ

-- different ids have different spellings
abbrev pub KeepsApart : Spelling → Type 0
KeepsApart spelling = (i j : NameId) → bytes_eq (spelling i) (spelling j) ≡ nat_eq i.0 j.0

-- each id as a text of its own: the number alone
abbrev pub own_text : Spelling
own_text id = id.0 ∷ []

-- a token of which the id is spelled so
abbrev pub token_by : Spelling → Token → Tok
token_by spelling token =
    record {
      kind = token.kind;
      text = spelling token.name;
      at = at_of token.place;
      space_before = token.space_before;
      line_start = token.line_start;
    }

-- the names in a parameter list
abbrev pub params_by : Spelling → Option (List NameId) → Option (List (List ℕ))
params_by spelling params = option_map (map spelling) params

-- a macro of which the ids are spelled so
abbrev pub macro_by : Spelling → Macro → macros.Macro
macro_by spelling m =
    record {
      parameters = params_by spelling m.params;
      variadic = m.variadic;
      body = map (token_by spelling) m.body;
    }

-- a macro told by its ids alone, of which each stands for itself
abbrev pub by_ids : Macro → macros.Macro
by_ids m = macro_by own_text m

-- a macro through a table of names
abbrev pub macro_of : List (List ℕ) → Macro → macros.Macro
macro_of names m = macro_by (text_of names) m

-- each id of the macro is one of the table
pub record IsKnownMacro (names : List (List ℕ)) (m : Macro) : Type 0 where
  pub params : All (IsKnown names) (params_in m.params)
  pub body : All (λ (token : Token). IsKnown names token.name) m.body

-- each name that has a macro is one of the table
abbrev pub IsKnownTable : List (List ℕ) → Table → Type 0
IsKnownTable names table = (name : NameId) (m : Macro) → macro_at table name ≡ Some m → IsKnown names name

-- each id that a table of macros tells of is one of the table of names
pub record KnowsAll (names : List (List ℕ)) (table : Table) : Type 0 where
  -- the name of a macro
  pub named : IsKnownTable names table
  -- the ids within it
  pub macros : (name : NameId) (m : Macro) → macro_at table name ≡ Some m → IsKnownMacro names m
  -- how `__FILE__` is spelled in a file
  pub files : (file : ℕ) (spelled : NameId) → spelling_of_file table file ≡ Some spelled → IsKnown names spelled

-- a table of macros through a table of names
abbrev pub table_of : List (List ℕ) → Table → macros.MacroTable
table_of names table =
    record {
      definitions = map (λ (entry : NameId × Macro). record { name = text_of names entry.0; macro = macro_of names entry.1 }) table.macros;
      files = map (λ (entry : ℕ × NameId). record { file = entry.0; spelled = text_of names entry.1 }) table.files;
    }
