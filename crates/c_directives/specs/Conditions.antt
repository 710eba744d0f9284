-- How lines of names and conditions are seen by the definitions of `meaning_preprocessing`.
use Rattle.std.specs.Prelude.{◌≡◌, ℕ, Bool, List, [], ◌∷◌, All, Option, Some, None, option_map, ⊤, if◌then◌else◌}
use Rattle.meaning_text.specs.Tokens.{Tok}
use Rattle.meaning_macros.specs.Signs.{is_identifier_kind}
use Rattle.meaning_macros.specs.Macros.{Definition}
use Rattle.meaning_macros.specs.Macros as macros
use Rattle.meaning_preprocessing.specs.ConditionLines.{answer_before, answered}
use Rattle.meaning_preprocessing.specs.ConditionLines as lines
use Rattle.sparse_model.specs.declared.ids.NameId.{NameId}
use Rattle.c_tokens.specs.declared.token.Token.{Token}
use Rattle.c_tokens.specs.Seen.{IsKnown, text_of, tok_of}
use Rattle.c_macros.specs.declared.definition.Macro.{Macro}
use Rattle.c_macros.specs.Seen.{IsKnownMacro, macro_of}
use Rattle.c_macros.specs.Table.{Table, macro_at}
use Rattle.c_directives.specs.declared.defined.Waiting.{Waiting}
use Rattle.c_directives.specs.declared.defined.Waiting.TheVariants.{Nothing, Name, NameWithin, Closing}
use Rattle.c_directives.specs.declared.defined.Step.{Step}
use Rattle.c_directives.specs.declared.defined.Step.TheVariants.{Puts, Waits, Breaks}

-- the identifier that tokens are, if they are one
abbrev pub name_alone : List Tok → Option (List ℕ)
name_alone [] = None
name_alone (t ∷ []) = if is_identifier_kind t.kind then Some t.text else None
name_alone (t ∷ u ∷ ts) = None

-- the text is how an id of the table is spelled
abbrev pub IsSpelling : List (List ℕ) → List ℕ → Type 0
IsSpelling names text = (name : NameId) × IsKnown names name × (text_of names name ≡ text)

-- so is the name of each definition
abbrev pub AreNamed : List (List ℕ) → List Definition → Type 0
AreNamed names [] = ⊤
AreNamed names (definition ∷ definitions) = IsSpelling names definition.name × AreNamed names definitions

-- The names of a table have these macros, whatever order those stand in.
pub record HasMacros (names : List (List ℕ)) (definitions : List Definition) (table : Table) : Type 0 where
  pub found : (name : NameId) → IsKnown names name → macros.macro_of definitions (text_of names name) ≡ option_map (macro_of names) (macro_at table name)
  -- each id of a macro is one of the table of names
  pub known : (name : NameId) (m : Macro) → macro_at table name ≡ Some m → IsKnownMacro names m
  -- no other text names a macro
  pub named : AreNamed names definitions

-- each id of the tokens is one of the table
abbrev pub AreKnown : List (List ℕ) → List Token → Type 0
AreKnown names tokens = All (λ (token : Token). IsKnown names token.name) tokens

-- a token that is kept where a condition leaves it
abbrev pub is_left_identifier : Token → Bool
is_left_identifier token = is_identifier_kind token.kind

abbrev pub waiting_seen : List (List ℕ) → Waiting → lines.Waiting
waiting_seen names Nothing = lines.Nothing
waiting_seen names (Name word) = lines.NameOf (tok_of names word)
waiting_seen names (NameWithin word) = lines.NameWithin (tok_of names word)
waiting_seen names (Closing answer) = lines.Closing (tok_of names answer)

abbrev pub IsKnownWaiting : List (List ℕ) → Waiting → Type 0
IsKnownWaiting names Nothing = ⊤
IsKnownWaiting names (Name word) = IsKnown names word.name
IsKnownWaiting names (NameWithin word) = IsKnown names word.name
IsKnownWaiting names (Closing answer) = IsKnown names answer.name

-- what a step makes of the tokens behind it
abbrev pub step_seen : List (List ℕ) → List Definition → List Tok → Step → Option (List Tok)
step_seen names definitions ts (Puts token) = answer_before (tok_of names token) (answered definitions lines.Nothing ts)
step_seen names definitions ts (Waits waiting) = answered definitions (waiting_seen names waiting) ts
step_seen names definitions ts Breaks = None

abbrev pub IsKnownStep : List (List ℕ) → Step → Type 0
IsKnownStep names (Puts token) = IsKnown names token.name
IsKnownStep names (Waits waiting) = IsKnownWaiting names waiting
IsKnownStep names Breaks = ⊤
