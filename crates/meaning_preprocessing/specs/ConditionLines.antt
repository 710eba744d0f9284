-- What stands behind `#if` and `#elif` (C11 6.10.1).
use Rattle.std.specs.Prelude.{ℕ, Bool, true, false, ◌||◌, List, [], ◌∷◌, ◌++◌, Option, Some, None, option_map, is_some, codes, if◌then◌else◌}
use Rattle.std.specs.List.{filter}
use Rattle.vocabulary.specs.declared.token_kind.TokenKind.TheVariants.{Number}
use Rattle.meaning_text.specs.Tokens.{Tok}
use Rattle.meaning_macros.specs.Signs.{is_identifier_kind, is_left_parenthesis, is_right_parenthesis}
use Rattle.meaning_macros.specs.Macros.{Definition, macro_of, predefined_of}
use Rattle.meaning_preprocessing.specs.DefinitionLines.{is_spelled}
use Rattle.meaning_preprocessing.specs.State.{UnitState}

-- a macro has this name; `__FILE__`, `__LINE__` and `__COUNTER__` are names of macros at all times
abbrev pub is_defined : List Definition → List ℕ → Bool
is_defined definitions name = is_some (macro_of definitions name) || is_some (predefined_of name)

-- `1` or `0` in place of a `defined` (p1)
abbrev pub truth_token : Tok → Bool → Tok
truth_token t holds = record t { kind = Number; text = if holds then codes "1" else codes "0" }

-- what a `defined` waits for
pub data Waiting : Type 0 where
  -- there is none
  Nothing : Waiting
  -- a name, or a `(`
  NameOf : Tok → Waiting
  -- the name behind `(`
  NameWithin : Tok → Waiting
  -- the `)` behind this answer
  Closing : Tok → Waiting

abbrev pub answer_before : Tok → Option (List Tok) → Option (List Tok)
answer_before t others = option_map (λ ts. t ∷ ts) others

-- The tokens with `1` or `0` for each `defined X` and `defined ( X )` (p1). None where another `defined` stands among them.
abbrev pub answered : List Definition → Waiting → List Tok → Option (List Tok)
answered definitions Nothing [] = Some []
answered definitions (NameOf d) [] = None
answered definitions (NameWithin d) [] = None
answered definitions (Closing answer) [] = None
answered definitions Nothing (t ∷ ts) = elim (is_spelled (codes "defined") t) [
  | true ↦ answered definitions (NameOf t) ts
  | false ↦ answer_before t (answered definitions Nothing ts)
]
answered definitions (NameOf d) (t ∷ ts) = elim (is_identifier_kind t.kind) [
  | true ↦ answer_before (truth_token d (is_defined definitions t.text)) (answered definitions Nothing ts)
  | false ↦ elim (is_left_parenthesis t.kind) [ true ↦ answered definitions (NameWithin d) ts | false ↦ None ]
]
answered definitions (NameWithin d) (t ∷ ts) = elim (is_identifier_kind t.kind) [
  | true ↦ answered definitions (Closing (truth_token d (is_defined definitions t.text))) ts
  | false ↦ None
]
answered definitions (Closing answer) (t ∷ ts) = elim (is_right_parenthesis t.kind) [
  | true ↦ answer_before answer (answered definitions Nothing ts)
  | false ↦ None
]

abbrev pub is_identifier_token : Tok → Bool
is_identifier_token t = is_identifier_kind t.kind

-- Identifiers that are left behind the replacements, keywords too, count as 0 (p4), and are kept: a rule names each.
abbrev pub with_undefined : List Tok → UnitState → UnitState
with_undefined tokens s = record s { undefined = s.undefined ++ filter is_identifier_token tokens }
