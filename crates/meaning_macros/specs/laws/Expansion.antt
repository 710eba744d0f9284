-- What holds of each expansion.
use Rattle.std.specs.Prelude.{◌≡◌, ◌≤◌, ℕ, false, true, List, [], ◌∷◌, ◌++◌, Option, Some, None, ⊤}
use Rattle.vocabulary.specs.declared.token_kind.TokenKind.{TokenKind}
use Rattle.meaning_text.specs.Kinds.{kind_in}
use Rattle.meaning_macros.specs.Signs.{is_identifier_kind}
use Rattle.meaning_macros.specs.Macros.{macro_of, predefined_of, spelled_file, MacroTable}
use Rattle.meaning_macros.specs.Hiding.{Hiding}
use Rattle.meaning_macros.specs.Substitution.{Joins, BadBehind, paste}
use Rattle.meaning_macros.specs.Expansion.{Budget, End, Finished, Failed, Passed, expand_by, expansion}

-- The expansion is its five cases over itself, so it doesn't matter how many replacements are allowed from without.
abbrev pub ExpansionIsItsCases : Type 0
ExpansionIsItsCases = (table : MacroTable) (b : Budget) (ts : List Hiding) → expansion table b ts ≡ expand_by (expansion table) table b ts

-- in both tables each name stands for the same macro, and each file is spelled alike
pub record HaveSameMacros (table other : MacroTable) : Type 0 where
  pub macros : (name : List ℕ) → macro_of table.definitions name ≡ macro_of other.definitions name
  pub files : (file : ℕ) → spelled_file table.files file ≡ spelled_file other.files file

-- A table is what it says of names and files: neither the order of its entries matters, nor what stands behind the first of a
-- name.
abbrev pub TablesAreWhatTheySay : Type 0
TablesAreWhatTheySay =
    (table other : MacroTable) → HaveSameMacros table other → (b : Budget) (ts : List Hiding) → expansion table b ts ≡ expansion other b ts

-- no more is left than there was, and the count of `__COUNTER__` doesn't fall
pub record IsAtMost (left b : Budget) : Type 0 where
  pub replacements : left.replacements ≤ b.replacements
  pub tokens : left.tokens ≤ b.tokens
  pub counter : b.counter ≤ left.counter

abbrev pub LeavesAtMost : Budget → End → Type 0
LeavesAtMost b (Finished left) = IsAtMost left b
LeavesAtMost b (Failed fault place) = ⊤
LeavesAtMost b (Passed counted) = ⊤

-- no expansion leaves more of its budget than there was
abbrev pub NoMoreIsLeft : Type 0
NoMoreIsLeft = (table : MacroTable) (b : Budget) (ts : List Hiding) → LeavesAtMost b (expansion table b ts).end

-- the token's spelling is neither a macro's nor one of the three names, or it isn't a name
pub record NamesNothing (table : MacroTable) (t : Hiding) : Type 0 where
  pub no_macro : is_identifier_kind t.token.kind ≡ true → macro_of table.definitions t.token.text ≡ None
  pub no_predefined : is_identifier_kind t.token.kind ≡ true → predefined_of t.token.text ≡ None

-- so it is with each of the tokens
abbrev pub NameNothing : MacroTable → List Hiding → Type 0
NameNothing table [] = ⊤
NameNothing table (t ∷ ts) = NamesNothing table t × NameNothing table ts

-- tokens that name nothing are put as they are, at no cost
abbrev pub PlainTokensStay : Type 0
PlainTokensStay =
    (table : MacroTable) (b : Budget) (ts : List Hiding) → NameNothing table ts
    → expansion table b ts ≡ record { tokens = ts; end = Finished b }

-- what `##` makes of two tokens whose spellings, joined, are of this kind
abbrev pub PastesTo : Hiding → Hiding → Option TokenKind → Type 0
PastesTo left right None = paste (left ∷ []) (right ∷ []) ≡ BadBehind 0
PastesTo left right (Some kind) =
    (made : Hiding) × (paste (left ∷ []) (right ∷ []) ≡ Joins (made ∷ []))
    × (made.token.kind ≡ kind) × (made.token.text ≡ left.token.text ++ right.token.text)

-- two tokens are joined to one exactly where the joined spelling has a kind, which is that of the one
abbrev pub TokensJoinAsSpelled : Type 0
TokensJoinAsSpelled = (left right : Hiding) → PastesTo left right (kind_in false (left.token.text ++ right.token.text))
