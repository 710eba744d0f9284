-- How a worked row is written: definitions and a text, and what is put.
use Rattle.std.specs.Prelude.{◌≡◌, ℕ, List, [], ◌∷◌, ◌++◌, map, codes}
use Rattle.meaning_text.specs.Bytes.{space}
use Rattle.meaning_text.specs.Places.{At}
use Rattle.meaning_text.specs.Tokens.{Tok}
use Rattle.meaning_macros.specs.Macros.{MacroTable}
use Rattle.meaning_macros.specs.Hiding.{Hiding}
use Rattle.meaning_macros.specs.Expansion.{Budget, CallFault, Counted, End, Finished, Failed, Passed, Expanded, expansion}
use Rattle.meaning_macros.specs.examples.Reading.{example_file, hiding_of, read_definition}

-- the definitions, in the file `t.c`
abbrev pub table_of : List (List ℕ) → MacroTable
table_of definitions =
    record { definitions = map read_definition definitions; files = record { file = example_file; spelled = codes "\"t.c\"" } ∷ [] }

abbrev pub budget : (replacements tokens counter : ℕ) → Budget
budget replacements tokens counter = record { replacements = replacements; tokens = tokens; counter = counter }

-- more than any example uses
abbrev pub ample : Budget
ample = budget 100 1000 0

abbrev pub expanded_within : Budget → List (List ℕ) → List ℕ → Expanded
expanded_within b definitions text = expansion (table_of definitions) b (hiding_of text)

-- the spellings, with one space between two
abbrev pub spelled_apart : List Hiding → List ℕ
spelled_apart [] = []
spelled_apart (t ∷ []) = t.token.text
spelled_apart (t ∷ u ∷ ts) = t.token.text ++ space ∷ spelled_apart (u ∷ ts)

-- whether the expansion finished, or why it didn't
pub data HowEnded : Type 0 where
  NothingWrong : HowEnded
  WithFault : CallFault → HowEnded
  OverLimit : Counted → HowEnded

abbrev pub how_ended : End → HowEnded
how_ended (Finished left) = NothingWrong
how_ended (Failed fault place) = WithFault fault
how_ended (Passed counted) = OverLimit counted

-- the text becomes these spellings, and then it ends so
abbrev pub EndsBehind : List (List ℕ) → List ℕ → List ℕ → HowEnded → Type 0
EndsBehind definitions text result outcome =
    (spelled_apart (expanded_within ample definitions text).tokens ≡ result) × (how_ended (expanded_within ample definitions text).end ≡ outcome)

-- the text becomes these spellings
abbrev pub Becomes : List (List ℕ) → List ℕ → List ℕ → Type 0
Becomes definitions text result = EndsBehind definitions text result NothingWrong

-- the text becomes what this text reads as
abbrev pub BecomesTextOf : List (List ℕ) → List ℕ → List ℕ → Type 0
BecomesTextOf definitions text result = spelled_apart (expanded_within ample definitions text).tokens ≡ spelled_apart (hiding_of result)

-- nothing is put before this fault
abbrev pub IsWrong : List (List ℕ) → List ℕ → CallFault → Type 0
IsWrong definitions text fault = EndsBehind definitions text [] (WithFault fault)

-- with this budget the text becomes these spellings, and then it ends exactly so
abbrev pub EndsWithin : Budget → List (List ℕ) → List ℕ → List ℕ → End → Type 0
EndsWithin b definitions text result end =
    (spelled_apart (expanded_within b definitions text).tokens ≡ result) × ((expanded_within b definitions text).end ≡ end)

-- a token of the text alone
abbrev pub token_of : Hiding → Tok
token_of t = t.token

-- the text becomes exactly these tokens, with their places and white space
abbrev pub BecomesTokens : List (List ℕ) → List ℕ → List Tok → Type 0
BecomesTokens definitions text tokens = map token_of (expanded_within ample definitions text).tokens ≡ tokens

-- a place in the text
abbrev pub at_line : (line column : ℕ) → At
at_line line column = record { file = example_file; line = line; column = column }
