-- What holds of the tokens of each text.
use Rattle.std.specs.Prelude.{◌≡◌, ℕ, List, [], ◌∷◌, ◌⊎◌, ⊤}
use Rattle.meaning_text.specs.Bytes.{new_line}
use Rattle.meaning_text.specs.Logical.{SourceByte, logical_text}
use Rattle.meaning_text.specs.Tokens.{Tok, Context, Lexes, LexFault, Opens}
use Rattle.meaning_text.specs.Lexing.{Tokens, Refused, lexed}

-- a text has the tokens that the plain function gives
abbrev pub TokensExist : Type 0
TokensExist = (context : Context) (text : List SourceByte) (tokens : List Tok) → lexed context text ≡ Tokens tokens → Lexes context text tokens

-- and no others
abbrev pub TokensAreUnique : Type 0
TokensAreUnique = (context : Context) (text : List SourceByte) (tokens : List Tok) → Lexes context text tokens → lexed context text ≡ Tokens tokens

-- where the plain function gives a fault the text has it
abbrev pub FaultsExist : Type 0
FaultsExist = (context : Context) (text : List SourceByte) (fault : LexFault) → lexed context text ≡ Refused fault → Opens context text fault

-- and no other
abbrev pub FaultsAreUnique : Type 0
FaultsAreUnique = (context : Context) (text : List SourceByte) (fault : LexFault) → Opens context text fault → lexed context text ≡ Refused fault

-- the text has these tokens, no others and no fault
pub record HasTokensAlone (context : Context) (text : List SourceByte) (tokens : List Tok) : Type 0 where
  pub has : Lexes context text tokens
  pub no_others : (others : List Tok) → Lexes context text others → others ≡ tokens
  pub no_fault : (fault : LexFault) → Opens context text fault → ⊥

-- the text has this fault, no other and no tokens
pub record HasFaultAlone (context : Context) (text : List SourceByte) (fault : LexFault) : Type 0 where
  pub has : Opens context text fault
  pub no_other : (other : LexFault) → Opens context text other → other ≡ fault
  pub no_tokens : (tokens : List Tok) → Lexes context text tokens → ⊥

-- each text has one list of tokens, or else one fault
abbrev pub EachTextHasOneAnswer : Type 0
EachTextHasOneAnswer =
    (context : Context) (text : List SourceByte)
    → ((tokens : List Tok) × HasTokensAlone context text tokens) ⊎ ((fault : LexFault) × HasFaultAlone context text fault)

-- the last byte of a text is a new-line, if it has a byte
abbrev pub EndsItsLine : List SourceByte → Type 0
EndsItsLine [] = ⊤
EndsItsLine (b ∷ []) = b.byte ≡ new_line
EndsItsLine (b ∷ c ∷ text) = EndsItsLine (c ∷ text)

-- the logical text of each file ends with a new-line (5.1.1.2 p1, phase 2)
abbrev pub LogicalTextsEndTheirLine : Type 0
LogicalTextsEndTheirLine = (file : ℕ) (bytes : List ℕ) → EndsItsLine (logical_text file bytes)
