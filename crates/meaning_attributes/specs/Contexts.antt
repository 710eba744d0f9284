-- Contexts: how a count that a function keeps changes.
use Rattle.std.specs.Prelude.{ℕ, ℤ, pos, neg_ℤ, Bool, true, false, ◌&&◌, nat_le, Option, Some, None, Result, Ok, Err, List, [], ◌∷◌, if◌then◌else◌}
use Rattle.vocabulary.specs.declared.token_kind.TokenKind.{TokenKind}
use Rattle.vocabulary.specs.declared.token_kind.TokenKind.TheVariants.{Plus, Minus}
use Rattle.meaning_text.specs.Tokens.{Tok}
use Rattle.meaning_attributes.specs.Tokens.{number_at, lone_number, without_extensions}
use Rattle.meaning_attributes.specs.Pieces.{comma_pieces}
use Rattle.meaning_attributes.specs.Attributes.{HasContext}
use Rattle.meaning_attributes.specs.Meanings.{Meaning, Means, IsBad, PassesLimit, BadContext}

-- the greatest number of a context, and the greatest change without its sign
abbrev pub greatest_step : ℕ
greatest_step = 1000000

-- the count goes from the first number to the second one
abbrev pub context_between : Option ℕ → Option ℕ → Meaning
context_between (Some enters) (Some leaves) =
    if nat_le enters greatest_step && nat_le leaves greatest_step then Means (HasContext (record { enters = pos enters; leaves = pos leaves }))
    else PassesLimit
context_between enters leaves = IsBad BadContext

-- A context is two integers, or words and two integers. The words are not empty, and nothing else is asked of them.
abbrev pub context_in : List (List Tok) → Meaning
context_in (enters ∷ leaves ∷ []) = context_between (lone_number enters) (lone_number leaves)
context_in ((word ∷ words) ∷ enters ∷ leaves ∷ []) = context_between (lone_number enters) (lone_number leaves)
context_in pieces = IsBad BadContext

-- Context statements

-- why a context statement has no change
pub data ChangeFault : Type 0 where
  BadChange : ChangeFault
  -- its form is that of a context statement, and the change is beyond the limit of a step
  ChangePassesLimit : ChangeFault

-- the change by so much, up or down
abbrev pub change_by : Bool → Option ℕ → Result ℤ ChangeFault
change_by down None = Err BadChange
change_by down (Some count) =
    if nat_le count greatest_step then Ok (if down then neg_ℤ (pos count) else pos count)
    else Err ChangePassesLimit

-- the change by a number, behind a token of this kind
abbrev pub signed_change : TokenKind → Option ℕ → Result ℤ ChangeFault
signed_change Plus count = change_by false count
signed_change Minus count = change_by true count
signed_change kind count = Err BadChange

-- an integer with at most one sign before it
abbrev pub change_spelled : List Tok → Result ℤ ChangeFault
change_spelled (token ∷ []) = change_by false (number_at token)
change_spelled (sign ∷ token ∷ []) = signed_change sign.kind (number_at token)
change_spelled tokens = Err BadChange

-- A context statement has a change, or words and a change. The words are not empty, and nothing else is asked of them.
abbrev pub change_in : List (List Tok) → Result ℤ ChangeFault
change_in (change ∷ []) = change_spelled change
change_in ((word ∷ words) ∷ change ∷ []) = change_spelled change
change_in pieces = Err BadChange

-- the change of a context statement with these tokens between its parentheses
abbrev pub change_of : List Tok → Result ℤ ChangeFault
change_of tokens = change_in (comma_pieces (without_extensions tokens))
