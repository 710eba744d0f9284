-- The integer constants among tokens.
use Rattle.std.specs.Prelude.{ℕ, ◌+◌, Result, Ok, Err, List, [], ◌∷◌}
use Rattle.vocabulary.specs.declared.token_kind.TokenKind.{TokenKind}
use Rattle.vocabulary.specs.declared.token_kind.TokenKind.TheVariants.{Number}
use Rattle.meaning_text.specs.Tokens.{Tok}
use Rattle.meaning_literals.specs.Constants.{Constant, Fault}
use Rattle.meaning_literals.specs.Integers.{integer_of}

-- a constant, and the index of its token
pub record PlacedConstant : Type 0 where
  pub index : ℕ
  pub constant : Constant

-- the constant of a token of this kind and value, if it has one, before others
abbrev pub before_constants : TokenKind → Result Constant Fault → (index : ℕ) → List PlacedConstant → List PlacedConstant
before_constants Number (Ok constant) index constants = record { index = index; constant = constant } ∷ constants
before_constants kind value index constants = constants

-- those of tokens of which the first one has this index
abbrev pub constants_from : (start : ℕ) → List Tok → List PlacedConstant
constants_from start [] = []
constants_from start (token ∷ tokens) = before_constants token.kind (integer_of token.text) start (constants_from (start + 1) tokens)
