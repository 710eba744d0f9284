-- What a token is to an expression behind `#if` (C11 6.10.1 p1, p4).
use Rattle.std.specs.Prelude.{ℕ, ◌+◌, Bool, false, ◌||◌, nat_le, Option, Some, None, Result, Ok, Err, List, [], ◌∷◌, codes}
use Rattle.std.specs.List.{list_any}
use Rattle.vocabulary.specs.declared.token_kind.TokenKind.{TokenKind}
use Rattle.vocabulary.specs.declared.token_kind.TokenKind.TheVariants as kinds
use Rattle.meaning_text.specs.Tokens.{Tok}
use Rattle.meaning_literals.specs.Bytes.{is_one_of}
use Rattle.meaning_literals.specs.Constants.{Constant, Fault}
use Rattle.meaning_literals.specs.Integers.{integer_of}
use Rattle.meaning_literals.specs.Quoted.{char_of}
use Rattle.meaning_conditions.specs.Operators.{Unary, Plus, Negative, Complement, Not, Binary, Multiply, Divide, Remainder, Add, Subtract, LeftShift, RightShift, Less, Greater, LessEqual, GreaterEqual, Equal, NotEqual, BitAnd, BitXor, BitOr, And, Or}

-- a number of 64 bits, of the type intmax_t or uintmax_t (6.10.1 p4)
pub record Number : Type 0 where
  pub bits : ℕ
  pub unsigned : Bool

-- What a token is to an expression. An operator has the index of its token; it may stand before its operand, between
-- two operands, or in both ways.
pub data Sign : Type 0 where
  Literal : Number → Sign
  Operator : (index : ℕ) → (before : Option Unary) → (between : Option Binary) → Sign
  OpenParenthesis : Sign
  CloseParenthesis : Sign
  QuestionMark : Sign
  Colon : Sign
  -- it stands in no expression
  Stranger : Sign

-- the greatest number of intmax_t
abbrev pub greatest_signed : ℕ
greatest_signed = 9223372036854775807

-- the constant is spelled with an unsigned-suffix: no other part of it has this letter (6.4.4.1 p1)
abbrev pub has_unsigned_suffix : List ℕ → Bool
has_unsigned_suffix text = list_any (is_one_of (codes "uU")) text

-- An integer constant is unsigned with an unsigned-suffix, or where intmax_t doesn't hold it (6.4.4.1 p5), whatever kind
-- it has elsewhere in C. One that is refused stands in no expression.
abbrev pub integer_sign : List ℕ → Result Constant Fault → Sign
integer_sign text (Err fault) = Stranger
integer_sign text (Ok constant) =
    Literal (record { bits = constant.bits; unsigned = has_unsigned_suffix text || nat_le (greatest_signed + 1) constant.bits })

-- a character constant is signed (6.10.1 p4)
abbrev pub character_sign : Result Constant Fault → Sign
character_sign (Err fault) = Stranger
character_sign (Ok constant) = Literal (record { bits = constant.bits; unsigned = false })

-- an identifier that is left behind expansion, a keyword too, is 0 (6.10.1 p4)
abbrev pub identifier_sign : Sign
identifier_sign = Literal (record { bits = 0; unsigned = false })

-- an operator that stands between operands alone
abbrev pub between : ℕ → Binary → Sign
between index operator = Operator index None (Some operator)

-- a token of this kind and spelling; a digraph is of the kind of what it stands for
abbrev pub sign_of_kind : ℕ → TokenKind → List ℕ → Sign
sign_of_kind index kinds.Identifier text = identifier_sign
sign_of_kind index kinds.Number text = integer_sign text (integer_of text)
sign_of_kind index kinds.Character text = character_sign (char_of text)
sign_of_kind index kinds.LeftParenthesis text = OpenParenthesis
sign_of_kind index kinds.RightParenthesis text = CloseParenthesis
sign_of_kind index kinds.Question text = QuestionMark
sign_of_kind index kinds.Colon text = Colon
sign_of_kind index kinds.Plus text = Operator index (Some Plus) (Some Add)
sign_of_kind index kinds.Minus text = Operator index (Some Negative) (Some Subtract)
sign_of_kind index kinds.Tilde text = Operator index (Some Complement) None
sign_of_kind index kinds.Exclamation text = Operator index (Some Not) None
sign_of_kind index kinds.Star text = between index Multiply
sign_of_kind index kinds.Slash text = between index Divide
sign_of_kind index kinds.Percent text = between index Remainder
sign_of_kind index kinds.ShiftLeft text = between index LeftShift
sign_of_kind index kinds.ShiftRight text = between index RightShift
sign_of_kind index kinds.Less text = between index Less
sign_of_kind index kinds.Greater text = between index Greater
sign_of_kind index kinds.LessEqual text = between index LessEqual
sign_of_kind index kinds.GreaterEqual text = between index GreaterEqual
sign_of_kind index kinds.EqualEqual text = between index Equal
sign_of_kind index kinds.NotEqual text = between index NotEqual
sign_of_kind index kinds.Ampersand text = between index BitAnd
sign_of_kind index kinds.Caret text = between index BitXor
sign_of_kind index kinds.Bar text = between index BitOr
sign_of_kind index kinds.AndAnd text = between index And
sign_of_kind index kinds.OrOr text = between index Or
sign_of_kind index kind text = Stranger

-- the token with this index
abbrev pub sign_of : ℕ → Tok → Sign
sign_of index token = sign_of_kind index token.kind token.text

-- tokens, the first of which has this index
abbrev pub signs_from : ℕ → List Tok → List Sign
signs_from index [] = []
signs_from index (token ∷ tokens) = sign_of index token ∷ signs_from (index + 1) tokens
