-- The expressions behind `#if` (C11 6.10.1 with 6.5.15 down to 6.5.3, 6.5.1), and where a list of tokens goes wrong.
use Rattle.std.specs.Prelude.{ℕ, suc, ◌+◌, ◌<◌, ◌≤◌, Option, Some, List, [], ◌∷◌, ◌++◌, length, take}
use Rattle.meaning_text.specs.Tokens.{Tok}
use Rattle.meaning_conditions.specs.Operators.{Unary, Binary, rank, conditional_rank, condition_rank, unary_rank}
use Rattle.meaning_conditions.specs.Signs.{Number, Sign, Literal, Operator, OpenParenthesis, CloseParenthesis, QuestionMark, Colon, signs_from}

-- an expression without its parentheses; an operator between two operands keeps the index of its token
pub data Tree : Type 0 where
  Leaf : Number → Tree
  One : Unary → Tree → Tree
  Two : (index : ℕ) → Binary → Tree → Tree → Tree
  Choice : (condition middle other : Tree) → Tree

-- The signs are an expression with this tree, whose outermost operator binds at least as strongly as the rank says.
pub data Expression : ℕ → List Sign → Tree → Type 0 where
  -- 6.5.1
  literal : {least : ℕ} {number : Number} → Expression least (Literal number ∷ []) (Leaf number)
  parenthesized : {least : ℕ} {inner : List Sign} {tree : Tree} → Expression conditional_rank inner tree
      → Expression least (OpenParenthesis ∷ inner ++ CloseParenthesis ∷ []) tree
  -- 6.5.3
  prefixed : {least index : ℕ} {operator : Unary} {between : Option Binary} {operand : List Sign} {tree : Tree}
      → least ≤ unary_rank → Expression unary_rank operand tree
      → Expression least (Operator index (Some operator) between ∷ operand) (One operator tree)
  -- 6.5.5 to 6.5.14: operators of one rank are grouped from the left
  joined : {least index : ℕ} {operator : Binary} {left right : List Sign} {a b : Tree} (before : Option Unary)
      → least ≤ rank operator → Expression (rank operator) left a → Expression (suc (rank operator)) right b
      → Expression least (left ++ Operator index before (Some operator) ∷ right) (Two index operator a b)
  -- 6.5.15: what stands between `?` and `:` is any expression, and what follows may be conditional again
  conditional : {least : ℕ} {condition middle other : List Sign} {a b c : Tree}
      → least ≤ conditional_rank → Expression condition_rank condition a → Expression conditional_rank middle b
      → Expression conditional_rank other c → Expression least (condition ++ QuestionMark ∷ (middle ++ Colon ∷ other)) (Choice a b c)

-- the tokens are an expression with this tree
abbrev pub IsExpression : List Tok → Tree → Type 0
IsExpression tokens tree = Expression conditional_rank (signs_from 0 tokens) tree

-- some expression goes on with what may follow these tokens
abbrev pub GoesOn : List Tok → Type 0
GoesOn tokens = (more : List Tok) × (tree : Tree) × IsExpression (tokens ++ more) tree

-- The tokens are no expression. Up to this index some expression goes on from them, and none with the token there; where
-- no token stands there, an expression is only begun.
pub record GoesWrongAt (tokens : List Tok) (index : ℕ) : Type 0 where
  pub none : (tree : Tree) → IsExpression tokens tree → ⊥
  pub within : index ≤ length tokens
  pub goes_on : GoesOn (take index tokens)
  pub ends_here : index < length tokens → GoesOn (take (index + 1) tokens) → ⊥
