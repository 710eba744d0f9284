-- Where the plain program stands, some expression goes on: what is open can be closed.
use Rattle.std.proofs.Common.{◌≡◌, ℕ, suc, ◌+◌, false, Some, List, [], ◌∷◌, ◌++◌, refl, sym, ap, ◌∙◌, subst, append_assoc, arith}
use Rattle.std.proofs.lemmas.List.{append-nil}
use Rattle.vocabulary.specs.declared.token_kind.TokenKind.{TokenKind}
use Rattle.vocabulary.specs.declared.token_kind.TokenKind.TheVariants as kinds
use Rattle.meaning_text.specs.Tokens.{Tok}
use Rattle.meaning_conditions.specs.Operators.{rank, conditional_rank, unary_rank}
use Rattle.meaning_conditions.specs.Signs.{Number, Sign, Literal, Operator, OpenParenthesis, CloseParenthesis, QuestionMark, Colon, sign_of, signs_from}
use Rattle.meaning_conditions.specs.Expressions.{Tree, Leaf, One, Two, Choice, Expression, literal, parenthesized, prefixed, joined, conditional}
use Rattle.meaning_conditions.specs.plain.Reading.{Frame, Parenthesis, Prefix, Infix, Condition, Middle, State, BeforeOperand, BehindOperand}
use Rattle.meaning_conditions.proofs.Standing.{Fits, Waits, weaker, Fits-unary, Stands}

-- a token of this kind
abbrev some_token : TokenKind → Tok
some_token kind = record { kind = kind; text = []; at = record { file = 0; line = 1; column = 1 }; space_before = false; line_start = false }

abbrev zero_number : Number
zero_number = record { bits = 0; unsigned = false }

-- tokens that close what is open behind an operand
abbrev closing : List (Frame Tree) → List Tok
closing [] = []
closing (Parenthesis ∷ frames) = some_token kinds.RightParenthesis ∷ closing frames
closing (Prefix operator ∷ frames) = closing frames
closing (Infix index operator a ∷ frames) = closing frames
closing (Condition a ∷ frames) = some_token kinds.Colon ∷ some_token kinds.Identifier ∷ closing frames
closing (Middle a b ∷ frames) = closing frames

-- the signs, and tokens behind them that have the indices from here on, are an expression
abbrev Closed : ℕ → List Sign → List Tok → Type 0
Closed index signs more = (tree : Tree) × Expression conditional_rank (signs ++ signs_from index more) tree

-- one token more
Closed-before : (index : ℕ) (signs : List Sign) (token : Tok) (more : List Tok) → Closed (index + 1) (signs ++ sign_of index token ∷ []) more → Closed index signs (token ∷ more)
Closed-before index signs token more closed =
    (closed.0, subst (λ s. Expression conditional_rank s closed.0) (append_assoc signs (sign_of index token ∷ []) (signs_from (index + 1) more)) closed.1)

closed :
    (frames : List (Frame Tree)) (most index : ℕ) (signs before operand : List Sign) (tree : Tree) → signs ≡ before ++ operand → Waits frames before
    → Expression most operand tree → Fits most frames → Closed index signs (closing frames)
closed [] most index signs before operand tree split waits expression fits =
    let same : operand ≡ signs ++ [] = sym (append-nil signs ∙ split ∙ ap (λ s. s ++ operand) waits) in
    (tree, subst (λ s. Expression conditional_rank s tree) same (weaker conditional_rank most operand tree expression (omega arith)))
closed (Parenthesis ∷ frames) most index signs before operand tree split waits expression fits =
    let inner = weaker conditional_rank most operand tree expression (omega arith) in
    let whole : signs ++ CloseParenthesis ∷ [] ≡ waits.0 ++ (OpenParenthesis ∷ operand ++ CloseParenthesis ∷ []) =
    ap (λ s. s ++ CloseParenthesis ∷ []) split ∙ append_assoc before operand (CloseParenthesis ∷ []) ∙ waits.2 (operand ++ CloseParenthesis ∷ []) in
    Closed-before index signs (some_token kinds.RightParenthesis) (closing frames)
    (closed frames unary_rank (index + 1) (signs ++ CloseParenthesis ∷ []) waits.0 (OpenParenthesis ∷ operand ++ CloseParenthesis ∷ []) tree whole waits.1 (parenthesized inner) (Fits-unary frames))
closed (Prefix operator ∷ frames) most index signs before operand tree split waits expression fits =
    closed frames unary_rank index signs waits.0 (Operator waits.2 (Some operator) waits.3 ∷ operand) (One operator tree) (split ∙ waits.4 operand) waits.1
    (prefixed (omega arith) (weaker unary_rank most operand tree expression fits)) (Fits-unary frames)
closed (Infix place operator a ∷ frames) most index signs before operand tree split waits expression fits =
    closed frames (rank operator) index signs waits.0 (waits.3 ++ Operator place waits.5 (Some operator) ∷ operand) (Two place operator a tree)
    (split ∙ waits.6 operand) waits.1 (joined waits.5 (omega arith) waits.4 (weaker (suc (rank operator)) most operand tree expression fits)) waits.2
closed (Condition a ∷ frames) most index signs before operand tree split waits expression fits =
    let middle = weaker conditional_rank most operand tree expression (omega arith) in
    let zero_sign : Sign = Literal zero_number in
    let parted : (signs ++ Colon ∷ []) ++ zero_sign ∷ [] ≡ waits.0 ++ (waits.3 ++ QuestionMark ∷ (operand ++ Colon ∷ zero_sign ∷ [])) =
    append_assoc signs (Colon ∷ []) (zero_sign ∷ []) ∙ ap (λ s. s ++ Colon ∷ zero_sign ∷ []) split ∙ append_assoc before operand (Colon ∷ zero_sign ∷ [])
    ∙ waits.5 (operand ++ Colon ∷ zero_sign ∷ []) in
    Closed-before index signs (some_token kinds.Colon) (some_token kinds.Identifier ∷ closing frames)
    (Closed-before (index + 1) (signs ++ Colon ∷ []) (some_token kinds.Identifier) (closing frames)
    (closed frames conditional_rank (index + 1 + 1) ((signs ++ Colon ∷ []) ++ zero_sign ∷ []) waits.0 (waits.3 ++ QuestionMark ∷ (operand ++ Colon ∷ zero_sign ∷ []))
    (Choice a tree (Leaf zero_number)) parted waits.1 (conditional (omega arith) waits.4 middle literal) waits.2))
closed (Middle a b ∷ frames) most index signs before operand tree split waits expression fits =
    closed frames conditional_rank index signs waits.0 (waits.3 ++ QuestionMark ∷ (waits.5 ++ Colon ∷ operand)) (Choice a b tree) (split ∙ waits.7 operand) waits.1
    (conditional (omega arith) waits.4 waits.6 (weaker conditional_rank most operand tree expression (omega arith))) waits.2

-- what was read goes on to an expression
pub completed : (state : State Tree) (signs : List Sign) (index : ℕ) → Stands state signs → (more : List Tok) × Closed index signs more
completed (BeforeOperand frames) signs index at =
    let zero_sign : Sign = Literal zero_number in (
      some_token kinds.Identifier ∷ closing frames,
      Closed-before index signs (some_token kinds.Identifier) (closing frames)
          (closed frames unary_rank (index + 1) (signs ++ zero_sign ∷ []) signs (zero_sign ∷ []) (Leaf zero_number) refl at literal (Fits-unary frames)),
    )
completed (BehindOperand frames tree) signs index at = (closing frames, closed frames unary_rank index signs at.0 at.1 tree at.2 at.3 (at.4 unary_rank) (Fits-unary frames))
