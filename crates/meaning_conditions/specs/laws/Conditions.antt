-- What holds of the values of `#if`.
use Rattle.std.specs.Prelude.{◌≡◌, ℕ, ◌<◌, ◌≤◌, List, length, take}
use Rattle.meaning_text.specs.Tokens.{Tok}
use Rattle.meaning_conditions.specs.Expressions.{Tree, IsExpression, GoesOn, GoesWrongAt}
use Rattle.meaning_conditions.specs.Answers.{Answer, IsIfAnswer}
use Rattle.meaning_conditions.specs.plain.Reading.{answer_of}

-- a list of tokens is one tree at most
abbrev pub ListsAreOneTree : Type 0
ListsAreOneTree = (tokens : List Tok) (tree other : Tree) → IsExpression tokens tree → IsExpression tokens other → tree ≡ other

-- it has the answer of the plain program
abbrev pub AnswersExist : Type 0
AnswersExist = (tokens : List Tok) → IsIfAnswer tokens (answer_of tokens)

-- and no other
abbrev pub AnswersAreThose : Type 0
AnswersAreThose = (tokens : List Tok) (answer : Answer) → IsIfAnswer tokens answer → answer ≡ answer_of tokens

-- each front up to a bad index goes on to some expression
abbrev pub FrontsGoOn : Type 0
FrontsGoOn = (tokens : List Tok) (index : ℕ) → GoesWrongAt tokens index → (count : ℕ) → count ≤ index → GoesOn (take count tokens)

-- and no longer one does
abbrev pub LongerFrontsEnd : Type 0
LongerFrontsEnd =
    (tokens : List Tok) (index : ℕ) → GoesWrongAt tokens index → (count : ℕ) → index < count → count ≤ length tokens → GoesOn (take count tokens) → ⊥
