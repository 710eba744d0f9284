-- What each symbol of expressions opens to.
use Rattle.std.proofs.Common.{◌≡◌, ℕ, Bool, true, List, [], ◌∷◌, ◌++◌, Option, Some, None, IfSome, take, refl, sym, ap, subst, if◌then◌else◌}
use Rattle.vocabulary.specs.declared.token_class.TokenClass.{TokenClass}
use Rattle.vocabulary.specs.declared.symbol.Symbol.{Symbol}
use Rattle.vocabulary.specs.declared.token_class.TokenClass.TheVariants.{Identifier, Number, Character, String, Ampersand, Star, Exclamation}
use Rattle.vocabulary.specs.declared.action.Action.TheVariants.{UseName, MakeIntegerConstant, MakeCharacterConstant, MakeOver}
use Rattle.vocabulary.specs.declared.node_kind.NodeKind.TheVariants as kinds
use Rattle.vocabulary.specs.declared.role.Role.TheVariants.{Evaluated, Condition}
use Rattle.vocabulary.specs.declared.symbol.Symbol.TheVariants.{CastExpression, UnaryExpression, PrimaryExpression, PostfixTail, StringLiterals, MultiplicativeExpression, AdditiveExpression, ShiftExpression, RelationalExpression, EqualityExpression, AndExpression, ExclusiveOrExpression, InclusiveOrExpression, LogicalAndExpression, LogicalOrExpression, ConditionalExpression, AssignmentExpression, Expression, MultiplicativeTail, AdditiveTail, ShiftTail, RelationalTail, EqualityTail, AndTail, ExclusiveOrTail, InclusiveOrTail, LogicalAndTail, LogicalOrTail, ConditionalTail, AssignmentTail, CommaTail}
use Rattle.vocabulary.specs.declared.production_item.ProductionItem.{ProductionItem}
use Rattle.vocabulary.specs.declared.production_item.ProductionItem.TheVariants.{Token, Do, Nonterminal}
use Rattle.meaning_grammar.specs.Classes.{is_among}
use Rattle.meaning_grammar.specs.ClassLists.{expression_start}
use Rattle.meaning_grammar.specs.Choice.{choice}
use Rattle.c_opening.specs.Opening.{Opens, by_row, by_rows, begins_with_symbol, operand_and_tails, IsFront}

-- the only row of a symbol, where its look holds
taken : (test : Bool) (row : List ProductionItem) → test ≡ true → (if test then Some row else None) ≡ Some row
taken test row is = ap (λ (one : Bool). if one then Some row else None) is

module _ (first second : TokenClass) (begins : is_among expression_start first ≡ true) where
  opens-MultiplicativeExpression : Opens first second MultiplicativeExpression (Nonterminal CastExpression ∷ Nonterminal MultiplicativeTail ∷ [])
  opens-MultiplicativeExpression = by_row _ _ (taken _ _ begins)

  pub opens-AdditiveExpression : Opens first second AdditiveExpression (take 3 operand_and_tails)
  opens-AdditiveExpression = by_rows AdditiveExpression MultiplicativeExpression (Nonterminal AdditiveTail ∷ []) (take 2 operand_and_tails) (taken _ _ begins) refl opens-MultiplicativeExpression

  pub opens-ShiftExpression : Opens first second ShiftExpression (take 4 operand_and_tails)
  opens-ShiftExpression = by_rows ShiftExpression AdditiveExpression (Nonterminal ShiftTail ∷ []) (take 3 operand_and_tails) (taken _ _ begins) refl opens-AdditiveExpression

  pub opens-RelationalExpression : Opens first second RelationalExpression (take 5 operand_and_tails)
  opens-RelationalExpression = by_rows RelationalExpression ShiftExpression (Nonterminal RelationalTail ∷ []) (take 4 operand_and_tails) (taken _ _ begins) refl opens-ShiftExpression

  pub opens-EqualityExpression : Opens first second EqualityExpression (take 6 operand_and_tails)
  opens-EqualityExpression = by_rows EqualityExpression RelationalExpression (Nonterminal EqualityTail ∷ []) (take 5 operand_and_tails) (taken _ _ begins) refl opens-RelationalExpression

  pub opens-AndExpression : Opens first second AndExpression (take 7 operand_and_tails)
  opens-AndExpression = by_rows AndExpression EqualityExpression (Nonterminal AndTail ∷ []) (take 6 operand_and_tails) (taken _ _ begins) refl opens-EqualityExpression

  pub opens-ExclusiveOrExpression : Opens first second ExclusiveOrExpression (take 8 operand_and_tails)
  opens-ExclusiveOrExpression = by_rows ExclusiveOrExpression AndExpression (Nonterminal ExclusiveOrTail ∷ []) (take 7 operand_and_tails) (taken _ _ begins) refl opens-AndExpression

  pub opens-InclusiveOrExpression : Opens first second InclusiveOrExpression (take 9 operand_and_tails)
  opens-InclusiveOrExpression = by_rows InclusiveOrExpression ExclusiveOrExpression (Nonterminal InclusiveOrTail ∷ []) (take 8 operand_and_tails) (taken _ _ begins) refl opens-ExclusiveOrExpression

  pub opens-LogicalAndExpression : Opens first second LogicalAndExpression (take 10 operand_and_tails)
  opens-LogicalAndExpression = by_rows LogicalAndExpression InclusiveOrExpression (Nonterminal LogicalAndTail ∷ []) (take 9 operand_and_tails) (taken _ _ begins) refl opens-InclusiveOrExpression

  pub opens-LogicalOrExpression : Opens first second LogicalOrExpression (take 11 operand_and_tails)
  opens-LogicalOrExpression = by_rows LogicalOrExpression LogicalAndExpression (Nonterminal LogicalOrTail ∷ []) (take 10 operand_and_tails) (taken _ _ begins) refl opens-LogicalAndExpression

  pub opens-ConditionalExpression : Opens first second ConditionalExpression (take 12 operand_and_tails)
  opens-ConditionalExpression = by_rows ConditionalExpression LogicalOrExpression (Nonterminal ConditionalTail ∷ []) (take 11 operand_and_tails) (taken _ _ begins) refl opens-LogicalOrExpression

  pub opens-AssignmentExpression : Opens first second AssignmentExpression (take 13 operand_and_tails)
  opens-AssignmentExpression = by_rows AssignmentExpression ConditionalExpression (Nonterminal AssignmentTail ∷ []) (take 12 operand_and_tails) (taken _ _ begins) refl opens-ConditionalExpression

  pub opens-Expression : Opens first second Expression (take 14 operand_and_tails)
  opens-Expression = by_rows Expression AssignmentExpression (Nonterminal CommaTail ∷ []) (take 13 operand_and_tails) (taken _ _ begins) refl opens-AssignmentExpression

-- Operands

-- an operand of its own token
primary : (first second : TokenClass) (row : List ProductionItem) → choice CastExpression first second ≡ Some (Nonterminal UnaryExpression ∷ [])
    → choice UnaryExpression first second ≡ Some (Nonterminal PrimaryExpression ∷ Nonterminal PostfixTail ∷ [])
    → choice PrimaryExpression first second ≡ Some row → begins_with_symbol row ≡ true → begins_with_symbol (row ++ Nonterminal PostfixTail ∷ []) ≡ true
    → Opens first second CastExpression ((row ++ Nonterminal PostfixTail ∷ []) ++ [])
primary first second row cast unary is begins still =
    by_rows CastExpression UnaryExpression [] (row ++ Nonterminal PostfixTail ∷ []) cast still
    (by_rows UnaryExpression PrimaryExpression (Nonterminal PostfixTail ∷ []) row unary begins (by_row PrimaryExpression row is))

pub name_opens : (first second : TokenClass) → first ≡ Identifier → Opens first second CastExpression (Token Identifier ∷ Do UseName ∷ Nonterminal PostfixTail ∷ [])
name_opens first second is = subst (λ one. Opens one second CastExpression (Token Identifier ∷ Do UseName ∷ Nonterminal PostfixTail ∷ [])) (sym is) (primary Identifier second (Token Identifier ∷ Do UseName ∷ []) refl refl refl refl refl)

pub number_opens : (first second : TokenClass) → first ≡ Number → Opens first second CastExpression (Token Number ∷ Do MakeIntegerConstant ∷ Nonterminal PostfixTail ∷ [])
number_opens first second is = subst (λ one. Opens one second CastExpression (Token Number ∷ Do MakeIntegerConstant ∷ Nonterminal PostfixTail ∷ [])) (sym is) (primary Number second (Token Number ∷ Do MakeIntegerConstant ∷ []) refl refl refl refl refl)

pub character_opens : (first second : TokenClass) → first ≡ Character → Opens first second CastExpression (Token Character ∷ Do MakeCharacterConstant ∷ Nonterminal PostfixTail ∷ [])
character_opens first second is = subst (λ one. Opens one second CastExpression (Token Character ∷ Do MakeCharacterConstant ∷ Nonterminal PostfixTail ∷ [])) (sym is) (primary Character second (Token Character ∷ Do MakeCharacterConstant ∷ []) refl refl refl refl refl)

pub string_opens : (first second : TokenClass) → first ≡ String → Opens first second CastExpression (Nonterminal StringLiterals ∷ Nonterminal PostfixTail ∷ [])
string_opens first second is = subst (λ one. Opens one second CastExpression (Nonterminal StringLiterals ∷ Nonterminal PostfixTail ∷ [])) (sym is) (primary String second (Nonterminal StringLiterals ∷ []) refl refl refl refl refl)

pub address_opens : (first second : TokenClass) → first ≡ Ampersand → Opens first second CastExpression (Token Ampersand ∷ Nonterminal CastExpression ∷ Do (MakeOver kinds.Address Evaluated) ∷ [])
address_opens first second is =
    subst (λ one. Opens one second CastExpression (Token Ampersand ∷ Nonterminal CastExpression ∷ Do (MakeOver kinds.Address Evaluated) ∷ [])) (sym is)
    (by_rows CastExpression UnaryExpression [] (Token Ampersand ∷ Nonterminal CastExpression ∷ Do (MakeOver kinds.Address Evaluated) ∷ []) refl refl (by_row UnaryExpression (Token Ampersand ∷ Nonterminal CastExpression ∷ Do (MakeOver kinds.Address Evaluated) ∷ []) refl))

pub indirection_opens : (first second : TokenClass) → first ≡ Star → Opens first second CastExpression (Token Star ∷ Nonterminal CastExpression ∷ Do (MakeOver kinds.Indirection Evaluated) ∷ [])
indirection_opens first second is =
    subst (λ one. Opens one second CastExpression (Token Star ∷ Nonterminal CastExpression ∷ Do (MakeOver kinds.Indirection Evaluated) ∷ [])) (sym is)
    (by_rows CastExpression UnaryExpression [] (Token Star ∷ Nonterminal CastExpression ∷ Do (MakeOver kinds.Indirection Evaluated) ∷ []) refl refl (by_row UnaryExpression (Token Star ∷ Nonterminal CastExpression ∷ Do (MakeOver kinds.Indirection Evaluated) ∷ []) refl))

pub negation_opens : (first second : TokenClass) → first ≡ Exclamation → Opens first second CastExpression (Token Exclamation ∷ Nonterminal CastExpression ∷ Do (MakeOver kinds.LogicalNot Condition) ∷ [])
negation_opens first second is =
    subst (λ one. Opens one second CastExpression (Token Exclamation ∷ Nonterminal CastExpression ∷ Do (MakeOver kinds.LogicalNot Condition) ∷ [])) (sym is)
    (by_rows CastExpression UnaryExpression [] (Token Exclamation ∷ Nonterminal CastExpression ∷ Do (MakeOver kinds.LogicalNot Condition) ∷ []) refl refl (by_row UnaryExpression (Token Exclamation ∷ Nonterminal CastExpression ∷ Do (MakeOver kinds.LogicalNot Condition) ∷ []) refl))

-- what is answered for a symbol is a front of them
pub opened-for :
    {Items : Type 0} (now : Items → List ProductionItem) (symbol other : Symbol) (next : TokenClass) (count : ℕ) → symbol ≡ other
    → ((second : TokenClass) → is_among expression_start next ≡ true → Opens next second other (take count operand_and_tails))
    → (result : Option Items) → IfSome result (λ items. IsFront next count (now items))
    → IfSome result (λ items. (second : TokenClass) → Opens next second symbol (now items))
opened-for now symbol other next count is opens None front = tt
opened-for now symbol other next count is opens (Some items) front =
    λ second. subst (λ one. Opens next second one (now items)) (sym is)
    (subst (λ row. Opens next second other row) (sym front.0) (opens second front.1))
