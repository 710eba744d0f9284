-- What stands in the place of a symbol once rows have taken the place of whatever stands first, while no terminal is taken.
use Rattle.std.specs.Prelude.{◌≡◌, ℕ, Bool, true, false, List, [], ◌∷◌, ◌++◌, Some, take}
use Rattle.vocabulary.specs.declared.token_class.TokenClass.{TokenClass}
use Rattle.vocabulary.specs.declared.symbol.Symbol.{Symbol}
use Rattle.vocabulary.specs.declared.symbol.Symbol.TheVariants.{CastExpression, MultiplicativeTail, AdditiveTail, ShiftTail, RelationalTail, EqualityTail, AndTail, ExclusiveOrTail, InclusiveOrTail, LogicalAndTail, LogicalOrTail, ConditionalTail, AssignmentTail, CommaTail}
use Rattle.vocabulary.specs.declared.production_item.ProductionItem.{ProductionItem}
use Rattle.vocabulary.specs.declared.production_item.ProductionItem.TheVariants.{Token, Nonterminal}
use Rattle.meaning_grammar.specs.Classes.{is_among}
use Rattle.meaning_grammar.specs.ClassLists.{expression_start}
use Rattle.meaning_grammar.specs.Choice.{choice}

-- a token or a symbol stands first
abbrev pub begins_with_symbol : List ProductionItem → Bool
begins_with_symbol (Token class_ ∷ items) = true
begins_with_symbol (Nonterminal symbol ∷ items) = true
begins_with_symbol items = false

-- before tokens of these two classes the symbol has this row, or one that begins with a symbol in whose place others stand
pub data Opens (first second : TokenClass) : Symbol → List ProductionItem → Type 0 where
  by_row : (symbol : Symbol) (row : List ProductionItem) → choice symbol first second ≡ Some row → Opens first second symbol row
  by_rows : (symbol inner : Symbol) (tail row : List ProductionItem)
      → choice symbol first second ≡ Some (Nonterminal inner ∷ tail) → begins_with_symbol row ≡ true → Opens first second inner row
      → Opens first second symbol (row ++ tail)

-- an operand, and behind it the operators of each kind
abbrev pub operand_and_tails : List ProductionItem
operand_and_tails =
    Nonterminal CastExpression ∷ Nonterminal MultiplicativeTail ∷ Nonterminal AdditiveTail ∷ Nonterminal ShiftTail ∷ Nonterminal RelationalTail ∷ Nonterminal EqualityTail ∷ Nonterminal AndTail ∷ Nonterminal ExclusiveOrTail ∷ Nonterminal InclusiveOrTail ∷ Nonterminal LogicalAndTail ∷ Nonterminal LogicalOrTail ∷ Nonterminal ConditionalTail ∷ Nonterminal AssignmentTail ∷ Nonterminal CommaTail ∷ []

-- a front of these, before a token with which an expression begins
abbrev pub IsFront : TokenClass → ℕ → List ProductionItem → Type 0
IsFront next count items = (items ≡ take count operand_and_tails) × (is_among expression_start next ≡ true)
