-- Operators behind an operand that aren't there: their symbols open to nothing.
use Rattle.std.specs.Prelude.{◌≡◌, List, [], Some}
use Rattle.std.specs.List.{AllByRecursion}
use Rattle.vocabulary.specs.declared.token_class.TokenClass.{TokenClass}
use Rattle.vocabulary.specs.declared.production_item.ProductionItem.{ProductionItem}
use Rattle.vocabulary.specs.declared.production_item.ProductionItem.TheVariants.{Nonterminal}
use Rattle.meaning_grammar.specs.Choice.{choice}

-- before tokens of these two classes it is a symbol that opens to nothing
abbrev pub IsAbsent : (first second : TokenClass) → ProductionItem → Type 0
IsAbsent first second (Nonterminal symbol) = choice symbol first second ≡ Some []
IsAbsent first second item = ⊥

abbrev pub AreAbsent : (first second : TokenClass) → List ProductionItem → Type 0
AreAbsent first second items = AllByRecursion (IsAbsent first second) items
