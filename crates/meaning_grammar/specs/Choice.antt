-- The row of a symbol that the next two tokens choose.
use Rattle.std.specs.Prelude.{List, [], ◌∷◌, Option, Some, None, if◌then◌else◌}
use Rattle.vocabulary.specs.declared.token_class.TokenClass.{TokenClass}
use Rattle.vocabulary.specs.declared.symbol.Symbol.{Symbol}
use Rattle.vocabulary.specs.declared.production_item.ProductionItem.{ProductionItem}
use Rattle.meaning_grammar.specs.Productions.{productions}
use Rattle.meaning_grammar.specs.Looks.{Look, look_holds, looks}

-- the first of these rows whose look holds
abbrev pub first_row : TokenClass → TokenClass → List Look → List (List ProductionItem) → Option (List ProductionItem)
first_row first second [] rows = None
first_row first second (look ∷ looks) [] = None
first_row first second (look ∷ looks) (row ∷ rows) =
    if look_holds look first second then Some row else first_row first second looks rows

-- the row that is taken for a symbol before tokens of these two classes; where there is none, nothing goes on there
abbrev pub choice : Symbol → TokenClass → TokenClass → Option (List ProductionItem)
choice symbol first second = first_row first second (looks symbol) (productions symbol)
